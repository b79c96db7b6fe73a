-- The measure is the number: the digits before the last two are those of its hundredth part.
use Rattle.text.proofs.+put_decimal.Given as goal

abbrev pub decreases-put_decimal : goal.decreases-put_decimal
decreases-put_decimal l = l.n
