-- What a writer wrote into the bytes that it is lent.
-- Assumes nothing.
use Rattle.std.specs.Prelude.{ℕ, ◌+◌, ◌≡◌, List, ◌++◌, length, take}
use Rattle.text.specs.declared.Writer.{Writer}

-- a text stands behind what was written before; the bytes are the lent ones still, as many as they were
abbrev pub Wrote : Writer → Writer → List ℕ → Type 0
Wrote before after text =
    (after.at ≡ before.at + length text) × (take after.at after.bytes.now ≡ take before.at before.bytes.now ++ text)
    × (length after.bytes.now ≡ length before.bytes.now) × (after.bytes.ghost_name ≡ before.bytes.ghost_name)
