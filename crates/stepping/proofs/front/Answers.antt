-- `stepping::front`: the bytes copied over as many others.
use Prim.Native.Nat.{ℕ}
use lib.ListN.{length-replicate}
use Rattle.image.specs.Image.{image_size}
use Rattle.replies.proofs.Laws.{fronted}
use Rattle.stepping.proofs.front.Goals as goal

pub returns : goal.returns
returns c = fronted _ _ _ c.requires (length-replicate {A = ℕ} image_size 0) c.copy.ensures
