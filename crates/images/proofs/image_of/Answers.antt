-- `images::image_of`: the header, the tables and the ready order, put one after the other.
use Prim.Native.Nat.{ℕ}
use lib.ListN.{length-replicate}
use Rattle.image.specs.Image.{image_size}
use Rattle.images.proofs.Laws.{made}
use Rattle.images.proofs.image_of.Goals as goal

pub returns : goal.returns
returns c =
    made c.args.s _ _ _ _ _ _ _ _ (length-replicate {A = ℕ} image_size 0) c.ready_places.ensures
    c.put_header.ensures c.put_tasks.ensures c.put_semaphores.ensures c.put_pools.ensures c.put_queues.ensures
    c.put_order.ensures
