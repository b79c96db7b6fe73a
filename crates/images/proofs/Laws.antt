-- The tables put one after the other make the image.
-- Assumes nothing.
use Prim.Native.Nat.{ℕ, ◌≤◌}
use native.Mathlib.Omega.{arith}
use mathlib.Core.Path.{◌≡◌, ap, ◌∙◌}
use mathlib.Core.List.{List, [], ◌∷◌, ◌++◌}
use lib.ListN.{length, drop}
use lib.Seq.{sets}
use Rattle.scope.specs.declared.State.{State}
use Rattle.fields.specs.Fields.{put_fields}
use Rattle.fields.specs.Columns.{part}
use Rattle.fields.proofs.Stores.{front}
use Rattle.fields.proofs.Bytes.{part_all}
use Rattle.orders.specs.Places.{order_places}
use Rattle.image.specs.Image.{each, bytes, header_numbers, task_fields, sem_fields, pool_fields, queue_fields, image_of, image_size, task_bytes, sem_bytes, pool_bytes, queue_bytes, tasks_at, semaphores_at, pools_at, queues_at, order_at}
use Rattle.image.proofs.Back.{image_length}
use Rattle.image.proofs.Image.{put_whole}

module _ (s : State) where
  pub made : (b b0 b1 b2 b3 b4 b5 places : List ℕ) → length b ≡ image_size → places ≡ order_places s.line.seat
      → b0 ≡ put_fields 4 10 (each 4 header_numbers ∷ []) 0 b
      → b1 ≡ put_fields task_bytes 32 (task_fields s.line s.tasks) tasks_at b0
      → b2 ≡ put_fields sem_bytes 16 (sem_fields s.semaphores) semaphores_at b1
      → b3 ≡ put_fields pool_bytes 8 (pool_fields s.pools) pools_at b2
      → b4 ≡ put_fields queue_bytes 8 (queue_fields s.queues) queues_at b3
      → b5 ≡ put_fields 32 1 (bytes 32 places ∷ []) order_at b4
      → b5 ≡ image_of s
  made b b0 b1 b2 b3 b4 b5 places h p e0 e1 e2 e3 e4 e5 =
      let q1 = e1 ∙ ap (λ (r : List ℕ). put_fields task_bytes 32 (task_fields s.line s.tasks) tasks_at r) e0 in
      let q2 = e2 ∙ ap (λ (r : List ℕ). put_fields sem_bytes 16 (sem_fields s.semaphores) semaphores_at r) q1 in
      let q3 = e3 ∙ ap (λ (r : List ℕ). put_fields pool_bytes 8 (pool_fields s.pools) pools_at r) q2 in
      let q4 = e4 ∙ ap (λ (r : List ℕ). put_fields queue_bytes 8 (queue_fields s.queues) queues_at r) q3 in
      e5
      ∙ ap (λ (x : List ℕ). put_fields 32 1 (bytes 32 x ∷ []) order_at b4) p
      ∙ ap (λ (r : List ℕ). put_fields 32 1 (bytes 32 (order_places s.line.seat) ∷ []) order_at r) q4
      ∙ put_whole s b h

-- and an image copied over the front of a slice leaves what lies past it
pub copied : (s : State) (image out out' : List ℕ) → image ≡ image_of s → image_size ≤ length out → out' ≡ sets out 0 (part image_size 0 image)
    → out' ≡ image_of s ++ drop image_size out
copied s image out out' e h f =
    let n : length image ≡ image_size = ap length e ∙ image_length s in
    let l : length (image_of s) ≤ length out = omega (arith, image_length s) in
    f
    ∙ ap (λ (r : List ℕ). sets out 0 r) (part_all image_size image n ∙ e)
    ∙ front (image_of s) out l
    ∙ ap (λ (k : ℕ). image_of s ++ drop k out) (image_length s)
