-- `places::order_right`: without a buffer every place is 0; else the buffers from k on are gathered, and the words that come of it
-- are those of a right order.
use Prim.Native.Nat.{ℕ, suc, ◌+◌, ◌-◌, ◌*◌, ◌^◌, ◌≤◌, ◌<◌}
use native.Mathlib.Omega.{arith}
use mathlib.Core.Path.{◌≡◌, sym, ap, ◌∙◌}
use lib.ListN.{get_or}
use lib.Dec.{leb}
use borrow.Author.Rules.{rules}
use Rattle.scope.specs.Choice.{every}
use Rattle.scope.specs.Places.{row_of}
use Rattle.scope.specs.Rules.{order_right}
use Rattle.scope.proofs.Places.{length_row, row_at}
use Rattle.places.proofs.Gathering.{gathering_start, one_most, room_for, gathering_more, gathering_done, free_few, clear_right, width, order_by}
use Rattle.places.proofs.order_right.Goals as goal

pub returns-then-n-eq0 : goal.returns-then-n-eq0
returns-then-n-eq0 c =
    let a = c.args in
    c.none_above.ensures
    ∙ clear_right (row_of a.places.now a.i) a.out (length_row a.places.now a.i c.requires.0)
    ∙ ap (order_right (row_of a.places.now a.i) a.out) (sym c.if-n-eq0.true)

pub loop-k-init : goal.loop-k-init
loop-k-init c = gathering_start _

pub overflow_mul-taken : goal.overflow_mul-taken
overflow_mul-taken c =
    let l = c.loop-k in
    let next : l.k ≡ suc (l.k - 1) = omega arith in
    let room : l.taken * 2 + 1 < 18446744073709551616 = room_for l.invariant (l.k - 1) next in
    search rules

pub overflow_add-taken : goal.overflow_add-taken
overflow_add-taken c =
    let l = c.loop-k in
    let next : l.k ≡ suc (l.k - 1) = omega arith in
    let room : l.taken * 2 + 1 < 18446744073709551616 = room_for l.invariant (l.k - 1) next in
    let one : c.has_place.result ≤ 1 = one_most _ c.has_place.ensures in
    search rules

pub loop-k-preserved : goal.loop-k-preserved
loop-k-preserved c =
    let l = c.loop-k in
    let a = c.args in
    let next : l.k ≡ suc (l.k - 1) = omega arith in
    gathering_more l.invariant (l.k - 1) next _ _ _ (sym (row_at a.places.now a.i c.requires.0 (l.k - 1) (omega (arith, l.invariant.upto)))) c.has_place.ensures c.place_bit-seen.ensures

pub overflow_cast-most : goal.overflow_cast-most
overflow_cast-most c = let few = free_few _ _ c.free_of-most.ensures c.requires.1 in search rules

pub bits_upto-all-requires : goal.bits_upto-all-requires
bits_upto-all-requires c = free_few _ _ c.free_of-most.ensures c.requires.1

pub returns : goal.returns
returns c =
    let a = c.args in
    let row = row_of a.places.now a.i in
    order_by row a.out a.n c.loop-k.taken c.loop-k.seen (length_row a.places.now a.i c.requires.0) c.requires.1
    (gathering_done c.loop-k.invariant (search rules))
    _ _ _ c.free_bits.ensures
    (c.bits_upto-all.ensures ∙ ap (λ (m : ℕ). 2 ^ width m - 1) c.free_of-most.ensures)
    (c.none_above-small.ensures ∙ ap (λ (m : ℕ). every (λ k. leb (get_or row k 0) m) 64) c.free_of-most.ensures)
