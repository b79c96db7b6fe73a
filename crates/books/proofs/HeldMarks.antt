-- A list of addresses that agrees with a pool's marks: on it stand the addresses of the buffers that are out, each once, so it is
-- as long as these are many. A get adds one and a return takes one away, and no two buffers are at one address.
-- Assumes nothing.
use Prim.Native.Nat.{ℕ, ◌+◌, ◌-◌, ◌^◌, ◌<◌}
use native.Mathlib.Omega.{arith}
use mathlib.Core.Path.{◌≡◌, refl, sym, ap, ◌∙◌}
use mathlib.Core.Logic.{⊎_elim}
use mathlib.Core.Bool.{true, false}
use mathlib.Core.List.{List, [], ◌∷◌}
use lib.ListN.{length}
use borrow.Author.Tests.{not-true}
use Rattle.scope.specs.Choice.{number}
use Rattle.scope.specs.Lists.{has, without}
use Rattle.scope.specs.Areas.{is_area, is_size, buffers_of, is_out, is_free, buffer_address, buffer_at}
use Rattle.laws.proofs.Branches.{true-false, true_or_false, eq_or_not}
use Rattle.laws.proofs.Once.{Once, has_here, has_later, has_cut, has_other, once_cut, length_cut}
use Rattle.laws.proofs.Areas.Marks.{take_same, take_other, back_same, back_other, out_below}
use Rattle.laws.proofs.Areas.Buffers.{found_at}
use Rattle.histories.proofs.Marks.{taken, given_back, none_out}

-- x is the address of one of n buffers, which is out
pub record OutAt (address size n out x : ℕ) : Type 0 where
  pub buffer : ℕ
  pub below : buffer < n
  pub marked : is_out out buffer ≡ true
  pub starts : buffer_address address size buffer ≡ x

-- the addresses of those of n buffers that are out
pub record Listed (address size n out : ℕ) (l : List ℕ) : Type 0 where
  pub on : (x : ℕ) → has l x ≡ true → OutAt address size n out x
  pub back : (k : ℕ) → k < n → is_out out k ≡ true → has l (buffer_address address size k) ≡ true
  pub once : Once l
  pub count : length l ≡ number (is_out out) n

pub listed_none : (address size n : ℕ) → Listed address size n 0 []
listed_none address size n =
    record {
      on = λ x e. absurd (true-false e refl);
      back = λ k h e. absurd (omega (arith, out_below 0 k 0 e (omega arith)));
      once = tt;
      count = sym (none_out n);
    }

module _ (address long size : ℕ) (area : is_area address long ≡ true) (sized : is_size long size ≡ true) where
  abbrev n : ℕ
  n = buffers_of long size

  -- no two buffers are at one address
  pub one_address : (k j : ℕ) → k < n → j < n → buffer_address address size k ≡ buffer_address address size j → k ≡ j
  one_address k j h l e =
      sym (found_at address long size area sized n (omega arith) k h)
      ∙ ap (buffer_at address size n) e
      ∙ found_at address long size area sized n (omega arith) j l

  module _ (out : ℕ) (l : List ℕ) (listed : Listed address size n out l) (k : ℕ) (h : k < n) where
    abbrev v : ℕ
    v = buffer_address address size k

    -- buffer k is free: its address is not on the list
    not_listed : is_free out k ≡ true → has l v ≡ false
    unfolding is_free
    not_listed free =
        ⊎_elim
        (λ e. let o : OutAt address size n out v = listed.on v e in
        let d : o.buffer ≡ k = one_address o.buffer k o.below h o.starts in
        absurd (true-false (ap (is_out out) (sym d) ∙ o.marked) (not-true (is_out out k) free)))
        (λ e. e)
        (true_or_false (has l v))

    -- buffer k is got
    pub listed_get : is_free out k ≡ true → Listed address size n (out + 2 ^ k) (v ∷ l)
    listed_get free =
        record {
          on = λ x e. ⊎_elim (λ d. new x d) (λ ne. old x ne (sym (has_later v x l ne) ∙ e)) (eq_or_not v x);
          back = λ j b e.
              ⊎_elim
              (λ d. has_here v (buffer_address address size j) l (ap (buffer_address address size) (sym d)))
              (λ ne. has_later v (buffer_address address size j) l (λ d. ne (one_address j k b h (sym d)))
              ∙ listed.back j b (sym (take_other out k free j ne) ∙ e))
              (eq_or_not j k);
          once = (not_listed free, listed.once);
          count = omega (arith, listed.count, taken out k n free h);
        }
      where
        new : (x : ℕ) → v ≡ x → OutAt address size n (out + 2 ^ k) x
        new x d = record { buffer = k; below = h; marked = take_same out k free; starts = d }

        old : (x : ℕ) → (v ≡ x → ⊥) → has l x ≡ true → OutAt address size n (out + 2 ^ k) x
        old x ne e =
            let o : OutAt address size n out x = listed.on x e in
            record {
              buffer = o.buffer;
              below = o.below;
              marked = take_other out k free o.buffer (λ d. ne (ap (buffer_address address size) (sym d) ∙ o.starts)) ∙ o.marked;
              starts = o.starts;
            }

    -- buffer k is returned
    pub listed_ret : is_out out k ≡ true → Listed address size n (out - 2 ^ k) (without v l)
    unfolding is_free
    listed_ret marked =
        record {
          on = λ x e. ⊎_elim (λ d. absurd (true-false (ap (has (without v l)) d ∙ e) (has_cut v l))) (λ ne. old x ne (sym (has_other v x ne l) ∙ e)) (eq_or_not v x);
          back = λ j b e.
              ⊎_elim
              (λ d. absurd (true-false (ap (is_out (out - 2 ^ k)) (sym d) ∙ e) free))
              (λ ne. has_other v (buffer_address address size j) (λ d. ne (one_address j k b h (sym d))) l
              ∙ listed.back j b (sym (back_other out k marked j ne) ∙ e))
              (eq_or_not j k);
          once = once_cut v l listed.once;
          count = omega (arith, listed.count, given_back out k n marked h, length_cut v l listed.once (listed.back k h marked));
        }
      where
        free : is_out (out - 2 ^ k) k ≡ false
        free = not-true (is_out (out - 2 ^ k) k) (back_same out k marked)

        old : (x : ℕ) → (v ≡ x → ⊥) → has l x ≡ true → OutAt address size n (out - 2 ^ k) x
        old x ne e =
            let o : OutAt address size n out x = listed.on x e in
            record {
              buffer = o.buffer;
              below = o.below;
              marked = back_other out k marked o.buffer (λ d. ne (ap (buffer_address address size) (sym d) ∙ o.starts)) ∙ o.marked;
              starts = o.starts;
            }
