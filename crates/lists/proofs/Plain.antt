-- Laws of plain lists: who is on a list that is kept in part, put together or grown by one; and that a list is told by its members
-- and a number that rises along it. By induction on the list.
-- Assumes nothing.
use Prim.Native.Nat.{ℕ, ◌<◌}
use native.Mathlib.Omega.{arith}
use mathlib.Core.Path.{◌≡◌, refl, sym, subst, ap, ◌∙◌}
use mathlib.Core.Logic.{◌⊎◌, inl, inr, ⊎_elim}
use mathlib.Core.Bool.{Bool, true, false, not}
use mathlib.Core.List.{List, [], ◌∷◌, ◌++◌}
use lib.Dec.{eqb}
use borrow.Author.Tests.{eq-eqb, ne_eqb}
use Rattle.scope.specs.Lists.{has, keep, without, insert}
use Rattle.laws.proofs.Branches.{picked_yes, picked_no, not_of_true, not_of_false, true-false, true_or_false, eq_or_not}
use Rattle.lists.specs.Along.{Along}

-- two tests that hold together are the same
pub same_test : (a b : Bool) → (a ≡ true → b ≡ true) → (b ≡ true → a ≡ true) → a ≡ b
same_test true b f g = sym (f refl)
same_test false true f g = g refl
same_test false false f g = refl

-- who is on a list
pub has_head : (x : ℕ) (xs : List ℕ) → has (x ∷ xs) x ≡ true
has_head x xs = picked_yes (eqb x x) true (has xs x) (eq-eqb x x refl)

pub has_other : (x t : ℕ) (xs : List ℕ) → (x ≡ t → ⊥) → has (x ∷ xs) t ≡ has xs t
has_other x t xs ne = picked_no (eqb x t) true (has xs t) (ne_eqb x t ne)

pub has_tail : (x t : ℕ) (xs : List ℕ) → has xs t ≡ true → has (x ∷ xs) t ≡ true
has_tail x t xs h =
    ⊎_elim (λ e. picked_yes (eqb x t) true (has xs t) (eq-eqb x t e)) (λ ne. has_other x t xs ne ∙ h) (eq_or_not x t)

pub has_says : (x t : ℕ) (xs : List ℕ) → has (x ∷ xs) t ≡ true → (x ≡ t) ⊎ (has xs t ≡ true)
has_says x t xs h = ⊎_elim inl (λ ne. inr (sym (has_other x t xs ne) ∙ h)) (eq_or_not x t)

-- a relation along a list, changed for another
pub along_turn : (R S : ℕ → ℕ → Type 0) (xs : List ℕ)
    → ((u v : ℕ) → has xs u ≡ true → has xs v ≡ true → R u v → S u v) → Along R xs → Along S xs
along_turn R S [] f a = tt
along_turn R S (x ∷ xs) f a = (
  (λ u h. f x u (has_head x xs) (has_tail x u xs h) (a.0 u h)),
  along_turn R S xs (λ u v h k. f u v (has_tail x u xs h) (has_tail x v xs k)) a.1,
)

-- a list is told by its members and a number that rises along it
abbrev pub Rising : (ℕ → ℕ) → List ℕ → Type 0
Rising f xs = Along (λ x u. f x < f u) xs

module _ (f : ℕ → ℕ) where
  -- the head of one is the head of the other
  heads : (x y : ℕ) (xs ys : List ℕ) → Rising f (x ∷ xs) → Rising f (y ∷ ys)
      → (has (y ∷ ys) x ≡ true) → (has (x ∷ xs) y ≡ true) → x ≡ y
  heads x y xs ys a b h k =
      ⊎_elim sym
      (λ l. ⊎_elim (λ e. e)
      (λ m. absurd (let c : f y < f x = b.0 x l in let d : f x < f y = a.0 y m in omega arith))
      (has_says x y xs k))
      (has_says y x ys h)

  -- and the tails have the same members
  tails : (x : ℕ) (xs ys : List ℕ) → Rising f (x ∷ xs)
      → ((t : ℕ) → has (x ∷ xs) t ≡ true → has (x ∷ ys) t ≡ true) → (t : ℕ) → has xs t ≡ true → has ys t ≡ true
  tails x xs ys a s t h =
      ⊎_elim
      (λ e. absurd (let c : f x < f t = a.0 t h in let d : f x ≡ f t = ap f e in omega arith))
      (λ l. l)
      (has_says x t ys (s t (has_tail x t xs h)))

  pub same_list : (xs ys : List ℕ) → Rising f xs → Rising f ys
      → ((t : ℕ) → has xs t ≡ true → has ys t ≡ true) → ((t : ℕ) → has ys t ≡ true → has xs t ≡ true) → xs ≡ ys
  same_list [] [] a b s r = refl
  same_list [] (y ∷ ys) a b s r = absurd (true-false (r y (has_head y ys)) refl)
  same_list (x ∷ xs) [] a b s r = absurd (true-false (s x (has_head x xs)) refl)
  same_list (x ∷ xs) (y ∷ ys) a b s r =
      let e : x ≡ y = heads x y xs ys a b (s x (has_head x xs)) (r y (has_head y ys)) in
      let b2 : Rising f (x ∷ ys) = subst (λ (v : ℕ). Rising f (v ∷ ys)) (sym e) b in
      let s2 : (t : ℕ) → has (x ∷ xs) t ≡ true → has (x ∷ ys) t ≡ true =
      subst (λ (v : ℕ). (t : ℕ) → has (x ∷ xs) t ≡ true → has (v ∷ ys) t ≡ true) (sym e) s in
      let r2 : (t : ℕ) → has (x ∷ ys) t ≡ true → has (x ∷ xs) t ≡ true =
      subst (λ (v : ℕ). (t : ℕ) → has (v ∷ ys) t ≡ true → has (x ∷ xs) t ≡ true) (sym e) r in
      ap (λ (v : ℕ). v ∷ xs) e ∙ ap (λ (l : List ℕ). y ∷ l) (same_list xs ys a.1 b2.1 (tails x xs ys a s2) (tails x ys xs b2 r2))

  -- what goes along a list holds of two of it by their numbers
  pub along_at : (R : ℕ → ℕ → Type 0) (xs : List ℕ) → Along R xs → Rising f xs → (u v : ℕ) → has xs u ≡ true → has xs v ≡ true → f u < f v → R u v
  along_at R [] a r u v h k l = absurd (true-false h refl)
  along_at R (x ∷ xs) a r u v h k l =
      ⊎_elim
      (λ d. ⊎_elim
      (λ e. absurd (omega (arith, l, ap f d, ap f e)))
      (λ m. subst (λ (w : ℕ). R w v) d (a.0 v m))
      (has_says x v xs k))
      (λ g. ⊎_elim
      (λ e. absurd (let c : f x < f u = r.0 u g in omega (arith, l, ap f e, c)))
      (λ m. along_at R xs a.1 r.1 u v g m l)
      (has_says x v xs k))
      (has_says x u xs h)

-- those kept
module _ (p : ℕ → Bool) where
  pub keep_yes : (x : ℕ) (xs : List ℕ) → p x ≡ true → keep p (x ∷ xs) ≡ x ∷ keep p xs
  keep_yes x xs e = picked_yes (p x) (x ∷ keep p xs) (keep p xs) e

  pub keep_no : (x : ℕ) (xs : List ℕ) → p x ≡ false → keep p (x ∷ xs) ≡ keep p xs
  keep_no x xs e = picked_no (p x) (x ∷ keep p xs) (keep p xs) e

  pub keep-has : (xs : List ℕ) (t : ℕ) → has xs t ≡ true → p t ≡ true → has (keep p xs) t ≡ true
  keep-has [] t h k = h
  keep-has (x ∷ xs) t h k =
      ⊎_elim
      (λ e. rw (keep_yes x xs (ap p e ∙ k)) (subst (λ (v : ℕ). has (x ∷ keep p xs) v ≡ true) e (has_head x (keep p xs))))
      (λ l. ⊎_elim
      (λ y. rw (keep_yes x xs y) (has_tail x t (keep p xs) (keep-has xs t l k)))
      (λ n. rw (keep_no x xs n) (keep-has xs t l k))
      (true_or_false (p x)))
      (has_says x t xs h)

  pub has-keep : (xs : List ℕ) (t : ℕ) → has (keep p xs) t ≡ true → (has xs t ≡ true) × (p t ≡ true)
  has-keep [] t h = absurd (true-false h refl)
  has-keep (x ∷ xs) t h =
      ⊎_elim
      (λ y. ⊎_elim
      (λ e. (subst (λ (v : ℕ). has (x ∷ xs) v ≡ true) e (has_head x xs), ap p (sym e) ∙ y))
      (λ l. let r = has-keep xs t l in (has_tail x t xs r.0, r.1))
      (has_says x t (keep p xs) (rw (keep_yes x xs y) at h)))
      (λ n. let r = has-keep xs t (rw (keep_no x xs n) at h) in (has_tail x t xs r.0, r.1))
      (true_or_false (p x))

  pub along_keep : (R : ℕ → ℕ → Type 0) (xs : List ℕ) → Along R xs → Along R (keep p xs)
  along_keep R [] a = tt
  along_keep R (x ∷ xs) a =
      ⊎_elim
      (λ y. subst (λ (l : List ℕ). Along R l) (sym (keep_yes x xs y))
      ((λ u h. a.0 u (has-keep xs u h).0), along_keep R xs a.1))
      (λ n. subst (λ (l : List ℕ). Along R l) (sym (keep_no x xs n)) (along_keep R xs a.1))
      (true_or_false (p x))

  pub keep_append : (xs ys : List ℕ) → keep p (xs ++ ys) ≡ keep p xs ++ keep p ys
  keep_append [] ys = refl
  keep_append (x ∷ xs) ys =
      ⊎_elim
      (λ y. rw (keep_yes x (xs ++ ys) y, keep_yes x xs y) (ap (λ (l : List ℕ). x ∷ l) (keep_append xs ys)))
      (λ n. rw (keep_no x (xs ++ ys) n, keep_no x xs n) (keep_append xs ys))
      (true_or_false (p x))

  pub keep_all : (xs : List ℕ) → ((u : ℕ) → has xs u ≡ true → p u ≡ true) → keep p xs ≡ xs
  keep_all [] f = refl
  keep_all (x ∷ xs) f =
      keep_yes x xs (f x (has_head x xs)) ∙ ap (λ (l : List ℕ). x ∷ l) (keep_all xs (λ u h. f u (has_tail x u xs h)))

  pub keep_none : (xs : List ℕ) → ((u : ℕ) → has xs u ≡ true → p u ≡ false) → keep p xs ≡ []
  keep_none [] f = refl
  keep_none (x ∷ xs) f = keep_no x xs (f x (has_head x xs)) ∙ keep_none xs (λ u h. f u (has_tail x u xs h))

-- to keep some of those kept
pub keep_twice : (p r s : ℕ → Bool) → ((u : ℕ) → r u ≡ true → p u ≡ s u) → ((u : ℕ) → r u ≡ false → s u ≡ false)
    → (xs : List ℕ) → keep p (keep r xs) ≡ keep s xs
keep_twice p r s f g [] = refl
keep_twice p r s f g (x ∷ xs) =
    ⊎_elim
    (λ y. ap (keep p) (keep_yes r x xs y)
    ∙ ⊎_elim
    (λ z. keep_yes p x (keep r xs) z ∙ ap (λ (l : List ℕ). x ∷ l) (keep_twice p r s f g xs) ∙ sym (keep_yes s x xs (sym (f x y) ∙ z)))
    (λ z. keep_no p x (keep r xs) z ∙ keep_twice p r s f g xs ∙ sym (keep_no s x xs (sym (f x y) ∙ z)))
    (true_or_false (p x)))
    (λ n. ap (keep p) (keep_no r x xs n) ∙ keep_twice p r s f g xs ∙ sym (keep_no s x xs (g x n)))
    (true_or_false (r x))

-- all but t
pub has-without : (t u : ℕ) (xs : List ℕ) → has (without t xs) u ≡ true → (has xs u ≡ true) × (u ≡ t → ⊥)
has-without t u xs h =
    let r = has-keep (λ x. not (eqb x t)) xs u h in
    (r.0, (λ e. true-false r.1 (not_of_true (eqb u t) (eq-eqb u t e))))

pub without-has : (t u : ℕ) (xs : List ℕ) → has xs u ≡ true → (u ≡ t → ⊥) → has (without t xs) u ≡ true
without-has t u xs h ne = keep-has (λ x. not (eqb x t)) xs u h (not_of_false (eqb u t) (ne_eqb u t ne))

pub without_none : (t : ℕ) (xs : List ℕ) → (has xs t ≡ true → ⊥) → without t xs ≡ xs
without_none t xs f =
    keep_all (λ x. not (eqb x t)) xs
    (λ u h. not_of_false (eqb u t) (ne_eqb u t (λ e. f (subst (λ (v : ℕ). has xs v ≡ true) e h))))

-- one list behind another
pub append_first : (xs ys : List ℕ) (t : ℕ) → has xs t ≡ true → has (xs ++ ys) t ≡ true
append_first [] ys t h = absurd (true-false h refl)
append_first (x ∷ xs) ys t h =
    ⊎_elim
    (λ e. subst (λ (v : ℕ). has (x ∷ (xs ++ ys)) v ≡ true) e (has_head x (xs ++ ys)))
    (λ l. has_tail x t (xs ++ ys) (append_first xs ys t l))
    (has_says x t xs h)

pub append_second : (xs ys : List ℕ) (t : ℕ) → has ys t ≡ true → has (xs ++ ys) t ≡ true
append_second [] ys t h = h
append_second (x ∷ xs) ys t h = has_tail x t (xs ++ ys) (append_second xs ys t h)

pub has-append : (xs ys : List ℕ) (t : ℕ) → has (xs ++ ys) t ≡ true → (has xs t ≡ true) ⊎ (has ys t ≡ true)
has-append [] ys t h = inr h
has-append (x ∷ xs) ys t h =
    ⊎_elim
    (λ e. inl (subst (λ (v : ℕ). has (x ∷ xs) v ≡ true) e (has_head x xs)))
    (λ l. ⊎_elim (λ m. inl (has_tail x t xs m)) inr (has-append xs ys t l))
    (has_says x t (xs ++ ys) h)

pub along_append : (R : ℕ → ℕ → Type 0) (xs ys : List ℕ) → Along R xs → Along R ys
    → ((u v : ℕ) → has xs u ≡ true → has ys v ≡ true → R u v) → Along R (xs ++ ys)
along_append R [] ys a b f = b
along_append R (x ∷ xs) ys a b f = (
  (λ u h. ⊎_elim (λ l. a.0 u l) (λ l. f x u (has_head x xs) l) (has-append xs ys u h)),
  along_append R xs ys a.1 b (λ u v h k. f u v (has_tail x u xs h) k),
)

-- one put in its place
module _ (ahead : ℕ → Bool) (t : ℕ) where
  insert_yes : (x : ℕ) (xs : List ℕ) → ahead x ≡ true → insert ahead t (x ∷ xs) ≡ x ∷ insert ahead t xs
  insert_yes x xs e = picked_yes (ahead x) (x ∷ insert ahead t xs) (t ∷ x ∷ xs) e

  insert_no : (x : ℕ) (xs : List ℕ) → ahead x ≡ false → insert ahead t (x ∷ xs) ≡ t ∷ x ∷ xs
  insert_no x xs e = picked_no (ahead x) (x ∷ insert ahead t xs) (t ∷ x ∷ xs) e

  pub has-insert : (xs : List ℕ) (u : ℕ) → has (insert ahead t xs) u ≡ true → (t ≡ u) ⊎ (has xs u ≡ true)
  has-insert [] u h = has_says t u [] h
  has-insert (x ∷ xs) u h =
      ⊎_elim
      (λ y. ⊎_elim
      (λ e. inr (subst (λ (v : ℕ). has (x ∷ xs) v ≡ true) e (has_head x xs)))
      (λ l. ⊎_elim inl (λ m. inr (has_tail x u xs m)) (has-insert xs u l))
      (has_says x u (insert ahead t xs) (rw (insert_yes x xs y) at h)))
      (λ n. has_says t u (x ∷ xs) (rw (insert_no x xs n) at h))
      (true_or_false (ahead x))

  pub insert_new : (xs : List ℕ) → has (insert ahead t xs) t ≡ true
  insert_new [] = has_head t []
  insert_new (x ∷ xs) =
      ⊎_elim
      (λ y. rw (insert_yes x xs y) (has_tail x t (insert ahead t xs) (insert_new xs)))
      (λ n. rw (insert_no x xs n) (has_head t (x ∷ xs)))
      (true_or_false (ahead x))

  pub insert_old : (xs : List ℕ) (u : ℕ) → has xs u ≡ true → has (insert ahead t xs) u ≡ true
  insert_old [] u h = absurd (true-false h refl)
  insert_old (x ∷ xs) u h =
      ⊎_elim
      (λ y. rw (insert_yes x xs y)
      (⊎_elim
      (λ e. subst (λ (v : ℕ). has (x ∷ insert ahead t xs) v ≡ true) e (has_head x (insert ahead t xs)))
      (λ l. has_tail x u (insert ahead t xs) (insert_old xs u l))
      (has_says x u xs h)))
      (λ n. rw (insert_no x xs n) (has_tail t u (x ∷ xs) h))
      (true_or_false (ahead x))

  -- where none stays ahead behind one who does not
  pub along_insert : (R : ℕ → ℕ → Type 0) (xs : List ℕ) → Along R xs → Along (λ u v. ahead v ≡ true → ahead u ≡ true) xs
      → ((u : ℕ) → has xs u ≡ true → ahead u ≡ true → R u t) → ((u : ℕ) → has xs u ≡ true → ahead u ≡ false → R t u)
      → Along R (insert ahead t xs)
  along_insert R [] a c f g = ((λ u h. absurd (true-false h refl)), tt)
  along_insert R (x ∷ xs) a c f g =
      ⊎_elim
      (λ y. subst (λ (l : List ℕ). Along R l) (sym (insert_yes x xs y)) (
        (λ u h. ⊎_elim (λ e. subst (λ (v : ℕ). R x v) e (f x (has_head x xs) y)) (λ l. a.0 u l) (has-insert xs u h)),
        along_insert R xs a.1 c.1 (λ u h. f u (has_tail x u xs h)) (λ u h. g u (has_tail x u xs h)),
      ))
      (λ n. subst (λ (l : List ℕ). Along R l) (sym (insert_no x xs n)) (
        (λ u h. g u h
            (⊎_elim (λ e. ap ahead (sym e) ∙ n)
            (λ l. ⊎_elim (λ w. absurd (true-false (c.0 u l w) n)) (λ w. w) (true_or_false (ahead u)))
            (has_says x u xs h))),
        a,
      ))
      (true_or_false (ahead x))

  -- behind a list of which all stay ahead, and at the front of one of which none does
  pub insert_past : (xs ys : List ℕ) → ((u : ℕ) → has xs u ≡ true → ahead u ≡ true) → insert ahead t (xs ++ ys) ≡ xs ++ insert ahead t ys
  insert_past [] ys f = refl
  insert_past (x ∷ xs) ys f =
      rw (insert_yes x (xs ++ ys) (f x (has_head x xs)))
      (ap (λ (l : List ℕ). x ∷ l) (insert_past xs ys (λ u h. f u (has_tail x u xs h))))

  pub insert_front : (ys : List ℕ) → ((u : ℕ) → has ys u ≡ true → ahead u ≡ false) → insert ahead t ys ≡ t ∷ ys
  insert_front [] f = refl
  insert_front (y ∷ ys) f = insert_no y ys (f y (has_head y ys))

  -- at the end, where all stay ahead
  pub insert_last : (xs : List ℕ) → ((u : ℕ) → has xs u ≡ true → ahead u ≡ true) → insert ahead t xs ≡ xs ++ (t ∷ [])
  insert_last [] f = refl
  insert_last (x ∷ xs) f =
      rw (insert_yes x xs (f x (has_head x xs))) (ap (λ (l : List ℕ). x ∷ l) (insert_last xs (λ u h. f u (has_tail x u xs h))))
