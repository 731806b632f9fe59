-- Shows that insertion, filters and `ascend` keep lists ascending, which members and how many they leave, that a set is told by its members, and that
-- `above` tells the least member above. For every total order. Assumes nothing.
use Rattle.std.proofs.Common.{◌≡◌, ℕ, zero, suc, ◌+◌, ◌<◌, ◌≤◌, Bool, true, false, cond, ◌&&◌, ◌||◌, List, [], ◌∷◌, length, get_or, Some, None, filter, Option, Ordering, Less, Equal, Greater, sym, refl, ap, ◌∙◌, subst, true≢false, arith}
use mathlib.Core.Bool.{and-false, or_self_left}
use Rattle.std.specs.Ordering.{is_lt, is_eq, is_ne, is_le}
use Rattle.std.specs.List.{slice_get}
use Rattle.std.proofs.lemmas.Bool.{and_parts, and_from, or_right}
use Rattle.order.specs.Order.{Laws}
use Rattle.order.specs.Sets.{under, Ascending, holds, insert, without, above, IsAbove, ascend}
use Rattle.order.proofs.Comparing.{by_bool, by_order, equal_from_test, equal_left, equal_right, equal_turned, greater_not_le, greater_turned, less_from_test, or_swap, same_is}

module _ {X : Type 0} {cmp : X → X → Ordering} (laws : Laws cmp) where
  pub under_first : (x y : X) (ys : List X) → under cmp x (y ∷ ys) ≡ true → cmp x y ≡ Less
  under_first x y ys h = less_from_test (cmp x y) (and_parts _ _ h).0

  pub under_rest : (x y : X) (ys : List X) → under cmp x (y ∷ ys) ≡ true → under cmp x ys ≡ true
  under_rest x y ys h = (and_parts _ _ h).1

  pub under_cons : (x y : X) (ys : List X) → cmp x y ≡ Less → under cmp x ys ≡ true → under cmp x (y ∷ ys) ≡ true
  under_cons x y ys h k = and_from _ _ (ap is_lt h) k

  pub ascending_first : (x : X) (xs : List X) → Ascending cmp (x ∷ xs) → under cmp x xs ≡ true
  ascending_first x xs h = (and_parts _ _ h).0

  pub ascending_rest : (x : X) (xs : List X) → Ascending cmp (x ∷ xs) → Ascending cmp xs
  ascending_rest x xs h = (and_parts _ _ h).1

  pub ascending_cons : (x : X) (xs : List X) → under cmp x xs ≡ true → Ascending cmp xs → Ascending cmp (x ∷ xs)
  ascending_cons x xs h k = and_from _ _ h k

  pub under_get_or : (x d : X) (ys : List X) (i : ℕ) → under cmp x ys ≡ true → i < length ys → cmp x (get_or ys i d) ≡ Less
  under_get_or x d [] i h l = absurd (omega arith)
  under_get_or x d (y ∷ ys) zero h l = under_first x y ys h
  under_get_or x d (y ∷ ys) (suc i) h l = under_get_or x d ys i (under_rest x y ys h) (omega arith)

  -- what is below x is below all that x is below
  pub under_below : (x y : X) (zs : List X) → cmp x y ≡ Less → under cmp y zs ≡ true → under cmp x zs ≡ true
  under_below x y [] h k = refl
  under_below x y (z ∷ zs) h k =
      under_cons x z zs (laws.trans x y z h (under_first y z zs k)) (under_below x y zs h (under_rest y z zs k))

  pub under_insert : (y x : X) (xs : List X) → cmp y x ≡ Less → under cmp y xs ≡ true → under cmp y (insert cmp x xs) ≡ true
  under_insert y x [] h k = under_cons y x [] h refl
  under_insert y x (z ∷ zs) h k =
      by_order (cmp x z)
      (λ e. rw e (under_cons y x (z ∷ zs) h k))
      (λ e. rw e k)
      (λ e. rw e (under_cons y z (insert cmp x zs) (under_first y z zs k) (under_insert y x zs h (under_rest y z zs k))))

  -- insertion keeps a list ascending
  pub ascending_insert : (x : X) (xs : List X) → Ascending cmp xs → Ascending cmp (insert cmp x xs)
  ascending_insert x [] h = refl
  ascending_insert x (y ∷ ys) h =
      by_order (cmp x y)
      (λ e. rw e (ascending_cons x (y ∷ ys) (under_cons x y ys e (under_below x y ys e (ascending_first y ys h))) h))
      (λ e. rw e h)
      (λ e. rw e (ascending_cons y (insert cmp x ys) (under_insert y x ys (greater_turned laws x y e) (ascending_first y ys h)) (ascending_insert x ys (ascending_rest y ys h))))

  pub under_kept : (p : X → Bool) (y : X) (xs : List X) → under cmp y xs ≡ true → under cmp y (filter p xs) ≡ true
  under_kept p y [] h = refl
  under_kept p y (x ∷ xs) h =
      by_bool (p x)
      (λ e. rw e (under_cons y x (filter p xs) (under_first y x xs h) (under_kept p y xs (under_rest y x xs h))))
      (λ e. rw e (under_kept p y xs (under_rest y x xs h)))

  -- a filter keeps a list ascending
  pub ascending_kept : (p : X → Bool) (xs : List X) → Ascending cmp xs → Ascending cmp (filter p xs)
  ascending_kept p [] h = refl
  ascending_kept p (x ∷ xs) h =
      by_bool (p x)
      (λ e. rw e (ascending_cons x (filter p xs) (under_kept p x xs (ascending_first x xs h)) (ascending_kept p xs (ascending_rest x xs h))))
      (λ e. rw e (ascending_kept p xs (ascending_rest x xs h)))

  pub ascending_without : (x : X) (xs : List X) → Ascending cmp xs → Ascending cmp (without cmp x xs)
  ascending_without x xs h = ascending_kept (λ y. is_ne (cmp x y)) xs h

  -- what is below x, or is x, is no member of a list that x is below
  pub holds_not_under : (z x : X) (xs : List X) → under cmp x xs ≡ true → is_le (cmp z x) ≡ true → holds cmp z xs ≡ false
  holds_not_under z x [] h k = refl
  holds_not_under z x (y ∷ ys) h k =
      let less : cmp z y ≡ Less =
      by_order (cmp z x)
      (λ e. laws.trans z x y e (under_first x y ys h))
      (λ e. equal_left laws z x y e ∙ under_first x y ys h)
      (λ e. greater_not_le (cmp z x) e k)
      in rw less (holds_not_under z x ys (under_rest x y ys h) k)

  pub holds_first : (x : X) (xs : List X) → holds cmp x (x ∷ xs) ≡ true
  holds_first x xs = rw (laws.same x)

  -- insertion adds the one member
  pub holds_insert : (z x : X) (xs : List X) → holds cmp z (insert cmp x xs) ≡ (is_eq (cmp z x) || holds cmp z xs)
  holds_insert z x [] = refl
  holds_insert z x (y ∷ ys) =
      by_order (cmp x y)
      (λ e. rw e)
      (λ e. rw (e, equal_right laws x y z e) (sym (or_self_left (is_eq (cmp z y)) (holds cmp z ys))))
      (λ e. rw (e, holds_insert z x ys) (or_swap (is_eq (cmp z y)) (is_eq (cmp z x)) (holds cmp z ys)))

  -- a filter keeps the members that pass
  pub holds_kept : (p : X → Bool) (z : X) (xs : List X) → holds cmp z (filter p xs) ≡ (p z && holds cmp z xs)
  holds_kept p z [] = sym (and-false (p z))
  holds_kept p z (x ∷ xs) =
      let more = holds_kept p z xs in
      by_bool (is_eq (cmp z x))
      (λ e.
      let same = ap p (same_is laws z x e) in
      by_bool (p x) (λ b. rw (b, e, same ∙ b)) (λ b. rw (b, e, same ∙ b) (rw (same ∙ b) at more)))
      (λ e. by_bool (p x) (λ b. rw (b, e) more) (λ b. rw (b, e) more))

  pub holds_without : (z x : X) (xs : List X) → holds cmp z (without cmp x xs) ≡ (is_ne (cmp x z) && holds cmp z xs)
  holds_without z x xs = holds_kept (λ y. is_ne (cmp x y)) z xs

  pub length_kept : (p : X → Bool) (xs : List X) → length (filter p xs) ≤ length xs
  length_kept p [] = omega arith
  length_kept p (x ∷ xs) =
      let k = length_kept p xs in
      by_bool (p x) (λ b. rw b (omega arith)) (λ b. rw b (omega arith))

  -- what is below the first of an ascending list is no member
  pub holds_not_below : (x y : X) (ys : List X) → Ascending cmp (y ∷ ys) → cmp x y ≡ Less → holds cmp x (y ∷ ys) ≡ false
  holds_not_below x y ys h e = rw e (holds_not_under x y ys (ascending_first y ys h) (ap is_le e))

  -- two ascending lists with the same members are the same list
  pub same_members : (xs ys : List X) → Ascending cmp xs → Ascending cmp ys → ((z : X) → holds cmp z xs ≡ holds cmp z ys) → xs ≡ ys
  same_members [] [] h k m = refl
  same_members [] (y ∷ ys) h k m = absurd (true≢false (sym (holds_first y ys) ∙ sym (m y)))
  same_members (x ∷ xs) [] h k m = absurd (true≢false (sym (holds_first x xs) ∙ m x))
  same_members (x ∷ xs) (y ∷ ys) h k m =
      by_order (cmp x y)
      (λ e. absurd (true≢false (sym (holds_first x xs) ∙ (m x ∙ holds_not_below x y ys k e))))
      (λ e.
      let rest : (z : X) → holds cmp z xs ≡ holds cmp z ys =
      λ z. by_order (cmp z x)
      (λ l. let q : cmp z y ≡ Less = sym (equal_right laws x y z e) ∙ l in rw (l, q) at (m z))
      (λ l.
      let q : cmp z y ≡ Equal = sym (equal_right laws x y z e) ∙ l in
      holds_not_under z x xs (ascending_first x xs h) (ap is_le l) ∙ sym (holds_not_under z y ys (ascending_first y ys k) (ap is_le q)))
      (λ l. let q : cmp z y ≡ Greater = sym (equal_right laws x y z e) ∙ l in rw (l, q) at (m z))
      in
      let first = laws.equal x y e in
      let more = same_members xs ys (ascending_rest x xs h) (ascending_rest y ys k) rest in
      cc)
      (λ e. absurd (true≢false (sym (holds_first y ys) ∙ (sym (m y) ∙ holds_not_below y x xs h (greater_turned laws x y e)))))

  -- an ascending list whose members are all in another is no longer than it
  pub length_members : (xs ys : List X) → Ascending cmp xs → Ascending cmp ys → ((z : X) → holds cmp z xs ≡ true → holds cmp z ys ≡ true) → length xs ≤ length ys
  length_members [] ys h k m = omega arith
  length_members (x ∷ xs) [] h k m = absurd (true≢false (sym (m x (holds_first x xs))))
  length_members (x ∷ xs) (y ∷ ys) h k m =
      by_order (cmp x y)
      (λ e. absurd (true≢false (sym (m x (holds_first x xs)) ∙ holds_not_below x y ys k e)))
      (λ e.
      let rest : (z : X) → holds cmp z xs ≡ true → holds cmp z ys ≡ true =
      λ z t. by_order (cmp z x)
      (λ l. let q : cmp z y ≡ Less = sym (equal_right laws x y z e) ∙ l in let n = m z (rw l t) in rw q at n)
      (λ l. absurd (true≢false (sym t ∙ holds_not_under z x xs (ascending_first x xs h) (ap is_le l))))
      (λ l. let q : cmp z y ≡ Greater = sym (equal_right laws x y z e) ∙ l in let n = m z (rw l t) in rw q at n)
      in
      let more = length_members xs ys (ascending_rest x xs h) (ascending_rest y ys k) rest in
      omega arith)
      (λ e.
      let low : under cmp y (x ∷ xs) ≡ true =
      under_cons y x xs (greater_turned laws x y e) (under_below y x xs (greater_turned laws x y e) (ascending_first x xs h))
      in
      let rest : (z : X) → holds cmp z (x ∷ xs) ≡ true → holds cmp z ys ≡ true =
      λ z t. by_order (cmp z y)
      (λ l. let n = m z t in rw l at n)
      (λ l. absurd (true≢false (sym t ∙ holds_not_under z y (x ∷ xs) low (ap is_le l))))
      (λ l. let n = m z t in rw l at n)
      in
      let more = length_members (x ∷ xs) ys h (ascending_rest y ys k) rest in
      omega arith)

  -- insertion adds one place, unless the element is a member
  pub length_insert : (x : X) (xs : List X) → Ascending cmp xs → length (insert cmp x xs) ≡ cond (holds cmp x xs) (length xs) (length xs + 1)
  length_insert x [] h = refl
  length_insert x (y ∷ ys) h =
      by_order (cmp x y)
      (λ e. rw (e, holds_not_under x y ys (ascending_first y ys h) (ap is_le e)) (omega arith))
      (λ e. rw e)
      (λ e.
      let more = length_insert x ys (ascending_rest y ys h) in
      by_bool (holds cmp x ys)
      (λ b. let n = rw b at more in rw (e, b) (omega arith))
      (λ b. let n = rw b at more in rw (e, b) (omega arith)))

  pub length_insert_le : (x : X) (xs : List X) → length (insert cmp x xs) ≤ length xs + 1
  length_insert_le x [] = omega arith
  length_insert_le x (y ∷ ys) =
      let more = length_insert_le x ys in
      by_order (cmp x y) (λ e. rw e (omega arith)) (λ e. rw e (omega arith)) (λ e. rw e (omega arith))

  pub length_insert_ge : (x : X) (xs : List X) → length xs ≤ length (insert cmp x xs)
  length_insert_ge x [] = omega arith
  length_insert_ge x (y ∷ ys) =
      let more = length_insert_ge x ys in
      by_order (cmp x y) (λ e. rw e (omega arith)) (λ e. rw e (omega arith)) (λ e. rw e (omega arith))

  pub insert_held : (x : X) (xs : List X) → Ascending cmp xs → holds cmp x xs ≡ true → insert cmp x xs ≡ xs
  insert_held x [] h n = absurd (true≢false (sym n))
  insert_held x (y ∷ ys) h n =
      by_order (cmp x y)
      (λ e. absurd (true≢false (sym n ∙ holds_not_below x y ys h e)))
      (λ e. rw e)
      (λ e. rw e (ap (λ v. y ∷ v) (insert_held x ys (ascending_rest y ys h) (rw e at n))))

  -- `ascend` gives an ascending list with the members of the one that it is given
  pub ascending_ascend : (xs : List X) → Ascending cmp (ascend cmp xs)
  ascending_ascend [] = refl
  ascending_ascend (x ∷ xs) = ascending_insert x (ascend cmp xs) (ascending_ascend xs)

  pub holds_ascend : (z : X) (xs : List X) → holds cmp z (ascend cmp xs) ≡ holds cmp z xs
  holds_ascend z [] = refl
  holds_ascend z (x ∷ xs) = holds_insert z x (ascend cmp xs) ∙ ap (λ b. is_eq (cmp z x) || b) (holds_ascend z xs)

  pub length_ascend : (xs : List X) → length (ascend cmp xs) ≤ length xs
  length_ascend [] = omega arith
  length_ascend (x ∷ xs) = let more = length_ascend xs in omega (arith, length_insert_le x (ascend cmp xs))

  pub ascend_same : (xs : List X) → Ascending cmp xs → ascend cmp xs ≡ xs
  ascend_same xs h = same_members (ascend cmp xs) xs (ascending_ascend xs) h (λ z. holds_ascend z xs)

  -- the answer of `above`: no member is above x, or it is a member above x, and no member above x is below it
  pub above_is : (x : X) (xs : List X) → Ascending cmp xs → IsAbove cmp x xs (above cmp x xs)
  above_is x [] h = λ z t. absurd (true≢false (sym t))
  above_is x (y ∷ ys) h =
      by_bool (is_lt (cmp x y))
      (λ e. rw e (less_from_test (cmp x y) e, holds_first y ys, λ z t l. least z t))
      (λ e. rw e (more e (above cmp x ys) (above_is x ys (ascending_rest y ys h))))
    where
      least : (z : X) → holds cmp z (y ∷ ys) ≡ true → is_le (cmp y z) ≡ true
      least z t =
          by_order (cmp z y)
          (λ l. absurd (true≢false (sym t ∙ holds_not_below z y ys h l)))
          (λ l. ap is_le (equal_turned laws z y l))
          (λ l. ap is_le (greater_turned laws z y l))

      -- the answer over the rest is the answer over all, where the first is not above x
      more : is_lt (cmp x y) ≡ false → (o : Option X) → IsAbove cmp x ys o → IsAbove cmp x (y ∷ ys) o
      more e None rest = λ z t.
          by_bool (is_eq (cmp z y))
          (λ b. ap is_lt (equal_right laws z y x (equal_from_test (cmp z y) b)) ∙ e)
          (λ b. rest z (rw b at t))
      more e (Some v) rest = (
        rest.0,
        or_right (is_eq (cmp v y)) (holds cmp v ys) rest.1,
        λ z t l.
            by_bool (is_eq (cmp z y))
            (λ b. absurd (true≢false (sym (ap is_lt l) ∙ (ap is_lt (equal_right laws z y x (equal_from_test (cmp z y) b)) ∙ e))))
            (λ b. rest.2 z (rw b at t) l),
      )

  pub above_least : (x : X) (xs : List X) (r : Option X) → Ascending cmp xs → r ≡ above cmp x xs → IsAbove cmp x xs r
  above_least x xs r h e = subst (IsAbove cmp x xs) (sym e) (above_is x xs h)

  -- where all members are above x, the least above it is the first
  pub above_first : (x : X) (xs : List X) → under cmp x xs ≡ true → above cmp x xs ≡ slice_get xs 0
  above_first x [] h = refl
  above_first x (y ∷ ys) h = rw (under_first x y ys h)

  -- to take out what is no member changes nothing
  pub without_absent : (x : X) (xs : List X) → holds cmp x xs ≡ false → without cmp x xs ≡ xs
  without_absent x [] n = refl
  without_absent x (y ∷ ys) n =
      by_order (cmp x y)
      (λ e. rw e (ap (λ v. y ∷ v) (without_absent x ys (rw e at n))))
      (λ e. absurd (true≢false (rw e at n)))
      (λ e. rw e (ap (λ v. y ∷ v) (without_absent x ys (rw e at n))))
