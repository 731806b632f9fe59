-- Shows which members the set operations have, that each gives an ascending list, that a test which all members pass is passed by all members
-- of what the operations make, and how a set of marks turns when one mark is put on or taken off. Assumes nothing.
use Rattle.std.proofs.Common.{◌≡◌, ℕ, zero, suc, Bool, true, false, not, ◌&&◌, ◌||◌, List, [], ◌∷◌, ◌++◌, length, take, filter, Ordering, sym, refl, ap, ◌∙◌, ap₂, true≢false}
use mathlib.Core.Bool.{xor}
use Rattle.std.proofs.lemmas.Bool.{and_parts, and_from}
use Rattle.std.specs.Ordering.{is_eq, is_ne, is_le}
use Rattle.order.specs.Order.{Laws}
use Rattle.order.specs.Lists.{every}
use Rattle.order.specs.Sets.{Ascending, ascend, difference, holds, insert, insert_all, symmetric_difference, without}
use Rattle.order.proofs.Comparing.{by_bool, by_order, equal_turned, greater_turned, less_turned, same_is}
use Rattle.order.proofs.Ascents.{ascending_first, ascending_insert, ascending_kept, ascending_rest, ascending_without, holds_insert, holds_kept, holds_not_below, holds_not_under, holds_without, same_members, without_absent}
use Rattle.order.proofs.InsertAll.{ascending_insert_all, holds_insert_all}

-- tests at one element

exclusive : (a b : Bool) → ((not b && a) || (not a && b)) ≡ xor a b
unfolding xor
exclusive true true = refl
exclusive true false = refl
exclusive false true = refl
exclusive false false = refl

turned_back : (a b : Bool) → xor b (xor a b) ≡ a
unfolding xor
turned_back true true = refl
turned_back true false = refl
turned_back false true = refl
turned_back false false = refl

turns_on : (a b : Bool) → (a ≡ true → b ≡ false) → (a || b) ≡ xor a b
unfolding xor
turns_on true b f = rw (f refl)
turns_on false true f = refl
turns_on false false f = refl

turns_off : (a b : Bool) → (a ≡ true → b ≡ true) → (not a && b) ≡ xor a b
unfolding xor
turns_off true b f = rw (f refl)
turns_off false true f = refl
turns_off false false f = refl

xor_assoc : (a b c : Bool) → xor (xor a b) c ≡ xor a (xor b c)
unfolding xor
xor_assoc true true true = refl
xor_assoc true true false = refl
xor_assoc true false true = refl
xor_assoc true false false = refl
xor_assoc false true true = refl
xor_assoc false true false = refl
xor_assoc false false true = refl
xor_assoc false false false = refl

-- a test that every element passes, over any list

pub every_kept : {X : Type 0} (test p : X → Bool) (xs : List X) → every test xs ≡ true → every test (filter p xs) ≡ true
every_kept test p [] h = refl
every_kept test p (x ∷ xs) h =
    let more = every_kept test p xs (and_parts _ _ h).1 in
    by_bool (p x) (λ e. rw e (and_from _ _ (and_parts _ _ h).0 more)) (λ e. rw e more)

pub every_append : {X : Type 0} (test : X → Bool) (xs ys : List X) → every test xs ≡ true → every test ys ≡ true → every test (xs ++ ys) ≡ true
every_append test [] ys h k = k
every_append test (x ∷ xs) ys h k = and_from _ _ (and_parts _ _ h).0 (every_append test xs ys (and_parts _ _ h).1 k)

pub every_take : {X : Type 0} (test : X → Bool) (n : ℕ) (xs : List X) → every test xs ≡ true → every test (take n xs) ≡ true
every_take test zero xs h = refl
every_take test (suc n) [] h = refl
every_take test (suc n) (x ∷ xs) h = and_from _ _ (and_parts _ _ h).0 (every_take test n xs (and_parts _ _ h).1)

module _ {X : Type 0} {cmp : X → X → Ordering} (laws : Laws cmp) where
  -- the same, over sets
  pub every_insert : (test : X → Bool) (x : X) (s : List X) → test x ≡ true → every test s ≡ true → every test (insert cmp x s) ≡ true
  every_insert test x [] p h = and_from _ _ p refl
  every_insert test x (y ∷ ys) p h =
      by_order (cmp x y)
      (λ e. rw e (and_from _ _ p h))
      (λ e. rw e h)
      (λ e. rw e (and_from _ _ (and_parts _ _ h).0 (every_insert test x ys p (and_parts _ _ h).1)))

  pub every_insert_all : (test : X → Bool) (s t : List X) → every test s ≡ true → every test t ≡ true → every test (insert_all cmp s t) ≡ true
  every_insert_all test [] t h k = k
  every_insert_all test (x ∷ xs) t h k = every_insert_all test xs (insert cmp x t) (and_parts _ _ h).1 (every_insert test x t (and_parts _ _ h).0 k)

  pub every_ascend : (test : X → Bool) (xs : List X) → every test xs ≡ true → every test (ascend cmp xs) ≡ true
  every_ascend test [] h = refl
  every_ascend test (x ∷ xs) h = every_insert test x (ascend cmp xs) (and_parts _ _ h).0 (every_ascend test xs (and_parts _ _ h).1)

  pub every_without : (test : X → Bool) (x : X) (s : List X) → every test s ≡ true → every test (without cmp x s) ≡ true
  every_without test x s h = every_kept test (λ y. is_ne (cmp x y)) s h

  pub every_difference : (test : X → Bool) (t s : List X) → every test t ≡ true → every test (difference cmp t s) ≡ true
  every_difference test t s h = every_kept test (λ x. not (holds cmp x s)) t h

  pub every_symmetric_difference : (test : X → Bool) (s t : List X) → every test s ≡ true → every test t ≡ true → every test (symmetric_difference cmp s t) ≡ true
  every_symmetric_difference test s t h k = every_insert_all test (difference cmp s t) (difference cmp t s) (every_difference test s t h) (every_difference test t s k)

  -- a member passes what all pass
  pub every_holds : (test : X → Bool) (x : X) (s : List X) → every test s ≡ true → holds cmp x s ≡ true → test x ≡ true
  every_holds test x [] h k = absurd (true≢false (sym k))
  every_holds test x (y ∷ ys) h k =
      by_bool (is_eq (cmp x y))
      (λ e. ap test (same_is laws x y e) ∙ (and_parts _ _ h).0)
      (λ e. every_holds test x ys (and_parts _ _ h).1 (rw e at k))

  -- members and order
  pub ascending_difference : (t s : List X) → Ascending cmp t → Ascending cmp (difference cmp t s)
  ascending_difference t s h = ascending_kept laws (λ x. not (holds cmp x s)) t h

  pub holds_difference : (z : X) (t s : List X) → holds cmp z (difference cmp t s) ≡ (not (holds cmp z s) && holds cmp z t)
  holds_difference z t s = holds_kept laws (λ x. not (holds cmp x s)) z t

  pub ascending_symmetric_difference : (s t : List X) → Ascending cmp t → Ascending cmp (symmetric_difference cmp s t)
  ascending_symmetric_difference s t h = ascending_insert_all laws (difference cmp s t) (difference cmp t s) (ascending_difference t s h)

  pub holds_symmetric_difference : (z : X) (s t : List X) → holds cmp z (symmetric_difference cmp s t) ≡ xor (holds cmp z s) (holds cmp z t)
  holds_symmetric_difference z s t =
      holds_insert_all laws z (difference cmp s t) (difference cmp t s)
      ∙ ap₂ ◌||◌ (holds_difference z s t) (holds_difference z t s)
      ∙ exclusive (holds cmp z s) (holds cmp z t)

  pub difference_nothing : (t : List X) → difference cmp t [] ≡ t
  difference_nothing [] = refl
  difference_nothing (x ∷ xs) = ap (λ l. x ∷ l) (difference_nothing xs)

  -- one member less
  pub length_without : (x : X) (s : List X) → Ascending cmp s → holds cmp x s ≡ true → suc (length (without cmp x s)) ≡ length s
  length_without x [] h n = absurd (true≢false (sym n))
  length_without x (y ∷ ys) h n =
      by_order (cmp x y)
      (λ e. absurd (true≢false (sym n ∙ holds_not_below laws x y ys h e)))
      (λ e. rw e (ap (λ l. suc (length l)) (without_absent laws x ys (holds_not_under laws x y ys (ascending_first laws y ys h) (ap is_le e)))))
      (λ e. rw e (ap suc (length_without x ys (ascending_rest laws y ys h) (rw e at n))))

  -- the marks are told by the set beneath and the set
  pub marks_back : (m b : List X) → Ascending cmp m → Ascending cmp b → symmetric_difference cmp b (symmetric_difference cmp m b) ≡ m
  marks_back m b p q =
      same_members laws (symmetric_difference cmp b (symmetric_difference cmp m b)) m
      (ascending_symmetric_difference b (symmetric_difference cmp m b) (ascending_symmetric_difference m b q)) p
      (λ z.
      holds_symmetric_difference z b (symmetric_difference cmp m b)
      ∙ ap (xor (holds cmp z b)) (holds_symmetric_difference z m b)
      ∙ turned_back (holds cmp z m) (holds cmp z b))

  -- a mark put on or taken off
  at_member : (z x : X) (s : List X) (b : Bool) → holds cmp x s ≡ b → is_eq (cmp z x) ≡ true → holds cmp z s ≡ b
  at_member z x s b h e = ap (λ v. holds cmp v s) (same_is laws z x e) ∙ h

  pub insert_turns : (x : X) (s : List X) → holds cmp x s ≡ false → (z : X) → holds cmp z (insert cmp x s) ≡ xor (is_eq (cmp z x)) (holds cmp z s)
  insert_turns x s h z = holds_insert laws z x s ∙ turns_on (is_eq (cmp z x)) (holds cmp z s) (at_member z x s false h)

  pub not_same : (x z : X) → is_ne (cmp x z) ≡ not (is_eq (cmp z x))
  not_same x z =
      by_order (cmp x z)
      (λ e. rw (e, less_turned laws x z e))
      (λ e. rw (e, equal_turned laws x z e))
      (λ e. rw (e, greater_turned laws x z e))

  pub without_turns : (x : X) (s : List X) → holds cmp x s ≡ true → (z : X) → holds cmp z (without cmp x s) ≡ xor (is_eq (cmp z x)) (holds cmp z s)
  without_turns x s h z =
      holds_without laws z x s
      ∙ ap (λ b. b && holds cmp z s) (not_same x z)
      ∙ turns_off (is_eq (cmp z x)) (holds cmp z s) (at_member z x s true h)

  -- n is m with the mark of x turned: then the set that the marks make of b has x turned too
  module _ (x : X) (m n b : List X) (base : Ascending cmp b) (other : (z : X) → holds cmp z n ≡ xor (is_eq (cmp z x)) (holds cmp z m)) where
    turned : (z : X) → holds cmp z (symmetric_difference cmp n b) ≡ xor (is_eq (cmp z x)) (holds cmp z (symmetric_difference cmp m b))
    turned z =
        holds_symmetric_difference z n b
        ∙ ap (λ v. xor v (holds cmp z b)) (other z)
        ∙ xor_assoc (is_eq (cmp z x)) (holds cmp z m) (holds cmp z b)
        ∙ ap (xor (is_eq (cmp z x))) (sym (holds_symmetric_difference z m b))

    pub marked_adds : holds cmp x (symmetric_difference cmp m b) ≡ false → symmetric_difference cmp n b ≡ insert cmp x (symmetric_difference cmp m b)
    marked_adds h =
        same_members laws (symmetric_difference cmp n b) (insert cmp x (symmetric_difference cmp m b))
        (ascending_symmetric_difference n b base)
        (ascending_insert laws x (symmetric_difference cmp m b) (ascending_symmetric_difference m b base))
        (λ z. turned z ∙ sym (insert_turns x (symmetric_difference cmp m b) h z))

    pub marked_removes : holds cmp x (symmetric_difference cmp m b) ≡ true → symmetric_difference cmp n b ≡ without cmp x (symmetric_difference cmp m b)
    marked_removes h =
        same_members laws (symmetric_difference cmp n b) (without cmp x (symmetric_difference cmp m b))
        (ascending_symmetric_difference n b base)
        (ascending_without laws x (symmetric_difference cmp m b) (ascending_symmetric_difference m b base))
        (λ z. turned z ∙ sym (without_turns x (symmetric_difference cmp m b) h z))
