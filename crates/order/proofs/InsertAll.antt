-- Shows what comes of putting the elements of one list into another, one after the other. Assumes nothing.
use Rattle.std.proofs.Common.{◌≡◌, ◌≤◌, ◌||◌, List, [], ◌∷◌, ◌++◌, length, Ordering, sym, refl, ap, ◌∙◌, arith}
use mathlib.Core.Bool.{or_assoc, or-false}
use Rattle.std.specs.Ordering.{is_eq}
use Rattle.order.specs.Sets.{Ascending, ascend, holds, insert, insert_all}
use Rattle.order.specs.Order.{Laws}
use Rattle.order.proofs.Ascents.{ascending_ascend, ascending_insert, holds_ascend, holds_insert, length_insert_ge, same_members}
use Rattle.order.proofs.Comparing.{or_swap}

module _ {X : Type 0} {cmp : X → X → Ordering} (laws : Laws cmp) where
  pub insert_all_append : (vs ws ys : List X) → insert_all cmp (vs ++ ws) ys ≡ insert_all cmp ws (insert_all cmp vs ys)
  insert_all_append [] ws ys = refl
  insert_all_append (v ∷ vs) ws ys = insert_all_append vs ws (insert cmp v ys)

  pub length_insert_all : (xs ys : List X) → length ys ≤ length (insert_all cmp xs ys)
  length_insert_all [] ys = omega arith
  length_insert_all (x ∷ xs) ys = omega (arith, length_insert_ge laws x ys, length_insert_all xs (insert cmp x ys))

  -- all together the elements of both lists, ascending
  pub ascending_insert_all : (xs ys : List X) → Ascending cmp ys → Ascending cmp (insert_all cmp xs ys)
  ascending_insert_all [] ys h = h
  ascending_insert_all (x ∷ xs) ys h = ascending_insert_all xs (insert cmp x ys) (ascending_insert laws x ys h)

  pub holds_insert_all : (z : X) (xs ys : List X) → holds cmp z (insert_all cmp xs ys) ≡ (holds cmp z xs || holds cmp z ys)
  holds_insert_all z [] ys = refl
  holds_insert_all z (x ∷ xs) ys =
      holds_insert_all z xs (insert cmp x ys)
      ∙ ap (λ b. holds cmp z xs || b) (holds_insert laws z x ys)
      ∙ or_swap (holds cmp z xs) (is_eq (cmp z x)) (holds cmp z ys)
      ∙ sym (or_assoc (is_eq (cmp z x)) (holds cmp z xs) (holds cmp z ys))

  pub insert_all_ascend : (xs : List X) → insert_all cmp xs [] ≡ ascend cmp xs
  insert_all_ascend xs =
      same_members laws (insert_all cmp xs []) (ascend cmp xs) (ascending_insert_all xs [] refl) (ascending_ascend laws xs)
      (λ z. holds_insert_all z xs [] ∙ or-false (holds cmp z xs) ∙ sym (holds_ascend laws z xs))
