-- The laws that make strictly ascending lists sets: a set is told by its members, and each operation by the members that it leaves.
-- Which order it is does not matter. Assumes nothing.
use Rattle.std.specs.Prelude.{◌≡◌, ◌+◌, ◌-◌, ◌≤◌, Bool, true, cond, not, ◌&&◌, ◌||◌, List, length, filter, Option}
use Rattle.std.specs.declared.cmp.Ordering.{Ordering}
use Rattle.std.specs.Bool.{xor}
use Rattle.std.specs.Ordering.{is_eq}
use Rattle.order.specs.Sets.{Ascending, IsAbove, above, ascend, difference, holds, insert, insert_all, lesser, symmetric_difference, without}

pub record SetLaws {X : Type 0} (cmp : X → X → Ordering) : Type 0 where
  -- sets with the same members are the same list
  pub by_members : (s t : List X) → Ascending cmp s → Ascending cmp t → ((z : X) → holds cmp z s ≡ holds cmp z t) → s ≡ t
  -- a set whose members all lie in another is no longer than it
  pub no_longer : (s t : List X) → Ascending cmp s → Ascending cmp t → ((z : X) → holds cmp z s ≡ true → holds cmp z t ≡ true) → length s ≤ length t
  -- each operation on sets gives a set
  pub ascending_insert : (x : X) (s : List X) → Ascending cmp s → Ascending cmp (insert cmp x s)
  pub ascending_without : (x : X) (s : List X) → Ascending cmp s → Ascending cmp (without cmp x s)
  pub ascending_filter : (test : X → Bool) (s : List X) → Ascending cmp s → Ascending cmp (filter test s)
  pub ascending_union : (s t : List X) → Ascending cmp s → Ascending cmp t → Ascending cmp (insert_all cmp s t)
  pub ascending_difference : (s t : List X) → Ascending cmp s → Ascending cmp t → Ascending cmp (difference cmp s t)
  pub ascending_symmetric_difference : (s t : List X) → Ascending cmp s → Ascending cmp t → Ascending cmp (symmetric_difference cmp s t)
  -- `ascend` makes a set of any list
  pub ascending_ascend : (xs : List X) → Ascending cmp (ascend cmp xs)
  -- the members that it has
  pub holds_insert : (z x : X) (s : List X) → holds cmp z (insert cmp x s) ≡ (is_eq (cmp z x) || holds cmp z s)
  pub holds_without : (z x : X) (s : List X) → holds cmp z (without cmp x s) ≡ (not (is_eq (cmp z x)) && holds cmp z s)
  pub holds_filter : (z : X) (test : X → Bool) (s : List X) → holds cmp z (filter test s) ≡ (test z && holds cmp z s)
  pub holds_union : (z : X) (s t : List X) → holds cmp z (insert_all cmp s t) ≡ (holds cmp z s || holds cmp z t)
  pub holds_difference : (z : X) (s t : List X) → holds cmp z (difference cmp s t) ≡ (not (holds cmp z t) && holds cmp z s)
  pub holds_symmetric_difference : (z : X) (s t : List X) → holds cmp z (symmetric_difference cmp s t) ≡ xor (holds cmp z s) (holds cmp z t)
  pub holds_ascend : (z : X) (xs : List X) → holds cmp z (ascend cmp xs) ≡ holds cmp z xs
  -- `ascend` leaves a set as it is, and what two sets differ by leads from the one to the other and back
  pub ascend_same : (s : List X) → Ascending cmp s → ascend cmp s ≡ s
  pub back : (s t : List X) → Ascending cmp s → Ascending cmp t → symmetric_difference cmp t (symmetric_difference cmp s t) ≡ s
  -- the number of members after one goes in or out
  pub length_insert : (x : X) (s : List X) → Ascending cmp s → length (insert cmp x s) ≡ cond (holds cmp x s) (length s) (length s + 1)
  pub length_without : (x : X) (s : List X) → Ascending cmp s → length (without cmp x s) ≡ cond (holds cmp x s) (length s - 1) (length s)
  -- `above` tells the least member above x; there is one answer only; and over a union it is the lesser of the two sets' own
  pub above_is : (x : X) (s : List X) → Ascending cmp s → IsAbove cmp x s (above cmp x s)
  pub above_only : (x : X) (s : List X) (o p : Option X) → IsAbove cmp x s o → IsAbove cmp x s p → o ≡ p
  pub above_union : (x : X) (s t : List X) → Ascending cmp s → Ascending cmp t → above cmp x (insert_all cmp s t) ≡ lesser cmp (above cmp x s) (above cmp x t)
