-- Sets as strictly ascending lists: two such lists with the same members are the same list, so that equal sets are equal lists.
-- Each definition takes the comparison first. Assumes nothing.
-- In docs/RULES.md: Finding; The least element above.
use Rattle.std.specs.Prelude.{◌≡◌, ℕ, suc, Bool, true, false, cond, not, ◌&&◌, ◌||◌, List, [], ◌∷◌, Some, None, filter, Option, Ok, Err, Result}
use Rattle.std.specs.declared.cmp.Ordering.TheVariants.{Less}
use Rattle.std.specs.declared.cmp.Ordering.{Ordering}
use Rattle.std.specs.Ordering.{is_lt, is_le, is_eq, is_ne}
use Rattle.order.specs.Order.{choose}

-- x is below every element of the list
abbrev pub under : {X : Type 0} → (X → X → Ordering) → X → List X → Bool
under cmp x [] = true
under cmp x (y ∷ ys) = is_lt (cmp x y) && under cmp x ys

-- each element is below all that come after it
abbrev pub ascends : {X : Type 0} → (X → X → Ordering) → List X → Bool
ascends cmp [] = true
ascends cmp (x ∷ xs) = under cmp x xs && ascends cmp xs

abbrev pub Ascending : {X : Type 0} → (X → X → Ordering) → List X → Type 0
Ascending cmp xs = ascends cmp xs ≡ true

-- x is a member of the list
abbrev pub holds : {X : Type 0} → (X → X → Ordering) → X → List X → Bool
holds cmp x [] = false
holds cmp x (y ∷ ys) = is_eq (cmp x y) || holds cmp x ys

-- x put where it belongs, unless it is there already
abbrev pub insert : {X : Type 0} → (X → X → Ordering) → X → List X → List X
insert cmp x [] = x ∷ []
insert cmp x (y ∷ ys) = choose (cmp x y) (x ∷ y ∷ ys) (y ∷ ys) (y ∷ insert cmp x ys)

-- all members but x
abbrev pub without : {X : Type 0} → (X → X → Ordering) → X → List X → List X
without cmp x xs = filter (λ y. is_ne (cmp x y)) xs

-- the first member above x, which in an ascending list is the least
abbrev pub above : {X : Type 0} → (X → X → Ordering) → X → List X → Option X
above cmp x [] = None
above cmp x (y ∷ ys) = cond (is_lt (cmp x y)) (Some y) (above cmp x ys)

-- no member is above x; or the answer is a member above x, and no member above x is below it
abbrev pub IsAbove : {X : Type 0} → (X → X → Ordering) → X → List X → Option X → Type 0
IsAbove {X} cmp x xs None = (z : X) → holds cmp z xs ≡ true → is_lt (cmp x z) ≡ false
IsAbove {X} cmp x xs (Some y) = (cmp x y ≡ Less) × (holds cmp y xs ≡ true) × ((z : X) → holds cmp z xs ≡ true → cmp x z ≡ Less → is_le (cmp y z) ≡ true)

-- how many members come before the first that is not below x
abbrev pub rank : {X : Type 0} → (X → X → Ordering) → X → List X → ℕ
rank cmp x [] = 0
rank cmp x (y ∷ ys) = cond (is_lt (cmp y x)) (suc (rank cmp x ys)) 0

-- where x stands, or else where it belongs
abbrev pub located : {X : Type 0} → (X → X → Ordering) → X → List X → Result ℕ ℕ
located cmp x xs = cond (holds cmp x xs) (Ok (rank cmp x xs)) (Err (rank cmp x xs))

-- the elements of the first list put into the second, one after the other: the union of two sets
abbrev pub insert_all : {X : Type 0} → (X → X → Ordering) → List X → List X → List X
insert_all cmp [] ys = ys
insert_all cmp (x ∷ xs) ys = insert_all cmp xs (insert cmp x ys)

-- the members of any list, ascending and each once
abbrev pub ascend : {X : Type 0} → (X → X → Ordering) → List X → List X
ascend cmp [] = []
ascend cmp (x ∷ xs) = insert cmp x (ascend cmp xs)

-- the members of t that are not in s
abbrev pub difference : {X : Type 0} → (X → X → Ordering) → List X → List X → List X
difference cmp t s = filter (λ x. not (holds cmp x s)) t

-- the members of one set that are not in the other
abbrev pub symmetric_difference : {X : Type 0} → (X → X → Ordering) → List X → List X → List X
symmetric_difference cmp s t = insert_all cmp (difference cmp s t) (difference cmp t s)

-- the lesser of two elements, or the one that there is
abbrev pub lesser : {X : Type 0} → (X → X → Ordering) → Option X → Option X → Option X
lesser cmp None o = o
lesser cmp (Some x) None = Some x
lesser cmp (Some x) (Some y) = cond (is_lt (cmp y x)) (Some y) (Some x)
