-- What an `OrderedList` holds, and what its methods do to it. The list is its elements and its spare places: the slice that it was
-- lent holds the ones and then the others. Assumes nothing.
-- In docs/RULES.md: One list for all elements; Putting in; Taking out.
use Rattle.std.specs.Prelude.{◌≡◌, ℕ, ◌<◌, ◌≤◌, Bool, true, false, List, ◌∷◌, length, take, drop}
use Rattle.std.specs.declared.cmp.Ordering.{Ordering}
use Rattle.std.specs.List.{insert as inserted, remove}
use Rattle.order.specs.Sets.{Ascending, holds, insert, without}
use Rattle.order.specs.declared.list.OrderedList.{OrderedList}
use Rattle.order.specs.declared.list.Insertion.{Insertion}
use Rattle.order.specs.declared.list.Insertion.TheVariants.{Made, Held, Full}

abbrev pub elements : {X : Type 0} → OrderedList X → List X
elements l = take l.len l.places.now

abbrev pub spare : {X : Type 0} → OrderedList X → List X
spare l = drop l.len l.places.now

-- what every method keeps, and what its answer rests on
abbrev pub Ordered : {X : Type 0} → (X → X → Ordering) → OrderedList X → Type 0
Ordered cmp l = Ascending cmp (elements l)

-- l and m hold the same
abbrev pub Same : {X : Type 0} → OrderedList X → OrderedList X → Type 0
Same l m = (elements m ≡ elements l) × (spare m ≡ spare l)

-- what comes of any list l, in order or not, by putting x in: x goes in at some place, or nothing changes
abbrev pub Enters : {X : Type 0} → X → OrderedList X → OrderedList X → Insertion → Type 0
Enters x l m Made = ((at : ℕ) × ((at ≤ length (elements l)) × (elements m ≡ inserted (elements l) at x))) × (0 < length (spare l)) × (spare m ≡ drop 1 (spare l))
Enters x l m Held = Same l m
Enters x l m Full = (length (spare l) ≡ 0) × Same l m

-- what comes of any list l, in order or not, by taking an element out: one goes, or nothing changes
abbrev pub Leaves : {X : Type 0} → X → OrderedList X → OrderedList X → Bool → Type 0
Leaves blank l m true = ((at : ℕ) × ((at < length (elements l)) × (elements m ≡ remove (elements l) at))) × (spare m ≡ blank ∷ spare l)
Leaves blank l m false = Same l m

-- x is put into l, which gives m: refused only where x is no member and no place is spare
abbrev pub Puts : {X : Type 0} → (X → X → Ordering) → X → OrderedList X → OrderedList X → Insertion → Type 0
Puts cmp x l m Made = (holds cmp x (elements l) ≡ false) × (0 < length (spare l)) × (elements m ≡ insert cmp x (elements l)) × (spare m ≡ drop 1 (spare l))
Puts cmp x l m Held = (holds cmp x (elements l) ≡ true) × Same l m
Puts cmp x l m Full = (holds cmp x (elements l) ≡ false) × (length (spare l) ≡ 0) × Same l m

-- x is taken out of l, which gives m; `blank` goes into the place that becomes spare
abbrev pub TakesOut : {X : Type 0} → (X → X → Ordering) → X → X → OrderedList X → OrderedList X → Bool → Type 0
TakesOut cmp x blank l m true = (holds cmp x (elements l) ≡ true) × (elements m ≡ without cmp x (elements l)) × (spare m ≡ blank ∷ spare l)
TakesOut cmp x blank l m false = (holds cmp x (elements l) ≡ false) × Same l m
