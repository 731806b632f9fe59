-- What a graph's make says of its free places, and of the changes that find none. Assumes nothing.
-- In docs/RULES.md: Free places; Stored graph; Overlay; 13 NoPlace.
use Rattle.std.specs.Prelude.{◌≡◌, ℕ, ◌-◌, Bool, true, false, cond, not, ◌&&◌, List, length, ◌==◌}
use Rattle.order.specs.Sets.{holds, insert, symmetric_difference, without}
use Rattle.rdf.specs.Triples.{compare_triples}
use Rattle.rdf.specs.declared.triple.Triple.{Triple}
use Rattle.graph.specs.Changes.{Change, triple_of}
use Rattle.graph.specs.declared.change.Change.TheVariants.{Add, Remove}

pub data Make : Type 0 where
  -- a stored graph with so many places
  stored : ℕ → Make
  -- an overlay over a graph with this set
  overlaid : List Triple → Make
  -- a graph for reading only
  read_only : Make
  -- any other make
  other : Make

-- a stored graph finds no place for an add if none of its places is free; a removal needs none
abbrev pub no_room : ℕ → Change → Bool
no_room free (Add t) = free == 0
no_room free (Remove t) = false

-- how many more triples can be marked in an overlay
abbrev pub unused : List Triple → ℕ
unused marks = 32 - length marks

-- an overlay finds no place for a change of an unmarked triple if it can mark no more
abbrev pub no_mark : List Triple → Triple → Bool
no_mark marks t = unused marks == 0 && not (holds compare_triples t marks)

-- the marks with the mark of t taken off where it is on, and put on where it is off
abbrev pub turned : List Triple → Triple → List Triple
turned marks t = cond (holds compare_triples t marks) (without compare_triples t marks) (insert compare_triples t marks)

-- the free places and the changes that find none, where the graph means the set s
abbrev pub Ruled : Make → List Triple → ℕ → (Change → Bool) → Type 0
Ruled (stored n) s room full = (room ≡ n - length s) × ((c : Change) → full c ≡ no_room room c)
Ruled (overlaid b) s room full = (room ≡ unused (symmetric_difference compare_triples b s)) × ((c : Change) → full c ≡ no_mark (symmetric_difference compare_triples b s) (triple_of c))
Ruled read_only s room full = (room ≡ 0) × ((c : Change) → full c ≡ true)
Ruled other s room full = (c : Change) → full c ≡ true → room ≡ 0
