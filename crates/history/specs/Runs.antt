-- A log of calls carried out on a graph: each call leads from one state of the graph and of the lent memory to the next. Assumes nothing.
-- In docs/RULES.md: Log.
use Rattle.std.specs.Prelude.{◌≡◌, ℕ, Bool, false, List, [], ◌∷◌, Some, Result}
use Rattle.rdf.specs.declared.refusal.Refusal.{Refusal}
use Rattle.rdf.specs.declared.row.Row.{Row}
use Rattle.rdf.specs.declared.triple.Triple.{Triple}
use Rattle.graph.specs.Changes.{Change, adding, removing, alters}
use Rattle.graph.specs.Makes.{Make}
use Rattle.graph.specs.Calls.{Applied}
use Rattle.graph.specs.Histories.{make_of}
use Rattle.history.specs.declared.memory.Memory.{Memory}
use Rattle.history.specs.declared.step.Call.{Call}
use Rattle.history.specs.declared.step.Call.TheVariants.{Next, Add, Remove, Free, Ask}
use Rattle.history.specs.declared.step.Step.{Step}
use Rattle.history.specs.Courses.{Course, Reply, account_of, history_of, since}
use Rattle.history.specs.Memories.{SamePlaces}
use Rattle.history.specs.Replies.{Leaves, changed_by, number_of, due, number_due, reading_since, reading_then, rows_since, rows_then}

-- over what a graph of a type means; `frame` is what no call alters, `unaltered` what a change keeps that is refused or has no effect
module _ {G : Type 0} (make : G → Make) (triples : G → List Triple) (room : G → ℕ) (full : G → Change → Bool) (frame unaltered : G → G → Type 0) where
  -- the change c leads from the graph g to the graph k, with the answer a
  pub record Changes (c : Change) (g : G) (a : Reply) (k : G) : Type 0 where
    pub result : Result (Unit {0}) Refusal
    pub told : a ≡ Some (changed_by result)
    pub applied : Applied c (full g c) (triples g) (triples k) (room g) (room k) result
    pub same_make : make k ≡ make g
    pub framed : frame g k
    pub kept : alters c result (triples g) ≡ false → unaltered g k

  -- what a call makes of the graph: one that is no change leaves the whole graph as it was
  abbrev pub Moves : Call → G → Reply → G → Type 0
  Moves (Next t) g a k = k ≡ g
  Moves (Add t) g a k = Changes (adding t) g a k
  Moves (Remove t) g a k = Changes (removing t) g a k
  Moves Free g a k = k ≡ g
  Moves (Ask q) g a k = k ≡ g

  module _ (reading_places row_places : ℕ) where
    -- the call leads from the graph g to the graph k with the answer a, and from the memory m to m_then
    pub record Carries (c : Call) (g : G) (m : Memory) (a : Reply) (k : G) (m_then : Memory) : Type 0 where
      pub answered : a ≡ Some (due reading_places row_places (triples g) (room g) (full g) c)
      pub numbered : number_of a ≡ number_due reading_places row_places (triples g) (full g) c
      pub moved : Moves c g a k
      pub same : SamePlaces m m_then
      pub read : m_then.reading.now ≡ reading_then reading_places row_places (triples g) c m.reading.now
      pub worked : m_then.rows.now ≡ rows_then reading_places row_places (triples g) c m.rows.now

    -- the calls of a log lead from one state to another, each with its answer
    abbrev pub Runs : G → Memory → List Step → G → Memory → Type 0
    Runs g m [] k n = (k ≡ g) × (n ≡ m)
    Runs g m (x ∷ xs) k n = (j : G) × (l : Memory) × Carries x.call g m x.answer j l × Runs j l xs k n

    -- the same, in some memory
    abbrev pub Ran : G → List Step → G → Type 0
    Ran g xs k = (m n : Memory) × Runs g m xs k n

-- a log led from the graph g to the graph k, and from the memory m to the memory n: with its calls after it, the course c of g is the
-- course of k
module _ {G : Type 0} (make : G → Make) (triples : G → List Triple) (room : G → ℕ) (full : G → Change → Bool) (reading_places row_places : ℕ) where
  pub record Continues (c : Course) (g : G) (m : Memory) (log : List Step) (k : G) (n : Memory) : Type 0 where
    pub account : account_of (since c log) ≡ triples k
    pub answers :
        make_of (history_of c) ≡ make g → Leaves reading_places row_places c (room g) (full g)
        → Leaves reading_places row_places (since c log) (room k) (full k)
    pub reading :
        (before : List Triple) → reading_since reading_places row_places c before ≡ m.reading.now
        → reading_since reading_places row_places (since c log) before ≡ n.reading.now
    pub rows :
        (before : List Row) → rows_since reading_places row_places c before ≡ m.rows.now
        → rows_since reading_places row_places (since c log) before ≡ n.rows.now
