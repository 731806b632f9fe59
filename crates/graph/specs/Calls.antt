-- What a call of `add` or `remove` promises on every kind of graph. Assumes nothing.
-- In docs/RULES.md: Changes.
use Rattle.std.specs.Prelude.{◌≡◌, ℕ, Bool, false, cond, ◌&&◌, List, Some, None, Result}
use Rattle.rdf.specs.Triples.{is_triple}
use Rattle.rdf.specs.declared.refusal.Refusal.{Refusal}
use Rattle.rdf.specs.declared.triple.Triple.{Triple}
use Rattle.graph.specs.Changes.{Change, triple_of, has_effect, verdict, accepted, refused_by, after, alters}
use Rattle.graph.specs.Histories.{History, then_called, change_called, account}

-- the change c on a graph that means the set `entry` and has `free` places leads to the set `exit` and the free places `left`, with the answer r
pub record Applied (c : Change) (full : Bool) (entry exit : List Triple) (free left : ℕ) (r : Result (Unit {0}) Refusal) : Type 0 where
  pub answer : r ≡ verdict entry full c
  -- refused by 12 exactly if the numbers are no triple, by 13 exactly if a change with effect finds no place
  pub numbered : refused_by r ≡ cond (is_triple (triple_of c)) (cond (has_effect c entry && full) (Some 13) None) (Some 12)
  -- by 13 only where no place is free
  pub only_full : refused_by r ≡ Some 13 → free ≡ 0
  pub set : exit ≡ after c r entry
  -- a change that is refused or has no effect keeps the free places
  pub places : alters c r entry ≡ false → left ≡ free
  -- whatever brought the graph to its set: with this call after it, the account is the set again
  pub history : (h : History) → account h ≡ entry → account (then_called h (change_called c (accepted r))) ≡ exit
