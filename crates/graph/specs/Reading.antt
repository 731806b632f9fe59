-- What memory holds after a set was read into it. Assumes nothing.
-- In docs/RULES.md: Stored graph; 10 SmallReading.
use Rattle.std.specs.Prelude.{ℕ, ◌-◌, cond, List, ◌++◌, length, replicate, Ok, Err, Result, nat_le}
use Rattle.rdf.specs.Triples.{no_triple}
use Rattle.rdf.specs.declared.refusal.Refusal.{Refusal}
use Rattle.rdf.specs.declared.refusal.Refusal.TheVariants.{SmallReading}
use Rattle.rdf.specs.declared.triple.Triple.{Triple}

-- so many places: the triples, and empty places after them
abbrev pub then_empty : List Triple → ℕ → List Triple
then_empty s places = s ++ replicate (places - length s) no_triple

-- how many triples there are, where that many places suffice
abbrev pub read_count : List Triple → ℕ → Result ℕ Refusal
read_count s places = cond (nat_le (length s) places) (Ok (length s)) (Err SmallReading)

-- the triples and empty places after them; all empty where the places do not suffice
abbrev pub read_places : List Triple → ℕ → List Triple
read_places s places = cond (nat_le (length s) places) (then_empty s places) (replicate places no_triple)
