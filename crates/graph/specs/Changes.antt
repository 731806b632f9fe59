-- Changes of a set of triples: what each does, and when it is refused. Assumes nothing.
-- In docs/RULES.md: Changes.
use Rattle.std.specs.Prelude.{ℕ, Bool, true, false, cond, not, ◌&&◌, List, Some, None, Ok, Err, Option, Result}
use Rattle.order.specs.Sets.{holds, insert, without}
use Rattle.rdf.specs.Refusals.{number}
use Rattle.rdf.specs.Triples.{compare_triples, is_triple}
use Rattle.rdf.specs.declared.refusal.Refusal.{Refusal}
use Rattle.rdf.specs.declared.refusal.Refusal.TheVariants.{NotATriple, NoPlace}
use Rattle.rdf.specs.declared.triple.Triple.{Triple}
use Rattle.graph.specs.declared.change.Change.{Change as ByTriple}
use Rattle.graph.specs.declared.change.Change.TheVariants.{Add, Remove}

-- the type of a graph's set: a strictly ascending list
abbrev pub Triples : Type 0
Triples = List Triple

-- a call that is to change the set, with its three numbers
abbrev pub Change : Type 0
Change = ByTriple

-- the change that puts the triple in
abbrev pub adding : Triple → Change
adding t = Add t

-- the change that takes it out
abbrev pub removing : Triple → Change
removing t = Remove t

abbrev pub triple_of : Change → Triple
triple_of (Add t) = t
triple_of (Remove t) = t

-- the set after the change was accepted
abbrev pub changed : Change → List Triple → List Triple
changed (Add t) s = insert compare_triples t s
changed (Remove t) s = without compare_triples t s

-- whether that set is another one
abbrev pub has_effect : Change → List Triple → Bool
has_effect (Add t) s = not (holds compare_triples t s)
has_effect (Remove t) s = holds compare_triples t s

-- the answer, where `full` tells whether the change finds no place if it has an effect
abbrev pub verdict : List Triple → Bool → Change → Result (Unit {0}) Refusal
verdict s full c = cond (is_triple (triple_of c)) (cond (has_effect c s && full) (Err NoPlace) (Ok tt)) (Err NotATriple)

abbrev pub accepted : {A : Type 0} → Result A Refusal → Bool
accepted (Ok _) = true
accepted (Err _) = false

-- the number by which a call is refused
abbrev pub refused_by : {A : Type 0} → Result A Refusal → Option ℕ
refused_by (Ok _) = None
refused_by (Err f) = Some (number f)

-- the set after the answer: a refused change alters nothing
abbrev pub after : {A : Type 0} → Change → Result A Refusal → List Triple → List Triple
after c r s = cond (accepted r) (changed c s) s

-- whether the change was accepted and had an effect on the set s
abbrev pub alters : {A : Type 0} → Change → Result A Refusal → List Triple → Bool
alters c r s = accepted r && has_effect c s
