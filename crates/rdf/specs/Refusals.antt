-- The numbers of the refusals.
-- In docs/RULES.md: Refusals.
use Rattle.std.specs.Prelude.{ℕ}
use Rattle.rdf.specs.declared.refusal.Refusal.{Refusal}
use Rattle.rdf.specs.declared.refusal.Refusal.TheVariants.{TableSize, ForwardReference, WrongKind, NotATree, VariableRange, BadPosition, BadValues, BadStart, FewRows, SmallReading, WorkingSet, NotATriple, NoPlace}

abbrev pub number : Refusal → ℕ
number TableSize = 1
number ForwardReference = 2
number WrongKind = 3
number NotATree = 4
number VariableRange = 5
number BadPosition = 6
number BadValues = 7
number BadStart = 8
number FewRows = 9
number SmallReading = 10
number WorkingSet = 11
number NotATriple = 12
number NoPlace = 13
