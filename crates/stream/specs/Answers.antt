-- What the lines of answers tell: the number of a refusal, and sums over memory. Assumes nothing.
use Rattle.std.specs.Prelude.{ℕ, ◌+◌, ◌*◌, ◌%◌, Bool, ◌&&◌, List, [], ◌∷◌, map, Ok, Err, Result}
use Rattle.std.specs.List.{flat_map, fold}
use Rattle.rdf.specs.Refusals.{number}
use Rattle.rdf.specs.Variables.{bit, in_range}
use Rattle.rdf.specs.declared.refusal.Refusal.{Refusal}
use Rattle.rdf.specs.declared.row.Row.{Row}
use Rattle.rdf.specs.declared.term.Term.{Term}
use Rattle.rdf.specs.declared.triple.Triple.{Triple}
use Rattle.rdf.specs.declared.variable.Variable.{Variable}

-- 0, or the refusal's number
abbrev pub code_of : {X : Type 0} → Result X Refusal → ℕ
code_of (Ok _) = 0
code_of (Err refusal) = number refusal

-- a sum with one more number
abbrev pub with_number : ℕ → ℕ → ℕ
with_number sum n = (sum * 31 + n) % 4294967291

-- a sum with more numbers, one after the other
abbrev pub sum_with : ℕ → List ℕ → ℕ
sum_with sum ns = fold with_number sum ns

abbrev pub triple_numbers : Triple → List ℕ
triple_numbers t = t.subject.0 ∷ t.predicate.0 ∷ t.object.0 ∷ []

abbrev pub term_numbers : List Term → List ℕ
term_numbers ts = map (λ t. t.0) ts

abbrev pub row_numbers : Row → List ℕ
row_numbers r = term_numbers r.places

-- the sum of memory for reading, and of memory for rows
abbrev pub reading_sum : List Triple → ℕ
reading_sum places = sum_with 0 (flat_map triple_numbers places)

abbrev pub row_sum : List Row → ℕ
row_sum rows = sum_with 0 (flat_map row_numbers rows)

-- whether a variable is in the set that a mask of sixteen bits stands for
abbrev pub in_mask : ℕ → Variable → Bool
in_mask mask v = in_range v && bit mask v.0
