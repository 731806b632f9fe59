-- The first refusal that a question meets before it touches any memory. Assumes nothing.
-- In docs/RULES.md: Order of the refusals.
use Rattle.std.specs.Prelude.{ℕ, Bool, true, false, List, [], ◌∷◌, Some, None, Ok, Err, Option, Result}
use Rattle.order.specs.Lists.{every}
use Rattle.rdf.specs.declared.refusal.Refusal.{Refusal}
use Rattle.rdf.specs.declared.refusal.Refusal.TheVariants.{TableSize, ForwardReference, WrongKind, NotATree, VariableRange, BadPosition, BadValues, BadStart, FewRows}
use Rattle.rdf.specs.declared.row.Row.{Row}
use Rattle.rdf.specs.Rows.{holds_terms}
use Rattle.query.specs.declared.table.Entry.{Entry}
use Rattle.query.specs.Rules.{size_fits, names_earlier, kinds_fit, is_tree, variables_in_range, positions_fit, values_fit, rows_suffice}

-- a test, and the refusal where it fails
pub record Test : Type 0 where
  pub passes : Bool
  pub refusal : Refusal

abbrev pub ◌or◌ : Bool → Refusal → Test
b or r = record { passes = b; refusal = r }

infix 20 ◌or◌
abbrev pub unless : Bool → Refusal → Option Refusal → Option Refusal
unless true r rest = rest
unless false r rest = Some r

abbrev pub first_failed : List Test → Option Refusal
first_failed [] = None
first_failed (t ∷ ts) = unless t.passes t.refusal (first_failed ts)

abbrev pub first_refusal : List Entry → List Row → Row → ℕ → Option Refusal
first_refusal entries values start places =
    first_failed
    ((size_fits entries or TableSize)
    ∷ (names_earlier entries or ForwardReference)
    ∷ (kinds_fit entries or WrongKind)
    ∷ (is_tree entries or NotATree)
    ∷ (every variables_in_range entries or VariableRange)
    ∷ (every positions_fit entries or BadPosition)
    ∷ (every (values_fit values) entries or BadValues)
    ∷ (holds_terms start or BadStart)
    ∷ (rows_suffice entries places or FewRows)
    ∷ [])

-- what a call that only checks returns
abbrev pub checked : Option Refusal → Result (Unit {0}) Refusal
checked None = Ok tt
checked (Some r) = Err r
