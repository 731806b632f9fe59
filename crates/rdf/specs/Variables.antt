-- Variables and sets of variables. Assumes nothing.
-- In docs/RULES.md: Variables.
use Rattle.std.specs.Prelude.{◌≡◌, ℕ, ◌/◌, ◌%◌, ◌^◌, Bool, ◌&&◌, ◌||◌, ◌==◌, nat_le}
use Rattle.rdf.specs.declared.variable.Variable.{Variable}
use Rattle.rdf.specs.declared.variable.VariableSet.{VariableSet}

-- rows have a place for the variables 0 to 15
abbrev pub in_range : Variable → Bool
in_range v = nat_le v.0 15

abbrev pub same_variable : Variable → Variable → Bool
same_variable v w = v.0 == w.0

-- whether bit k of a number is set
abbrev pub bit : ℕ → ℕ → Bool
bit n k = (n / 2 ^ k) % 2 == 1

-- bit v tells whether variable v is a member
abbrev pub in_set : VariableSet → Variable → Bool
in_set vs v = bit vs.0 v.0

-- the members of the first set are v, where rows have a place for it, and those of the second
abbrev pub HasAlso : VariableSet → Variable → VariableSet → Type 0
HasAlso more v vs = (w : Variable) → in_set more w ≡ ((in_range v && same_variable w v) || in_set vs w)
