-- Which entries of a query table are patterns, and which entries each one names. Assumes nothing.
-- In docs/RULES.md: Table.
use Rattle.std.specs.Prelude.{ℕ, List, [], ◌∷◌}
use Rattle.query.specs.declared.table.Child.{Child}
use Rattle.query.specs.declared.table.Children.{Children}
use Rattle.query.specs.declared.table.Children.TheVariants as children
use Rattle.query.specs.declared.table.Entry.{Entry}
use Rattle.query.specs.declared.table.Entry.TheVariants.{Triple, Values, Initial, And, Union, Opt, Minus, Select, Filter, Equal, Blank, Bound, Not, Both, Either, Exists}
use Rattle.query.specs.declared.table.Kind.{Kind}
use Rattle.query.specs.declared.table.Kind.TheVariants.{Pattern, Condition}

abbrev pub kind_of : Entry → Kind
kind_of (Triple s p o) = Pattern
kind_of (Values f n) = Pattern
kind_of Initial = Pattern
kind_of (And l r) = Pattern
kind_of (Union l r) = Pattern
kind_of (Opt l r) = Pattern
kind_of (Minus l r) = Pattern
kind_of (Select p vs) = Pattern
kind_of (Filter p c) = Pattern
kind_of (Equal x y) = Condition
kind_of (Blank x) = Condition
kind_of (Bound v) = Condition
kind_of (Not c) = Condition
kind_of (Both l r) = Condition
kind_of (Either l r) = Condition
kind_of (Exists p) = Condition

-- an entry named where a pattern is due, and where a condition is
abbrev pub a_pattern : ℕ → Child
a_pattern n = record { at = n; due = Pattern }

abbrev pub a_condition : ℕ → Child
a_condition n = record { at = n; due = Condition }

-- the entries that an entry names, from left to right
abbrev pub children_of : Entry → List Child
children_of (Triple s p o) = []
children_of (Values f n) = []
children_of Initial = []
children_of (And l r) = a_pattern l ∷ a_pattern r ∷ []
children_of (Union l r) = a_pattern l ∷ a_pattern r ∷ []
children_of (Opt l r) = a_pattern l ∷ a_pattern r ∷ []
children_of (Minus l r) = a_pattern l ∷ a_pattern r ∷ []
children_of (Select p vs) = a_pattern p ∷ []
children_of (Filter p c) = a_pattern p ∷ a_condition c ∷ []
children_of (Equal x y) = []
children_of (Blank x) = []
children_of (Bound v) = []
children_of (Not c) = a_condition c ∷ []
children_of (Both l r) = a_condition l ∷ a_condition r ∷ []
children_of (Either l r) = a_condition l ∷ a_condition r ∷ []
children_of (Exists p) = a_pattern p ∷ []

-- `Children` as a list
abbrev pub child_list : Children → List Child
child_list children.None = []
child_list (children.One c) = c ∷ []
child_list (children.Two c d) = c ∷ d ∷ []
