-- What a question asks of its query, its starting row and its row memory: a test for each of the refusals
-- 1 to 9, by the refusal's number. Of the starting row it asks `holds_terms`. Assumes nothing.
-- In docs/RULES.md: 1 TableSize to 7 BadValues; 9 FewRows.
use Rattle.std.specs.Prelude.{ℕ, ◌+◌, ◌-◌, Bool, true, false, ◌&&◌, ◌||◌, ltb, List, length, take, drop, sum_by, count_by, ◌==◌, nat_eq, nat_le, nat_lt, slice_index_or}
use Rattle.order.specs.Lists.{every}
use Rattle.rdf.specs.declared.row.Row.{Row}
use Rattle.rdf.specs.Rows.{is_data_row}
use Rattle.rdf.specs.Terms.{is_identifier, is_literal}
use Rattle.rdf.specs.Variables.{in_range}
use Rattle.query.specs.declared.table.Child.{Child}
use Rattle.query.specs.declared.table.Entry.{Entry}
use Rattle.query.specs.declared.table.Entry.TheVariants.{Triple, Values, Initial, And, Union, Opt, Minus, Select, Filter, Equal, Blank, Bound, Not, Both, Either, Exists}
use Rattle.query.specs.declared.table.Kind.{Kind}
use Rattle.query.specs.declared.table.Kind.TheVariants.{Pattern, Condition}
use Rattle.query.specs.declared.table.Position.{Position}
use Rattle.query.specs.declared.table.Position.TheVariants as position
use Rattle.query.specs.Entries.{children_of, kind_of}
use Rattle.query.specs.Every.{every_below, every_from}

-- 1: the table has 1 to 64 entries
abbrev pub size_fits : List Entry → Bool
size_fits es = nat_lt 0 (length es) && nat_le (length es) 64

-- 2: each entry names only entries that stand before it
abbrev pub names_below : ℕ → Entry → Bool
names_below n e = every (λ c. ltb c.at n) (children_of e)

abbrev pub names_earlier : List Entry → Bool
names_earlier es = every_from names_below 0 es

-- 3: each named entry is of the kind that is due there, and the last entry is a pattern
abbrev pub same_kind : Kind → Kind → Bool
same_kind Pattern Pattern = true
same_kind Pattern Condition = false
same_kind Condition Pattern = false
same_kind Condition Condition = true

abbrev pub kind_at : List Entry → ℕ → Kind
kind_at es n = kind_of (slice_index_or es n Initial)

abbrev pub is_due : List Entry → Child → Bool
is_due es c = same_kind (kind_at es c.at) c.due

abbrev pub names_due : List Entry → Entry → Bool
names_due es e = every (is_due es) (children_of e)

abbrev pub kinds_fit : List Entry → Bool
kinds_fit es = every (names_due es) es && same_kind (kind_at es (length es - 1)) Pattern

-- 4: each entry before the last is named exactly once
abbrev pub times_in : ℕ → Entry → ℕ
times_in n e = count_by (λ c. nat_eq c.at n) (children_of e)

abbrev pub times_named : List Entry → ℕ → ℕ
times_named es n = sum_by (times_in n) es

abbrev pub named_once : List Entry → ℕ → Bool
named_once es n = times_named es n == 1

abbrev pub is_tree : List Entry → Bool
is_tree es = every_below (named_once es) (length es - 1)

-- 5: each variable's number is at most 15
abbrev pub position_in_range : Position → Bool
position_in_range (position.Variable v) = in_range v
position_in_range (position.Term t) = true

abbrev pub variables_in_range : Entry → Bool
variables_in_range (Triple s p o) = position_in_range s && position_in_range p && position_in_range o
variables_in_range (Values f n) = true
variables_in_range Initial = true
variables_in_range (And l r) = true
variables_in_range (Union l r) = true
variables_in_range (Opt l r) = true
variables_in_range (Minus l r) = true
variables_in_range (Select p vs) = true
variables_in_range (Filter p c) = true
variables_in_range (Equal x y) = position_in_range x && position_in_range y
variables_in_range (Blank x) = position_in_range x
variables_in_range (Bound v) = in_range v
variables_in_range (Not c) = true
variables_in_range (Both l r) = true
variables_in_range (Either l r) = true
variables_in_range (Exists p) = true

-- 6: a term in a position is an identifier or a literal, and as a TRIPLE's subject or predicate an identifier
abbrev pub takes_identifier : Position → Bool
takes_identifier (position.Variable v) = true
takes_identifier (position.Term t) = is_identifier t

abbrev pub takes_constant : Position → Bool
takes_constant (position.Variable v) = true
takes_constant (position.Term t) = is_identifier t || is_literal t

abbrev pub positions_fit : Entry → Bool
positions_fit (Triple s p o) = takes_identifier s && takes_identifier p && takes_constant o
positions_fit (Values f n) = true
positions_fit Initial = true
positions_fit (And l r) = true
positions_fit (Union l r) = true
positions_fit (Opt l r) = true
positions_fit (Minus l r) = true
positions_fit (Select p vs) = true
positions_fit (Filter p c) = true
positions_fit (Equal x y) = takes_constant x && takes_constant y
positions_fit (Blank x) = takes_constant x
positions_fit (Bound v) = true
positions_fit (Not c) = true
positions_fit (Both l r) = true
positions_fit (Either l r) = true
positions_fit (Exists p) = true

-- 7: a VALUES span lies within the value rows, and its rows are data rows
abbrev pub span_fits : List Row → ℕ → ℕ → Bool
span_fits rs first count = nat_le (first + count) (length rs) && every is_data_row (take count (drop first rs))

abbrev pub values_fit : List Row → Entry → Bool
values_fit rs (Triple s p o) = true
values_fit rs (Values first count) = span_fits rs first count
values_fit rs Initial = true
values_fit rs (And l r) = true
values_fit rs (Union l r) = true
values_fit rs (Opt l r) = true
values_fit rs (Minus l r) = true
values_fit rs (Select p vs) = true
values_fit rs (Filter p c) = true
values_fit rs (Equal x y) = true
values_fit rs (Blank x) = true
values_fit rs (Bound v) = true
values_fit rs (Not c) = true
values_fit rs (Both l r) = true
values_fit rs (Either l r) = true
values_fit rs (Exists p) = true

-- 9: row memory has a place for each entry
abbrev pub rows_suffice : List Entry → ℕ → Bool
rows_suffice es places = nat_le (length es) places
