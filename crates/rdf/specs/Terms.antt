-- Terms: their sorts and their order. Assumes nothing.
-- In docs/RULES.md: Term sorts; Term order.
use Rattle.std.specs.Prelude.{◌%◌, Bool, not, ◌||◌, ◌==◌}
use Rattle.std.specs.declared.cmp.Ordering.{Ordering}
use Rattle.order.specs.Lexical.{number_order}
use Rattle.rdf.specs.declared.term.Term.{Term}

-- the number 0: no term
abbrev pub unbound : Term
unbound = record { 0 = 0 }

abbrev pub is_unbound : Term → Bool
is_unbound t = t.0 == 0

-- a term's number modulo 4 is its sort, and no multiple of 4 is a term
abbrev pub is_identifier : Term → Bool
is_identifier t = t.0 % 4 == 1

abbrev pub is_blank : Term → Bool
is_blank t = t.0 % 4 == 2

abbrev pub is_literal : Term → Bool
is_literal t = t.0 % 4 == 3

abbrev pub is_term : Term → Bool
is_term t = not (t.0 % 4 == 0)

-- what a place of a row may hold: nothing, or a term of any sort
abbrev pub is_place : Term → Bool
is_place t = is_unbound t || is_term t

-- what a place of a value row may hold: nothing, an identifier or a literal
abbrev pub is_data : Term → Bool
is_data t = is_unbound t || (is_identifier t || is_literal t)

abbrev pub same_term : Term → Term → Bool
same_term t u = t.0 == u.0

-- as numbers
abbrev pub compare_terms : Term → Term → Ordering
compare_terms t u = number_order t.0 u.0
