-- Examples of the checks: each refusal, which of two comes first, and how far a check reaches.
use Rattle.std.specs.Prelude.{◌≡◌, ℕ, zero, suc, ◌+◌, List, [], ◌∷◌, map}
use Rattle.rdf.specs.declared.refusal.Refusal.TheVariants.{TableSize, ForwardReference, WrongKind, NotATree, VariableRange, BadPosition, BadValues, BadStart, FewRows, SmallReading, WorkingSet, NotATriple, NoPlace}
use Rattle.rdf.specs.Refusals.{number}
use Rattle.rdf.specs.Rows.{empty_row}
use Rattle.query.specs.declared.table.Entry.{Entry}
use Rattle.query.specs.declared.table.Entry.TheVariants.{Triple as triple_of, Values, Initial, And, Select, Filter, Equal, Blank, Bound, Not}
use Rattle.semantics.specs.declared.strategy.Strategy.{Strategy}
use Rattle.semantics.specs.Questions.{Answer, answer}
use Rattle.semantics.specs.SmallGraph.{reels, v, the, variables, row, weights, put, put_with, put_at, BothTell, BothRefuse}

-- n entries that each select from the one before, the first from entry k
abbrev pub selects : ℕ → ℕ → List Entry
selects k zero = []
selects k (suc n) = Select k (variables 0) ∷ selects (k + 1) n

-- the same question with fewer or more places to read into
abbrev pub reading : ℕ → List Entry → ℕ → Strategy → Answer
reading reading_places entries row_places strategy = answer strategy reels entries [] empty_row reading_places row_places

-- two rows of weights, where one fits
abbrev pub too_many_rows : List Entry
too_many_rows = weights ∷ Bound (record { 0 = 0 }) ∷ Filter 0 1 ∷ []

pub record CheckExamples : Type 0 where
  -- 1
  pub no_entry : BothRefuse (put [] 1) 1
  pub longest_table : BothTell (put (Initial ∷ selects 0 63) 64) 1 1 (empty_row ∷ [])
  pub too_long_a_table : BothRefuse (put (Initial ∷ selects 0 64) 65) 1
  -- 2
  pub names_itself : BothRefuse (put (Initial ∷ And 0 1 ∷ []) 2) 2
  pub names_a_later_entry : BothRefuse (put (Select 1 (variables 0) ∷ Initial ∷ []) 2) 2
  -- 3
  pub pattern_as_condition : BothRefuse (put (Initial ∷ Initial ∷ Filter 0 1 ∷ []) 3) 3
  pub condition_as_pattern : BothRefuse (put (Bound (record { 0 = 0 }) ∷ Initial ∷ And 0 1 ∷ []) 3) 3
  pub ends_in_a_condition : BothRefuse (put (Bound (record { 0 = 0 }) ∷ []) 1) 3
  -- 4
  pub named_twice : BothRefuse (put (weights ∷ And 0 0 ∷ []) 2) 4
  pub named_nowhere : BothRefuse (put (Initial ∷ Initial ∷ []) 2) 4
  -- 5
  pub past_the_last_variable : BothRefuse (put (triple_of (v 0) (the 5) (v 16) ∷ []) 1) 5
  pub equal_past_the_last_variable : BothRefuse (put (Initial ∷ Equal (v 16) (the 1) ∷ Filter 0 1 ∷ []) 3) 5
  pub blank_past_the_last_variable : BothRefuse (put (Initial ∷ Blank (v 16) ∷ Filter 0 1 ∷ []) 3) 5
  pub bound_past_the_last_variable : BothRefuse (put (Initial ∷ Bound (record { 0 = 16 }) ∷ Filter 0 1 ∷ []) 3) 5
  -- 6
  pub blank_node_in_a_query : BothRefuse (put (triple_of (v 0) (the 1) (the 2) ∷ []) 1) 6
  pub no_term_in_a_query : BothRefuse (put (triple_of (v 0) (the 1) (the 4) ∷ []) 1) 6
  pub unbound_in_a_query : BothRefuse (put (triple_of (v 0) (the 1) (the 0) ∷ []) 1) 6
  pub literal_subject : BothRefuse (put (triple_of (the 3) (the 1) (v 1) ∷ []) 1) 6
  pub literal_predicate : BothRefuse (put (triple_of (v 0) (the 3) (v 1) ∷ []) 1) 6
  pub literal_object : BothTell (put (triple_of (v 0) (the 5) (the 3) ∷ []) 1) 0 0 []
  pub equal_to_a_blank_node : BothRefuse (put (Initial ∷ Equal (v 0) (the 2) ∷ Filter 0 1 ∷ []) 3) 6
  pub blank_of_no_term : BothRefuse (put (Initial ∷ Blank (the 4) ∷ Filter 0 1 ∷ []) 3) 6
  -- 7
  pub no_such_value_row : BothRefuse (put (Values 0 1 ∷ []) 1) 7
  pub span_past_the_end : BothRefuse (put_with (empty_row ∷ []) (Values 1 1 ∷ []) 1) 7
  pub empty_span_past_the_end : BothRefuse (put_with (empty_row ∷ []) (Values 2 0 ∷ []) 1) 7
  pub empty_span_at_the_end : BothTell (put_with (empty_row ∷ []) (Values 1 0 ∷ []) 1) 0 0 []
  pub blank_node_in_values : BothRefuse (put_with (row 2 0 0 ∷ []) (Values 0 1 ∷ []) 1) 7
  pub no_term_in_values : BothRefuse (put_with (row 4 0 0 ∷ []) (Values 0 1 ∷ []) 1) 7
  pub literal_in_values : BothTell (put_with (row 3 0 0 ∷ []) (Values 0 1 ∷ []) 1) 1 1 (row 3 0 0 ∷ [])
  pub blank_node_outside_the_span : BothTell (put_with (empty_row ∷ row 2 0 0 ∷ []) (Values 0 1 ∷ []) 1) 1 1 (empty_row ∷ [])
  -- 8
  pub no_term_at_the_start : BothRefuse (put_at (row 4 0 0) (Initial ∷ []) 1) 8
  pub blank_node_at_the_start : BothTell (put_at (row 2 0 0) (Initial ∷ []) 1) 1 1 (row 2 0 0 ∷ [])
  -- 9
  pub as_many_places_as_entries : BothTell (put (Initial ∷ Select 0 (variables 0) ∷ []) 2) 1 1 (empty_row ∷ [])
  pub fewer_places_than_entries : BothRefuse (put (Initial ∷ Select 0 (variables 0) ∷ []) 1) 9
  -- 10
  pub graph_just_fits : BothTell (reading 3 (Initial ∷ []) 1) 1 1 (empty_row ∷ [])
  pub graph_too_large : BothRefuse (reading 2 (Initial ∷ []) 1) 10
  -- 11
  pub set_too_large : BothRefuse (reading 3 too_many_rows 5) 11
  -- each check is made over all entries before the next
  pub forward_before_kind : BothRefuse (put (Initial ∷ Not 1 ∷ []) 2) 2
  pub forward_later_before_kind : BothRefuse (put (Initial ∷ Not 0 ∷ And 0 2 ∷ []) 3) 2
  pub kind_before_tree : BothRefuse (put (Initial ∷ Initial ∷ Bound (record { 0 = 0 }) ∷ []) 3) 3
  pub tree_before_variable : BothRefuse (put (triple_of (v 16) (the 1) (v 0) ∷ Initial ∷ []) 2) 4
  pub variable_before_position : BothRefuse (put (triple_of (v 0) (the 2) (v 1) ∷ triple_of (v 16) (the 1) (v 0) ∷ And 0 1 ∷ []) 3) 5
  pub position_before_values : BothRefuse (put (Values 0 1 ∷ triple_of (v 0) (the 2) (v 1) ∷ And 0 1 ∷ []) 3) 6
  pub values_before_start : BothRefuse (put_at (row 4 0 0) (Values 0 1 ∷ []) 1) 7
  pub start_before_places : BothRefuse (put_at (row 4 0 0) (Initial ∷ []) 0) 8
  pub places_before_reading : BothRefuse (reading 2 (Initial ∷ []) 0) 9
  pub reading_before_sets : BothRefuse (reading 2 too_many_rows 5) 10
  pub numbers : map number (TableSize ∷ ForwardReference ∷ WrongKind ∷ NotATree ∷ VariableRange ∷ BadPosition ∷ BadValues ∷ BadStart ∷ FewRows ∷ SmallReading ∷ WorkingSet ∷ NotATriple ∷ NoPlace ∷ []) ≡ 1 ∷ 2 ∷ 3 ∷ 4 ∷ 5 ∷ 6 ∷ 7 ∷ 8 ∷ 9 ∷ 10 ∷ 11 ∷ 12 ∷ 13 ∷ []
