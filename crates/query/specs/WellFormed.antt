-- What holds of a query that passes every check. Assumes nothing.
-- In docs/RULES.md: Tree of a table.
use Rattle.std.specs.Prelude.{◌≡◌, ℕ, ◌-◌, ◌≤◌, true, List, length}
use Rattle.order.specs.Lists.{every}
use Rattle.rdf.specs.declared.row.Row.{Row}
use Rattle.rdf.specs.Rows.{holds_terms}
use Rattle.query.specs.declared.table.Entry.{Entry}
use Rattle.query.specs.Rules.{size_fits, names_earlier, kinds_fit, is_tree, variables_in_range, positions_fit, values_fit}
use Rattle.query.specs.Sizes.{size_at}

-- the table and the value rows keep their rules
pub record WellFormed (entries : List Entry) (values : List Row) : Type 0 where
  pub size : size_fits entries ≡ true
  pub earlier : names_earlier entries ≡ true
  pub kinds : kinds_fit entries ≡ true
  pub tree : is_tree entries ≡ true
  pub variables : every variables_in_range entries ≡ true
  pub positions : every positions_fit entries ≡ true
  pub spans : every (values_fit values) entries ≡ true

-- and so do the starting row and row memory; the table is one tree, below its last entry
pub record Accepted (entries : List Entry) (values : List Row) (start : Row) (places : ℕ) : Type 0 where
  pub query : WellFormed entries values
  pub starts : holds_terms start ≡ true
  pub rows : length entries ≤ places
  pub whole : size_at entries (length entries - 1) ≡ length entries
