-- How many entries the tree at an entry has. Assumes nothing.
-- In docs/RULES.md: Tree of a table.
use Rattle.std.specs.Prelude.{ℕ, ◌+◌, List, [], ◌∷◌, ◌++◌, sum_by, slice_index}
use Rattle.query.specs.declared.table.Entry.{Entry}
use Rattle.query.specs.Entries.{children_of}

-- an entry counts itself and the trees of the entries that it names, whose sizes are known
unfoldable pub size_from : List ℕ → Entry → ℕ
size_from known e = 1 + sum_by (λ c. slice_index known c.at) (children_of e)

unfoldable pub sizes_after : List ℕ → List Entry → List ℕ
sizes_after known [] = known
sizes_after known (e ∷ es) = sizes_after (known ++ size_from known e ∷ []) es

-- the size of the tree below each entry, worked out from the first entry to the last
unfoldable pub sizes : List Entry → List ℕ
sizes es = sizes_after [] es

unfoldable pub size_at : List Entry → ℕ → ℕ
size_at es n = slice_index (sizes es) n
