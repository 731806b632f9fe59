-- The questions that are asked of a reel book, as tables. Assumes nothing.
use Rattle.std.specs.Prelude.{ℕ, List, [], ◌∷◌}
use Rattle.query.specs.declared.table.Position.{Position}
use Rattle.query.specs.declared.table.Position.TheVariants as position
use Rattle.query.specs.declared.table.Entry.{Entry}
use Rattle.query.specs.declared.table.Entry.TheVariants as entry

-- a variable and a term in a position, by their numbers
abbrev pub var : ℕ → Position
var n = position.Variable (record { 0 = n })

abbrev pub the : ℕ → Position
the n = position.Term (record { 0 = n })

-- each weight (1) for which there is not, with the row of that weight, a unit (5) of grams per square metre (9)
abbrev pub unweighed : List Entry
unweighed =
    entry.Triple (var 0) (the 1) (var 1) ∷ entry.Initial ∷ entry.Triple (var 1) (the 5) (the 9) ∷ entry.And 1 2 ∷ entry.Exists 3 ∷ entry.Not 4
    ∷ entry.Filter 0 5 ∷ []

-- each moisture before the dryers (13), less those of reels that have a moisture at the reel (41)
abbrev pub not_at_reel : List Entry
not_at_reel = entry.Triple (var 0) (the 13) (var 1) ∷ entry.Triple (var 0) (the 41) (var 2) ∷ entry.Minus 0 1 ∷ []
