-- Each entry is tested in turn, with its number.
use Rattle.std.proofs.Common.{ℕ, ◌∙◌, rules}
use Rattle.std.proofs.lemmas.Iterator.{YieldsList-from_slice}
use Rattle.std.proofs.lemmas.Iterator.Consumers.{YieldsList-from_enumerate}
use Rattle.std.proofs.lemmas.Iterator.Search.{all_from_yields_List}
use Rattle.query.specs.Rules.{names_below}
use Rattle.query.specs.declared.table.Entry.{Entry}
use Rattle.query.proofs.Loops.{every_from_all}
use Rattle.query.proofs.shape.names_earlier.Goals as goal

pub returns : goal.returns
returns c =
    let es = c.args.entries.now in
    all_from_yields_List (λ (p : ℕ × Entry). names_below p.0 p.1) c.all.new.self _ _ c.all.ensures.ran (YieldsList-from_enumerate (YieldsList-from_slice es cc) cc) (λ x b q k. search rules)
    ∙ every_from_all names_below 0 es
