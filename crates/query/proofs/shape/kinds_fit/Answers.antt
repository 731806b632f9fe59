-- Each entry is tested in turn, and then the last.
use Rattle.std.proofs.Common.{◌≡◌, true, sym, ◌∙◌, rules}
use Rattle.std.proofs.lemmas.Iterator.{YieldsList-from_slice}
use Rattle.std.proofs.lemmas.Iterator.Search.{all_from_yields_List}
use Rattle.order.specs.Lists.{every}
use Rattle.query.specs.Rules.{names_due}
use Rattle.query.proofs.shape.kinds_fit.Goals as goal

pub returns-then-all : goal.returns-then-all
returns-then-all c =
    let es = c.args.entries.now in
    let due : c.all.result ≡ every (names_due es) es = all_from_yields_List (names_due es) _ _ c.all.result c.all.ensures.ran (YieldsList-from_slice es cc) (λ x b q k. search rules) in
    let all : every (names_due es) es ≡ true = sym due ∙ c.if-all.true in
    search rules
