-- Each number below the last is tested in turn.
use Rattle.std.proofs.Common.{◌-◌, length, ◌∙◌, arith, rules}
use Rattle.std.proofs.lemmas.Iterator.{YieldsList-from_range}
use Rattle.std.proofs.lemmas.Iterator.Search.{all_from_yields_List}
use Rattle.query.specs.Rules.{named_once}
use Rattle.query.proofs.Loops.{every_below_all}
use Rattle.query.proofs.shape.is_tree.Goals as goal

pub returns : goal.returns
returns c =
    let es = c.args.entries.now in
    let below = length es - 1 in
    all_from_yields_List (named_once es) c.all.new.self _ _ c.all.ensures.ran (YieldsList-from_range {s = record { start = 0; end = c.saturating_sub.result }} 0 below below (cc) (omega arith)) (λ x b q k. search rules)
    ∙ every_below_all (named_once es) below
