-- Shows that `lexical` answers by the first difference.
use Rattle.std.proofs.Common.{rules, arith, ◌∙◌}
use Rattle.std.proofs.lemmas.Slice.Zip.{zip_end}
use Rattle.order.proofs.Orders.{list_order_rest}
use Rattle.order.proofs.total.lexical.Goals as goal

pub returns : goal.returns
returns g c =
    let xs = c.args.xs.now in
    let ys = c.args.ys.now in
    let n = zip_end xs ys c.loop-x.yielded c.into_iter-x-iterator.result c.loop-x.x-iterator c.next.new.self c.next.result (search rules) (search rules) c.loop-x.yielded_by c.in-None.is c.next.ensures.steps in
    let told = list_order_rest g.T.TotalOrder.compare xs ys _ n ∙ c.loop-x.invariant in
    grind (arith, told)
