-- What holds as each turn of `lexical` begins: the rests of the two slices compare as the slices do.
use Rattle.std.proofs.Common.{◌≡◌, length, drop}
use Rattle.order.specs.Lexical.{list_order}
use Rattle.order.proofs.total.lexical.Given as goal

abbrev pub invariant-loop-x : goal.invariant-loop-x
invariant-loop-x g l =
    let order = list_order g.T.TotalOrder.compare in
    order (drop (length l.yielded) l.xs) (drop (length l.yielded) l.ys) ≡ order l.xs l.ys
