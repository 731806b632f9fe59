-- What holds as each halving begins: the place that is sought lies between the bounds, where the elements ascend.
use Rattle.std.proofs.Common.{◌-◌, ◌≤◌, length}
use Rattle.order.specs.Sets.{Ascending, rank}
use Rattle.order.proofs.list.lower_bound.Given as goal

abbrev pub invariant-loop-low : goal.invariant-loop-low
invariant-loop-low g l =
    let place = rank g.T.TotalOrder.compare l.x l.places in
    (l.low ≤ l.high) × (l.high ≤ length l.places) × (Ascending g.T.TotalOrder.compare l.places → (l.low ≤ place) × (place ≤ l.high))

abbrev pub decreases-loop-low : goal.decreases-loop-low
decreases-loop-low g l = l.high - l.low
