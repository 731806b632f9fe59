-- Shows that `lower_bound` finds the place where x stands or belongs.
use Rattle.std.proofs.Common.{◌≡◌, ◌+◌, ◌-◌, ◌/◌, true, false, ap, sym, ◌∙◌, rules, arith}
use Rattle.std.specs.Ordering.{is_lt}
use Rattle.order.proofs.Comparing.{less_from_test}
use Rattle.order.proofs.Ranks.{rank_le, rank_past, rank_past_last, rank_upto}
use Rattle.order.proofs.list.lower_bound.Goals as goal

pub returns-then-is_lt-clause-place : goal.returns-then-is_lt-clause-place
returns-then-is_lt-clause-place g c = λ h. rank_past_last g.met.T.TotalOrder.lawful c.args.x.now c.in-Some.last.now c.args.places.now h (sym c.in-Some.ensures.value) (search rules)

pub loop-low-init : goal.loop-low-init
loop-low-init g c =
    let most = rank_le g.met.T.TotalOrder.lawful c.args.x.now c.args.places.now in
    (omega arith, omega arith, λ h. (omega arith, omega arith))

pub loop-low-preserved-then-is_lt-2 : goal.loop-low-preserved-then-is_lt-2
loop-low-preserved-then-is_lt-2 g c = (
  omega arith,
  omega arith,
  λ h.
      let before = c.loop-low.invariant.2 h in
      let less : is_lt (g.T.TotalOrder.compare c.index-places-mid.result c.args.x.now) ≡ true = search rules in
      let past =
      rank_past g.met.T.TotalOrder.lawful c.args.x.now c.index-places-mid.result c.args.places.now
      (c.loop-low.low + (c.loop-low.high - c.loop-low.low) / 2) h (omega arith)
      (ap (λ v. g.T.TotalOrder.compare v c.args.x.now) (sym c.index-places-mid.is) ∙ less_from_test _ less)
      in
      (omega arith, omega arith),
)

pub loop-low-preserved : goal.loop-low-preserved
loop-low-preserved g c = (
  omega arith,
  omega arith,
  λ h.
      let before = c.loop-low.invariant.2 h in
      let other : is_lt (g.T.TotalOrder.compare c.index-places-mid.result c.args.x.now) ≡ false = search rules in
      let upto =
      rank_upto g.met.T.TotalOrder.lawful c.args.x.now c.index-places-mid.result c.args.places.now
      (c.loop-low.low + (c.loop-low.high - c.loop-low.low) / 2) (omega arith)
      (ap (λ v. is_lt (g.T.TotalOrder.compare v c.args.x.now)) (sym c.index-places-mid.is) ∙ other)
      in
      (omega arith, omega arith),
)
