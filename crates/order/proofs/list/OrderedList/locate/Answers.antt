-- Shows that one comparison at the place where x belongs tells whether it stands there.
use Rattle.std.proofs.Common.{true, false, rules, arith}
use Rattle.order.specs.OrderedLists.{elements}
use Rattle.order.proofs.Ranks.{located_here, located_past}
use Rattle.order.proofs.list.OrderedList.locate.Goals as goal

pub returns-in-Some-clause-located : goal.returns-in-Some-clause-located
returns-in-Some-clause-located g c = λ h.
    let place = rw c.elements-elements.ensures at c.lower_bound-at.ensures.place in
    let found = rw c.elements-elements.ensures at c.in-Some.ensures.lookup in
    located_here g.met.T.TotalOrder.lawful c.args.x.now c.in-Some.y.now (elements c.args.self.now) c.lower_bound-at.result true h (place h) (omega arith) (search rules) (search rules)

pub returns-in_default-clause-located : goal.returns-in_default-clause-located
returns-in_default-clause-located g c = λ h.
    let place = rw c.elements-elements.ensures at c.lower_bound-at.ensures.place in
    let found = rw c.elements-elements.ensures at c.in-Some.ensures.lookup in
    located_here g.met.T.TotalOrder.lawful c.args.x.now c.in-Some.y.now (elements c.args.self.now) c.lower_bound-at.result false h (place h) (omega arith) (search rules) (search rules)

pub returns-in_default-2-clause-located : goal.returns-in_default-2-clause-located
returns-in_default-2-clause-located g c = λ h.
    let place = rw c.elements-elements.ensures at c.lower_bound-at.ensures.place in
    let found = rw (c.in_default.is, c.elements-elements.ensures) at c.get.ensures.lookup in
    located_past g.met.T.TotalOrder.lawful c.args.x.now (elements c.args.self.now) c.lower_bound-at.result h (place h) (omega arith)
