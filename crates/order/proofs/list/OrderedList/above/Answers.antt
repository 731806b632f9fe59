-- Shows that `above` reads the least element above x: one past the place of an element, or at the place of what is none.
use Rattle.std.proofs.Common.{◌∙◌}
use Rattle.order.specs.OrderedLists.{elements}
use Rattle.order.proofs.Ascents.{above_least}
use Rattle.order.proofs.Ranks.{above_after, above_at}
use Rattle.order.proofs.list.OrderedList.above.Goals as goal

pub returns-in-Ok-clause-value : goal.returns-in-Ok-clause-value
returns-in-Ok-clause-value g c = λ h. c.get.ensures ∙ above_after g.met.T.TotalOrder.lawful c.args.x.now (elements c.args.self.now) c.in-Ok.at h (c.in-Ok.ensures.located h)

pub returns-in-Ok-clause-least : goal.returns-in-Ok-clause-least
returns-in-Ok-clause-least g c = λ h. above_least g.met.T.TotalOrder.lawful c.args.x.now (elements c.args.self.now) c.get.result h (returns-in-Ok-clause-value g c h)

pub returns-in-Err-clause-value : goal.returns-in-Err-clause-value
returns-in-Err-clause-value g c = λ h. c.get-in-Err.ensures ∙ above_at g.met.T.TotalOrder.lawful c.args.x.now (elements c.args.self.now) c.in-Err.at h (c.in-Err.ensures.located h)

pub returns-in-Err-clause-least : goal.returns-in-Err-clause-least
returns-in-Err-clause-least g c = λ h. above_least g.met.T.TotalOrder.lawful c.args.x.now (elements c.args.self.now) c.get-in-Err.result h (returns-in-Err-clause-value g c h)
