-- Shows that the laws of sets hold in every total order.
use Rattle.order.proofs.SetLaws.{set_laws}
use Rattle.order.proofs.laws.set_laws.Goals as goal

pub returns : goal.returns
returns g c = set_laws g.met.T.TotalOrder.lawful
