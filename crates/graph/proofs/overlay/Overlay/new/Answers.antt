-- Shows that an overlay without marks means the set beneath.
use Rattle.std.proofs.Common.{sym, ◌∙◌}
use Rattle.order.proofs.SetOperations.{difference_nothing}
use Rattle.rdf.specs.RdfOrders.{triple_laws}
use Rattle.graph.proofs.overlay.Overlay.new.Goals as goal

pub returns-clause-history : goal.returns-clause-history
returns-clause-history g c h e = e ∙ rw c.new.ensures (sym (difference_nothing triple_laws (g.G.Graph.triples c.args.base)))
