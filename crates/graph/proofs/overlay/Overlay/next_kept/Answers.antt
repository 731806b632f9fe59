-- Shows that the walk over the graph beneath ends at its least unmarked triple.
use Rattle.std.proofs.Common.{sym, ◌∙◌}
use Rattle.order.proofs.Nexts.{above_difference_none, above_difference_here, above_difference_past, count_above_falls}
use Rattle.rdf.specs.RdfOrders.{triple_laws}
use Rattle.graph.proofs.overlay.Overlay.next_kept.Goals as goal

pub loop-found-smaller : goal.loop-found-smaller
loop-found-smaller g c = count_above_falls triple_laws _ _ _ (g.G.Graph.lawful c.args.self.now.base).ascending c.in-Some.ensures

pub loop-found-preserved : goal.loop-found-preserved
loop-found-preserved g c =
    sym (above_difference_past triple_laws _ _ _ _ (g.G.Graph.lawful c.args.self.now.base).ascending c.in-Some.ensures (sym c.if-not-contains.ensures.marked))
    ∙ c.loop-found.invariant

pub returns-then-not-contains : goal.returns-then-not-contains
returns-then-not-contains g c = sym (above_difference_here triple_laws _ _ _ _ c.in-Some.ensures (sym c.if-not-contains.ensures.marked)) ∙ c.loop-found.invariant

pub returns : goal.returns
returns g c =
    let self = c.args.self.now in
    sym (above_difference_none triple_laws c.loop-found.at (g.G.Graph.triples self.base) self.marks c.in_default.ensures) ∙ c.loop-found.invariant
