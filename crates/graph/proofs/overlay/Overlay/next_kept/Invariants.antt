-- What the walk over the graph beneath keeps: what it passed is marked; each turn leaves fewer triples above.
use Rattle.std.proofs.Common.{◌≡◌}
use Rattle.order.specs.Sets.{above, difference}
use Rattle.order.proofs.Nexts.{count_above}
use Rattle.rdf.specs.Triples.{compare_triples}
use Rattle.graph.proofs.overlay.Overlay.next_kept.Given as goal

abbrev pub invariant-loop-found : goal.invariant-loop-found
invariant-loop-found g l =
    let unmarked = difference compare_triples (g.G.Graph.triples l.self.base) l.self.marks in
    above compare_triples l.at unmarked ≡ above compare_triples l.initial.at unmarked

abbrev pub decreases-loop-found : goal.decreases-loop-found
decreases-loop-found g l = count_above compare_triples l.at (g.G.Graph.triples l.self.base)
