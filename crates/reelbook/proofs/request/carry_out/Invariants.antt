-- What the loop over the steps keeps: the progress so far, and what is fixed of the graph. Assumes nothing.
use Rattle.std.proofs.Common.{◌≡◌}
use Rattle.reelbook.proofs.Progress.{Progress}
use Rattle.reelbook.proofs.request.carry_out.Given as goal

abbrev pub invariant-loop-step : goal.invariant-loop-step
invariant-loop-step g l =
    Progress (g.G.Graph.make l.initial.graph) (g.G.Graph.triples l.initial.graph) l.initial.steps l.steps l.step-index (g.G.Graph.triples l.graph)
    × (g.G.Graph.make l.graph ≡ g.G.Graph.make l.initial.graph)
    × g.G.EditableGraph.frame l.initial.graph l.graph
