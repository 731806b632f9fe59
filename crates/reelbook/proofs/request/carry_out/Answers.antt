-- Shows that the loop over the steps keeps its progress, and that the whole course and the whole history follow from it. Assumes nothing.
use Rattle.std.proofs.Common.{◌<◌, ◌≤◌, length, Some, refl, ap, ◌∙◌, subst, arith}
use Rattle.graph.specs.Makes.{Ruled}
use Rattle.reelbook.proofs.Progress.{course_all, history_all, progress_more, progress_none}
use Rattle.reelbook.proofs.request.carry_out.Goals as goal

pub loop-step-init : goal.loop-step-init
loop-step-init g c = (progress_none _ _ _, refl, g.G.EditableGraph.still _)

pub loop-step-preserved : goal.loop-step-preserved
loop-step-preserved g c =
    let graph = c.loop-step.graph in
    let within : c.loop-step.step-index < length c.loop-step.steps = omega (arith, c.loop-step.auto.steps) in
    let ruled = subst (λ k. Ruled k (g.G.Graph.triples graph) (g.G.Graph.room graph) (g.G.Graph.full graph)) c.loop-step.invariant.1 (g.G.Graph.ruled graph) in (
      progress_more _ _ _ _ _ _ c.loop-step.invariant.0 _ _ _ within
          (g.G.Graph.room graph, (g.G.Graph.full graph, (ruled, ap Some c.carry_out.ensures.outcome))) c.carry_out.ensures.history,
      c.carry_out.ensures.make ∙ c.loop-step.invariant.1,
      g.G.EditableGraph.onward _ _ _ c.loop-step.invariant.2 c.carry_out.ensures.framed,
    )

pub returns : goal.returns
returns g c =
    let end : length c.loop-step.steps ≤ c.loop-step.step-index = omega (arith, c.loop-step.auto.steps) in
    let progress = c.loop-step.invariant.0 in
    record {
      requests = progress.asked_same;
      course = course_all _ _ _ _ _ _ progress end;
      history = history_all _ _ _ _ _ _ progress end;
      make = c.loop-step.invariant.1;
      framed = c.loop-step.invariant.2;
    }
