use Rattle.std.proofs.Common.{List, length, ◌∙◌, subst, ap₂, subst₂, sym}
use Rattle.graph.specs.Histories.{make_of}
use Rattle.history.specs.declared.step.Step.{Step}
use Rattle.history.specs.Courses.{Course, history_of, since}
use Rattle.history.specs.Runs.{Ran}
use Rattle.history.proofs.RunLaws.{make_since}
use Rattle.history.proofs.LogLaws.{in_parts}
use Rattle.history.proofs.opening.CalledOpening.open.Goals as goal

pub returns-clause-calls : goal.returns-clause-calls
returns-clause-calls g c =
    let parts = in_parts c.args.self.split c.min-split.result c.args.log.now c.open-graph.new.log c.run.new.log c.min-split.ensures c.open-graph.auto.log c.run.auto.log in
    parts.same_calls c.open-graph.ensures.calls c.run.ensures.calls

pub returns-clause-runs : goal.returns-clause-runs
returns-clause-runs g c =
    let parts = in_parts c.args.self.split c.min-split.result c.args.log.now c.open-graph.new.log c.run.new.log c.min-split.ensures c.open-graph.auto.log c.run.auto.log in
    let opened = c.open-graph.ensures in
    let graph = g.O.Made.Graph in
    let edit = g.O.Made.EditableGraph in
    let i = length c.args.memory.now.reading.now in
    let j = length c.args.memory.now.rows.now in (
      c.open-graph.result,
      subst (λ l. g.O.Opening.runs c.args.self.opening i j l c.open-graph.result) parts.front opened.runs,
      subst (λ l. Ran graph.make graph.triples graph.room graph.full edit.frame edit.unaltered i j c.open-graph.result l c.run.new.graph) parts.back
          (subst₂ (λ s t. Ran graph.make graph.triples graph.room graph.full edit.frame edit.unaltered s t c.open-graph.result c.run.new.log c.run.new.graph) opened.same.reading_size opened.same.row_size
          (c.open-graph.new.memory, c.run.new.memory, c.run.ensures.runs)),
    )

pub returns-clause-make : goal.returns-clause-make
returns-clause-make g c =
    let first = c.open-graph.new.log in
    let second = c.run.new.log in
    let parts = in_parts c.args.self.split c.min-split.result c.args.log.now first second c.min-split.ensures c.open-graph.auto.log c.run.auto.log in
    let before : List Step → Course = g.O.Opening.course c.args.self.opening in
    c.run.ensures.make ∙ c.open-graph.ensures.make ∙ sym (make_since (before first) second)
    ∙ ap₂ (λ (a b : List Step). make_of (history_of (since (before a) b))) parts.front parts.back
