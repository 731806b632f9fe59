use Rattle.std.proofs.Common.{List, length, refl, subst, subst₂}
use Rattle.history.specs.declared.step.Step.{Step}
use Rattle.history.specs.Courses.{Course}
use Rattle.history.specs.Replies.{Truthful}
use Rattle.history.proofs.LogLaws.{in_parts}
use Rattle.history.proofs.opening.JoinedOpening.open.Goals as goal

pub returns-clause-calls : goal.returns-clause-calls
returns-clause-calls g c =
    let parts = in_parts c.args.self.split c.min-split.result c.args.log.now c.open-left.new.log c.open-right.new.log c.min-split.ensures c.open-left.auto.log c.open-right.auto.log in
    parts.same_calls c.open-left.ensures.calls c.open-right.ensures.calls

pub returns-clause-answers : goal.returns-clause-answers
returns-clause-answers g c =
    let parts = in_parts c.args.self.split c.min-split.result c.args.log.now c.open-left.new.log c.open-right.new.log c.min-split.ensures c.open-left.auto.log c.open-right.auto.log in
    let left : List Step → Course = g.A.Opening.course c.args.self.left in
    let right : List Step → Course = g.B.Opening.course c.args.self.right in
    let one = c.open-left.ensures in
    let two = c.open-right.ensures in
    let i = length c.args.memory.now.reading.now in
    let j = length c.args.memory.now.rows.now in (
      subst (λ l. Truthful i j (left l)) parts.front (g.A.Made.Graph.room c.open-left.result, g.A.Made.Graph.full c.open-left.result, one.answers),
      subst (λ l. Truthful i j (right l)) parts.back
          (subst₂ (λ s t. Truthful s t (right c.open-right.new.log)) one.same.reading_size one.same.row_size
          (g.B.Made.Graph.room c.open-right.result, g.B.Made.Graph.full c.open-right.result, two.answers)),
      (refl, λ _. refl),
    )
