use Rattle.std.proofs.Common.{sym, subst₂}
use Rattle.graph.specs.Changes.{triple_of}
use Rattle.graph.specs.GraphLaws.{overlay_ruled}
use Rattle.graph.specs.Makes.{Ruled, no_mark, unused}
use Rattle.history.specs.Courses.{history_of}
use Rattle.history.proofs.opening.LaidOverOpening.open.Goals as goal

pub returns-clause-answers : goal.returns-clause-answers
returns-clause-answers g c =
    let made = c.open.ensures in
    let overlay = c.new.result in
    let marks = overlay.marks in
    let beneath = history_of (g.O.Opening.course c.args.self.beneath c.open.new.log) in
    let account = sym (c.new.ensures.history beneath (sym made.account)) in
    let make = sym (c.new.ensures.make beneath (sym made.account)) in (
      (g.O.Made.Graph.room c.open.result, g.O.Made.Graph.full c.open.result, made.answers),
      subst₂ (λ k s. Ruled k s (unused marks) (λ x. no_mark marks (triple_of x))) make account
          (overlay_ruled marks (g.O.Made.Graph.triples overlay.base) overlay.lawful (g.O.Made.Graph.lawful overlay.base)),
    )
