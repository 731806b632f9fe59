-- Shows that the steps on a fresh overlay are a course from the set of its base, and carry the history of the base on. Assumes nothing.
use Rattle.std.proofs.Common.{sym, refl, ap, ◌∙◌, subst}
use Rattle.graph.specs.Histories.{laid_over, opened}
use Rattle.graph.specs.Makes.{other, overlaid}
use Rattle.reelbook.specs.Requests.{Course}
use Rattle.reelbook.proofs.layers.correct.Goals as goal

pub returns : goal.returns
returns g c =
    let set = g.B.Graph.triples c.args.base in
    let steps = c.carry_out.new.steps in
    let bare = c.new-overlay.ensures.history (opened other set) refl in
    record {
      requests = c.carry_out.ensures.requests;
      course =
          subst (λ k. Course k set steps) (ap (λ b. overlaid (g.B.Graph.triples b)) c.new-overlay.ensures.kept)
          (subst (λ s. Course (overlaid (g.B.Graph.triples c.new-overlay.result.base)) s steps) (sym bare) c.carry_out.ensures.course);
      history = λ h e. c.carry_out.ensures.history (laid_over h) (c.new-overlay.ensures.history h e);
      base = c.carry_out.ensures.framed ∙ c.new-overlay.ensures.kept;
    }
