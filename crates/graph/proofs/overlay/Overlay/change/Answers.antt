-- Shows what a change comes to on an overlay: no effect, or the mark turned.
use Rattle.std.proofs.Common.{◌≡◌, Bool, cond, Ok, Err, Result, rules, ◌∙◌}
use Rattle.order.specs.Sets.{symmetric_difference}
use Rattle.rdf.specs.Triples.{compare_triples, is_triple}
use Rattle.rdf.specs.declared.refusal.Refusal.{Refusal}
use Rattle.rdf.specs.declared.refusal.Refusal.TheVariants.{NotATriple}
use Rattle.graph.specs.Changes.{has_effect, triple_of}
use Rattle.graph.specs.GraphLaws.{overlay_lawful}
use Rattle.graph.specs.Makes.{no_mark, unused}
use Rattle.graph.proofs.AppliedLaws.{no_effect, told_effect}
use Rattle.graph.proofs.OverlayLaws.{turned_applied, unused_full}
use Rattle.graph.proofs.overlay.Overlay.change.Goals as goal

pub returns-then-not-branch-clause-applied : goal.returns-then-not-branch-clause-applied
returns-then-not-branch-clause-applied g c =
    let self = c.args.self.now in
    let change = c.args.change in
    let base = g.G.Graph.triples self.base in
    let set = symmetric_difference compare_triples self.marks base in
    let effect : ◌≡◌ {A = Result Bool Refusal} (Ok c.in_ok-has_effect.field-0) (cond (is_triple (triple_of change)) (Ok (has_effect change set)) (Err NotATriple)) = search rules in
    let told = told_effect change set _ effect in
    let lawful = overlay_lawful self.marks base self.lawful (g.G.Graph.lawful self.base) in
    no_effect change (no_mark self.marks (triple_of change)) set (unused self.marks) (unused_full self.marks (triple_of change)) told.0 (told.1 ∙ c.if-not-branch.true) lawful

pub returns-clause-applied : goal.returns-clause-applied
returns-clause-applied g c =
    let self = c.args.self.now in
    let change = c.args.change in
    let base = g.G.Graph.triples self.base in
    let set = symmetric_difference compare_triples self.marks base in
    let effect : ◌≡◌ {A = Result Bool Refusal} (Ok c.in_ok-has_effect.field-0) (cond (is_triple (triple_of change)) (Ok (has_effect change set)) (Err NotATriple)) = search rules in
    let told = told_effect change set _ effect in
    turned_applied change self.marks c.turn.new.self base c.turn.result (g.G.Graph.lawful self.base) told.0 (told.1 ∙ c.if-not-branch.false) (rw c.triple.ensures at c.turn.ensures.answer) (rw c.triple.ensures at c.turn.ensures.marks)
