-- Shows that a sealed graph accepts a change without effect.
use Rattle.std.proofs.Common.{true, refl, ◌∙◌}
use Rattle.graph.proofs.AppliedLaws.{no_effect, told_effect}
use Rattle.graph.proofs.sealed.Sealed.answer.Goals as goal

pub returns : goal.returns
returns g c =
    let graph = c.args.self.now.graph in
    let set = g.G.Graph.triples graph in
    let told = told_effect c.args.change set _ c.in_ok-has_effect.ensures in
    no_effect c.args.change true set 0 (λ _. refl) told.0 (told.1 ∙ c.if-branch.false) (g.G.Graph.lawful graph)
