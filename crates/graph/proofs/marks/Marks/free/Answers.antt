-- Shows that the free places are 32 less the marks.
use Rattle.std.proofs.Common.{◌-◌, sym, ap, arith, ◌∙◌, ◌≤◌, length}
use Rattle.std.proofs.lemmas.List.{length-take-le}
use Rattle.graph.specs.Makes.{unused}
use Rattle.graph.proofs.marks.Marks.free.Goals as goal

pub returns : goal.returns
returns c =
    let inside : c.self.inside.count ≤ length c.self.inside.places = omega (arith, c.self.invariant) in
    ap (λ n. 32 - n) (sym (length-take-le c.self.inside.count c.self.inside.places inside)) ∙ ap unused c.self.view_is
