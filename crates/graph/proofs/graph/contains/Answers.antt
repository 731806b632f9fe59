-- Shows that `contains` tells by one look whether the triple is a member.
use Rattle.std.proofs.Common.{◌≡◌, Some, ◌∙◌, rules, arith}
use Rattle.std.specs.Option.{option_eq}
use Rattle.rdf.specs.contracts.triple.TriplePartialEq.TheImpl.{ghosts as triples}
use Rattle.graph.proofs.LookupLaws.{absent_without_object, next_is_member}
use Rattle.graph.proofs.graph.contains.Goals as goal

pub returns-in_default : goal.returns-in_default
returns-in_default g c =
    let none : c.args.triple.object.0 ≡ 0 = omega (arith, c.in_default.ensures) in
    absent_without_object c.args.triple _ (g.G.Graph.lawful c.args.graph.now).members none

pub returns : goal.returns
returns g c =
    let set = g.G.Graph.lawful c.args.graph.now in
    let told = next_is_member c.args.triple _ set.ascending (omega (arith, c.in-Some.ensures)) in
    let equal : c.eq.result ≡ option_eq triples.eq c.next.result (Some c.args.triple) = search rules in
    equal ∙ rw (c.next.ensures, c.in-Some.ensures.1) told
