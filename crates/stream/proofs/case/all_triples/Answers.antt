-- Each turn collects the next triple of the set; where there is none, all are collected.
use Rattle.std.proofs.Common.{arith}
use Rattle.stream.proofs.Collecting.{collected_all, collected_more, collected_none, one_more}
use Rattle.stream.proofs.case.all_triples.Goals as goal

pub loop-triple-init : goal.loop-triple-init
loop-triple-init g c =
    let graph = c.args.graph.now in
    let s = g.G.Graph.triples graph in
    rw (c.new-triples.ensures.items, c.new-triples.ensures.len) (collected_none s (g.G.Graph.lawful graph))

pub loop-triple-smaller : goal.loop-triple-smaller
loop-triple-smaller g c =
    let graph = c.args.graph.now in
    let inside = one_more (g.G.Graph.triples graph) (g.G.Graph.lawful graph) _ _ _ c.loop-triple.invariant c.in-Some.triple c.in-Some.ensures in
    let longer = c.in_ok-push.ensures.len in
    omega (arith, longer, inside)

pub loop-triple-preserved : goal.loop-triple-preserved
loop-triple-preserved g c =
    let graph = c.args.graph.now in
    let s = g.G.Graph.triples graph in
    let more = collected_more s (g.G.Graph.lawful graph) _ _ _ c.loop-triple.invariant c.in-Some.triple c.in-Some.ensures in
    rw (c.in_ok-push.ensures.items, c.in_ok-push.ensures.len) more

pub returns : goal.returns
returns g c =
    let graph = c.args.graph.now in
    collected_all (g.G.Graph.triples graph) (g.G.Graph.lawful graph) _ _ _ c.loop-triple.invariant c.in_default.ensures
