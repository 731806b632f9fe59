-- Shows that memory ends with the whole set, or all empty where the set does not fit.
use Rattle.std.proofs.Common.{◌≡◌, ◌<◌, true, leb, length, replicate, sym, ap, ◌∙◌, subst, arith}
use Rattle.std.proofs.lemmas.Bool.{lt-leb}
use Rattle.rdf.specs.Triples.{no_triple}
use Rattle.graph.specs.Reading.{read_places}
use Rattle.graph.proofs.ReadingLaws.{ReadSoFar, read_none, read_more, one_more_in, too_many, all_read, fits_in, read_memory, refused_places}
use Rattle.graph.proofs.reading.read_all.Goals as goal

pub loop-triple-init : goal.loop-triple-init
loop-triple-init g c =
    let graph = c.args.graph.now in
    let s = g.G.Graph.triples graph in
    let places = length c.fill.new.self in
    let blank : c.fill.new.self ≡ replicate places no_triple = c.fill.ensures.after (λ y e. e) ∙ ap (λ n. replicate n no_triple) (sym c.fill.ensures.len) in
    subst (λ l. ReadSoFar s places l no_triple 0) (sym blank) (read_none s (g.G.Graph.lawful graph) places)

pub loop-triple-smaller : goal.loop-triple-smaller
loop-triple-smaller g c =
    let graph = c.args.graph.now in
    let inside = one_more_in (g.G.Graph.triples graph) (g.G.Graph.lawful graph) _ _ _ _ c.loop-triple.invariant c.in-Some.triple c.in-Some.ensures in
    omega arith

pub loop-triple-preserved : goal.loop-triple-preserved
loop-triple-preserved g c =
    let graph = c.args.graph.now in
    let room : c.loop-triple.count < length c.fill.new.self = omega (arith, c.loop-triple.invariant.fits, c.loop-triple.auto.memory) in
    read_more (g.G.Graph.triples graph) (g.G.Graph.lawful graph) _ _ _ _ c.loop-triple.invariant c.in-Some.triple room c.in-Some.ensures

pub returns-then-count-memory : goal.returns-then-count-memory
returns-then-count-memory g c =
    let graph = c.args.graph.now in
    let s = g.G.Graph.triples graph in
    let law = g.G.Graph.lawful graph in
    let places = length c.args.memory.now in
    let same : length c.loop-triple.memory ≡ places = c.loop-triple.auto.memory ∙ c.fill.ensures.len in
    let full : c.loop-triple.count ≡ length c.fill.new.self = c.if-count-memory.true ∙ c.loop-triple.auto.memory in
    let many = too_many s law _ _ _ _ c.loop-triple.invariant c.in-Some.triple full c.in-Some.ensures in
    let short : places < length s = omega (arith, c.fill.ensures.len) in
    let large = lt-leb (length s) places short in
    record {
      count = rw large;
      numbered = rw large;
      memory = c.fill-then-count-memory.ensures.after (λ y e. e) ∙ ap (λ n. replicate n no_triple) same ∙ refused_places s law places short;
    }

pub returns : goal.returns
returns g c =
    let graph = c.args.graph.now in
    let s = g.G.Graph.triples graph in
    let law = g.G.Graph.lawful graph in
    let size = c.fill.ensures.len in
    let all = all_read s law _ _ _ _ c.loop-triple.invariant c.in_default.ensures in
    let small : leb (length s) (length c.args.memory.now) ≡ true = subst (λ n. leb (length s) n ≡ true) size (fits_in s law _ _ _ _ c.loop-triple.invariant c.in_default.ensures) in
    record {
      count = rw (small, all);
      numbered = rw small;
      memory = read_memory s law _ _ _ _ c.loop-triple.invariant c.in_default.ensures ∙ ap (read_places s) size;
    }
