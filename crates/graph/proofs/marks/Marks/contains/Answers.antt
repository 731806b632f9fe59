-- Shows that a marked triple is found.
use Rattle.std.proofs.Common.{ap, ◌∙◌}
use Rattle.order.specs.Sets.{holds}
use Rattle.rdf.specs.Triples.{compare_triples}
use Rattle.graph.proofs.EqualLaws.{any_holds}
use Rattle.graph.proofs.marks.Marks.contains.Goals as goal

pub returns-clause-marked : goal.returns-clause-marked
returns-clause-marked c = c.contains.ensures.value ∙ any_holds c.args.triple.now c.as_slice.result.now ∙ ap (holds compare_triples c.args.triple.now) c.as_slice.ensures.marked
