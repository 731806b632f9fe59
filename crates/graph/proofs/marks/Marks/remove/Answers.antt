-- Shows that a mark is taken off, and that the marks stay as they must be.
use Rattle.std.proofs.Common.{◌≡◌, length, length-take, sym, ap, ◌∙◌, subst, arith}
use Rattle.rdf.specs.declared.triple.Triple.{Triple}
use Rattle.order.specs.Sets.{holds, without}
use Rattle.order.proofs.Ascents.{ascending_without}
use Rattle.order.proofs.Holders.{take_out_first}
use Rattle.order.proofs.SetOperations.{every_without}
use Rattle.rdf.specs.RdfOrders.{triple_laws}
use Rattle.rdf.specs.Triples.{TripleSet, compare_triples, is_triple, no_triple}
use Rattle.graph.proofs.marks.Marks.remove.Goals as goal

pub returns-clause-marks : goal.returns-clause-marks
returns-clause-marks c =
    let self = c.self.inside in
    let start = c.of_first-list.ensures in
    let marked = ap (holds compare_triples c.args.triple) c.self.view_is ∙ c.requires in
    take_out_first compare_triples c.args.triple c.of_first-list.result c.take_out-taken.new.self self.places self.count c.len-self-inside.result start.elements c.len-self-inside.ensures.count no_triple c.take_out-taken.result marked (c.take_out-taken.ensures.takes (start.ordered c.self.invariant.2.ascending))
    ∙ ap (without compare_triples c.args.triple) c.self.view_is

pub returns-clause-lawful : goal.returns-clause-lawful
returns-clause-lawful c =
    let old : TripleSet c.args.self.now = subst TripleSet c.self.view_is c.self.invariant.2 in
    let t = c.args.triple in
    subst TripleSet (sym (returns-clause-marks c)) (record { ascending = ascending_without triple_laws t _ old.ascending; members = every_without triple_laws is_triple t _ old.members })

pub invariant_of-self : goal.invariant_of-self
invariant_of-self c =
    let start = c.of_first-list.ensures in
    let long : length c.take_out-taken.new.self.places.now ≡ 32 = c.take_out-taken.ensures.size ∙ ap length start.places ∙ c.self.invariant.0 in
    (long, omega (arith, c.len-self-inside.ensures.within), returns-clause-lawful c)

pub returns-clause-few : goal.returns-clause-few
returns-clause-few c = omega (arith, invariant_of-self c, length-take {A = Triple})
