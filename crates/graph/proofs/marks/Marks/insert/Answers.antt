-- Shows that a mark is put on, and that the marks stay as they must be.
use Rattle.std.proofs.Common.{◌≡◌, ◌<◌, ◌≤◌, length, sym, ap, ◌∙◌, subst, arith}
use Rattle.std.proofs.lemmas.List.{length-take-le}
use Rattle.order.specs.Sets.{holds, insert}
use Rattle.order.proofs.Ascents.{ascending_insert, length_insert_le}
use Rattle.order.proofs.Holders.{put_first}
use Rattle.order.proofs.SetOperations.{every_insert}
use Rattle.rdf.specs.RdfOrders.{triple_laws}
use Rattle.rdf.specs.Triples.{TripleSet, compare_triples, is_triple}
use Rattle.graph.specs.Makes.{unused}
use Rattle.graph.proofs.marks.Marks.insert.Goals as goal

pub returns-clause-marks : goal.returns-clause-marks
returns-clause-marks c =
    let self = c.self.inside in
    let start = c.of_first-list.ensures in
    let inside : self.count ≤ length self.places = omega (arith, c.self.invariant) in
    let room : self.count < length self.places = omega (arith, c.self.invariant, ap unused c.self.view_is, c.requires.fits, length-take-le self.count self.places inside) in
    let unmarked = ap (holds compare_triples c.args.triple) c.self.view_is ∙ c.requires.unmarked in
    put_first compare_triples c.args.triple c.of_first-list.result c.put-made.new.self self.places self.count c.len-self-inside.result start.elements c.len-self-inside.ensures.count c.put-made.result start.spare room unmarked (c.put-made.ensures.puts (start.ordered c.self.invariant.2.ascending))
    ∙ ap (insert compare_triples c.args.triple) c.self.view_is

pub returns-clause-lawful : goal.returns-clause-lawful
returns-clause-lawful c =
    let old : TripleSet c.args.self.now = subst TripleSet c.self.view_is c.self.invariant.2 in
    let t = c.args.triple in
    subst TripleSet (sym (returns-clause-marks c)) (record { ascending = ascending_insert triple_laws t _ old.ascending; members = every_insert triple_laws is_triple t _ c.requires.valid old.members })

pub invariant_of-self : goal.invariant_of-self
invariant_of-self c =
    let start = c.of_first-list.ensures in
    let long : length c.put-made.new.self.places.now ≡ 32 = c.put-made.ensures.size ∙ ap length start.places ∙ c.self.invariant.0 in
    (long, omega (arith, c.len-self-inside.ensures.within), returns-clause-lawful c)

pub returns-clause-few : goal.returns-clause-few
returns-clause-few c =
    subst (λ l. length l ≤ 32) (sym (returns-clause-marks c)) (omega (arith, length_insert_le triple_laws c.args.triple c.args.self.now, c.requires.fits))
