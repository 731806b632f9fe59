-- Shows that the set of each kind of graph is a set of triples, and that its free places keep to the rule of its make.
use Rattle.std.proofs.Common.{sym, ap}
use Rattle.std.specs.Prelude.{List, filter}
use Rattle.order.specs.Sets.{insert_all, symmetric_difference}
use Rattle.order.proofs.Ascents.{ascending_ascend}
use Rattle.order.proofs.Holders.{kept_pass}
use Rattle.order.proofs.InsertAll.{ascending_insert_all}
use Rattle.order.proofs.SetOperations.{ascending_symmetric_difference, every_ascend, every_insert_all, every_symmetric_difference, marks_back}
use Rattle.rdf.specs.RdfOrders.{triple_laws}
use Rattle.rdf.specs.Triples.{TripleSet, compare_triples, is_triple}
use Rattle.rdf.specs.declared.triple.Triple.{Triple}
use Rattle.graph.specs.Changes.{triple_of}
use Rattle.graph.specs.Histories.{set_of}
use Rattle.graph.specs.Makes.{Ruled, no_mark, overlaid, unused}

pub set_of_lawful : (es : List Triple) → TripleSet (set_of es)
set_of_lawful es = record {
  ascending = ascending_ascend triple_laws (filter is_triple es);
  members = every_ascend triple_laws is_triple (filter is_triple es) (kept_pass is_triple es);
}

pub union_lawful : (s t : List Triple) → TripleSet s → TripleSet t → TripleSet (insert_all compare_triples s t)
union_lawful s t p q = record {
  ascending = ascending_insert_all triple_laws s t q.ascending;
  members = every_insert_all triple_laws is_triple s t p.members q.members;
}

pub overlay_lawful : (m b : List Triple) → TripleSet m → TripleSet b → TripleSet (symmetric_difference compare_triples m b)
overlay_lawful m b p q = record {
  ascending = ascending_symmetric_difference triple_laws m b q.ascending;
  members = every_symmetric_difference triple_laws is_triple m b p.members q.members;
}

-- the marks are told by the set beneath and the set, so that the free places are too
pub overlay_ruled : (m b : List Triple) → TripleSet m → TripleSet b → Ruled (overlaid b) (symmetric_difference compare_triples m b) (unused m) (λ c. no_mark m (triple_of c))
overlay_ruled m b p q =
    let back = marks_back triple_laws m b p.ascending q.ascending in
    (ap unused (sym back), λ c. ap (λ marks. no_mark marks (triple_of c)) (sym back))
