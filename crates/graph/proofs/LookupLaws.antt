-- Shows that a triple is looked up by the least triple above the three numbers just before it.
use Rattle.std.proofs.Common.{◌≡◌, ◌-◌, ◌<◌, true, false, not, List, Some, None, Option, refl, sym, ◌∙◌, arith}
use Rattle.std.proofs.lemmas.Bool.Decides.{nat_tests}
use Rattle.std.specs.Option.{option_eq}
use Rattle.std.specs.Ordering.{is_lt}
use Rattle.order.specs.Lists.{every}
use Rattle.order.specs.Sets.{Ascending, above, holds}
use Rattle.order.proofs.Comparing.{by_bool}
use Rattle.order.proofs.Nexts.{found_above, lost_above}
use Rattle.order.proofs.SetOperations.{every_holds}
use Rattle.rdf.specs.RdfOrders.{triple_laws}
use Rattle.rdf.specs.Triples.{compare_triples, is_triple}
use Rattle.rdf.specs.contracts.triple.TriplePartialEq.TheImpl.{ghosts as triples}
use Rattle.rdf.specs.declared.triple.Triple.{Triple}
use Rattle.graph.proofs.EqualLaws.{equal_is_eq}

abbrev pub just_before : Triple → Triple
just_before t = record { subject = t.subject; predicate = t.predicate; object = record { 0 = t.object.0 - 1 } }

pub nothing_between : (t : Triple) → 0 < t.object.0 → (x : Triple) → is_lt (compare_triples (just_before t) x) ≡ not (is_lt (compare_triples x t))
nothing_between t h x = grind (arith, nat_tests)

no_object : (t : Triple) → t.object.0 ≡ 0 → is_triple t ≡ true → ⊥
no_object t e h = grind (arith, nat_tests)

pub absent_without_object : (t : Triple) (s : List Triple) → every is_triple s ≡ true → t.object.0 ≡ 0 → false ≡ holds compare_triples t s
absent_without_object t s all e =
    by_bool (holds compare_triples t s) (λ h. absurd (no_object t e (every_holds triple_laws is_triple t s all h))) (λ h. sym h)

-- a triple is a member exactly if it is the least one above the numbers just before it
pub next_is_member : (t : Triple) (s : List Triple) → Ascending compare_triples s → 0 < t.object.0 → option_eq triples.eq (above compare_triples (just_before t) s) (Some t) ≡ holds compare_triples t s
next_is_member t s h some = by_next (above compare_triples (just_before t) s) refl
  where
    by_next : (o : Option Triple) → o ≡ above compare_triples (just_before t) s → option_eq triples.eq o (Some t) ≡ holds compare_triples t s
    by_next None e = lost_above triple_laws (just_before t) t (nothing_between t some) s e
    by_next (Some x) e = equal_is_eq x t ∙ found_above triple_laws (just_before t) t (nothing_between t some) s x h e
