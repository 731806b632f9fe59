-- Shows what a turned mark does to the set of an overlay, and that the change which turns it is applied as it should be.
use Rattle.std.proofs.Common.{◌≡◌, true, false, cond, not, ◌&&◌, eqb, List, [], ◌∷◌, Some, Ok, Err, Result, refl, ap, ◌∙◌}
use mathlib.Core.Bool.{xor, and-true, and-false}
use Rattle.std.proofs.lemmas.Bool.{and_parts, both_ways, cond-true, cond-false, eqb-true, not-true}
use Rattle.std.specs.List.{find}
use Rattle.std.specs.Ordering.{is_eq, is_lt}
use Rattle.order.specs.Sets.{above, difference, holds, symmetric_difference}
use Rattle.order.proofs.Comparing.{by_bool}
use Rattle.order.proofs.SetOperations.{insert_turns, marked_adds, marked_removes, without_turns}
use Rattle.rdf.specs.RdfOrders.{triple_laws}
use Rattle.rdf.specs.Triples.{TripleSet, compare_triples, is_triple}
use Rattle.rdf.specs.declared.refusal.Refusal.{Refusal}
use Rattle.rdf.specs.declared.refusal.Refusal.TheVariants.{NoPlace}
use Rattle.rdf.specs.declared.triple.Triple.{Triple}
use Rattle.graph.specs.declared.change.Change.TheVariants.{Add, Remove}
use Rattle.graph.specs.Calls.{Applied}
use Rattle.graph.specs.Changes.{Change, accepted, after, alters, changed, has_effect, triple_of, verdict}
use Rattle.graph.specs.Makes.{no_mark, turned, unused}
use Rattle.graph.proofs.AppliedLaws.{applied_by}

-- the first mark that is above and not beneath is the least of these
pub first_new : (a : Triple) (m b : List Triple) → find (λ x. is_lt (compare_triples a x) && not (holds compare_triples x b)) m ≡ above compare_triples a (difference compare_triples m b)
first_new a [] b = refl
first_new a (x ∷ m) b =
    by_bool (holds compare_triples x b)
    (λ h. rw (h, and-false (is_lt (compare_triples a x))) (first_new a m b))
    (λ h. rw (h, and-true (is_lt (compare_triples a x))) (ap (cond (is_lt (compare_triples a x)) (Some x)) (first_new a m b)))

-- no place is found only where none is unused
pub unused_full : (m : List Triple) (t : Triple) → no_mark m t ≡ true → unused m ≡ 0
unused_full m t h = eqb-true (unused m) 0 (and_parts (eqb (unused m) 0) (not (holds compare_triples t m)) h).0

-- the other marks stay
turns : (t z : Triple) (m : List Triple) → holds compare_triples z (turned m t) ≡ xor (is_eq (compare_triples z t)) (holds compare_triples z m)
turns t z m =
    by_bool (holds compare_triples t m)
    (λ on. ap (holds compare_triples z) (cond-true (holds compare_triples t m) _ _ on) ∙ without_turns triple_laws t m on z)
    (λ off. ap (holds compare_triples z) (cond-false (holds compare_triples t m) _ _ off) ∙ insert_turns triple_laws t m off z)

-- with the mark turned, the set is the changed one
turned_set : (c : Change) (m b : List Triple) → TripleSet b → has_effect c (symmetric_difference compare_triples m b) ≡ true → symmetric_difference compare_triples (turned m (triple_of c)) b ≡ changed c (symmetric_difference compare_triples m b)
turned_set (Add t) m b base some = marked_adds triple_laws t m (turned m t) b base.ascending (λ z. turns t z m) (not-true _ some)
turned_set (Remove t) m b base some = marked_removes triple_laws t m (turned m t) b base.ascending (λ z. turns t z m) some

module _ (c : Change) (m n b : List Triple) (r : Result (Unit {0}) Refusal) (base : TripleSet b) (triple : is_triple (triple_of c) ≡ true) (some : has_effect c (symmetric_difference compare_triples m b) ≡ true) where
  -- a change with effect turns the mark of its triple, unless there is no place for it
  pub turned_applied : r ≡ cond (no_mark m (triple_of c)) (Err NoPlace) (Ok tt) → n ≡ cond (accepted r) (turned m (triple_of c)) m → Applied c (no_mark m (triple_of c)) (symmetric_difference compare_triples m b) (symmetric_difference compare_triples n b) (unused m) (unused n) r
  turned_applied answer turn =
      applied_by c (no_mark m (triple_of c)) (symmetric_difference compare_triples m b) (symmetric_difference compare_triples n b) (unused m) (unused n) (unused_full m (triple_of c)) r
      (answer ∙ by_rule) (set r turn) (places r turn)
    where
      by_rule : cond (no_mark m (triple_of c)) (Err NoPlace) (Ok tt) ≡ verdict (symmetric_difference compare_triples m b) (no_mark m (triple_of c)) c
      by_rule = rw (triple, some)

      set : (o : Result (Unit {0}) Refusal) → n ≡ cond (accepted o) (turned m (triple_of c)) m → symmetric_difference compare_triples n b ≡ after c o (symmetric_difference compare_triples m b)
      set (Ok u) e = ap (λ l. symmetric_difference compare_triples l b) e ∙ turned_set c m b base some
      set (Err f) e = ap (λ l. symmetric_difference compare_triples l b) e

      places : (o : Result (Unit {0}) Refusal) → n ≡ cond (accepted o) (turned m (triple_of c)) m → alters c o (symmetric_difference compare_triples m b) ≡ false → unused n ≡ unused m
      places (Ok u) e none = absurd (both_ways (has_effect c (symmetric_difference compare_triples m b)) none some)
      places (Err f) e none = ap unused e
