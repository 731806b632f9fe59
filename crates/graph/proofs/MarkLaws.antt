-- Shows that a mark that was put on is on, and that taken off again it leaves the marks as they were.
use Rattle.std.proofs.Common.{◌≡◌, Bool, true, false, List, refl, ap, ◌∙◌}
use mathlib.Core.Bool.{xor}
use Rattle.order.specs.Sets.{holds, insert, without}
use Rattle.order.proofs.Ascents.{ascending_insert, ascending_without, holds_insert, same_members}
use Rattle.order.proofs.SetOperations.{insert_turns, without_turns}
use Rattle.rdf.specs.RdfOrders.{triple_laws}
use Rattle.rdf.specs.Triples.{TripleSet, compare_triples}
use Rattle.rdf.specs.declared.triple.Triple.{Triple}
use Rattle.std.specs.Ordering.{is_eq}

pub put_on : (t : Triple) (s : List Triple) → holds compare_triples t (insert compare_triples t s) ≡ true
put_on t s = holds_insert triple_laws t t s ∙ rw (triple_laws.same t)

turned_twice : (a b : Bool) → xor a (xor a b) ≡ b
unfolding xor
turned_twice true true = refl
turned_twice true false = refl
turned_twice false true = refl
turned_twice false false = refl

pub taken_off : (t : Triple) (s : List Triple) → TripleSet s → holds compare_triples t s ≡ false → without compare_triples t (insert compare_triples t s) ≡ s
taken_off t s h none =
    same_members triple_laws (without compare_triples t (insert compare_triples t s)) s
    (ascending_without triple_laws t (insert compare_triples t s) (ascending_insert triple_laws t s h.ascending))
    h.ascending
    (λ z.
    without_turns triple_laws t (insert compare_triples t s) (put_on t s) z
    ∙ ap (xor (is_eq (compare_triples z t))) (insert_turns triple_laws t s none z)
    ∙ turned_twice (is_eq (compare_triples z t)) (holds compare_triples z s))
