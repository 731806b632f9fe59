-- Shows what a change comes to in each of its four ways: no triple, no effect, no place, carried out.
use Rattle.std.proofs.Common.{◌≡◌, ℕ, Bool, true, false, cond, ◌&&◌, List, Some, None, Ok, Err, Option, Result, sym, refl, ap, ◌∙◌, arith}
use Rattle.std.proofs.lemmas.Bool.{both_ways, not-false}
use Rattle.order.proofs.Ascents.{insert_held, without_absent}
use Rattle.order.proofs.Comparing.{by_bool}
use Rattle.order.proofs.Nexts.{none_some, some_is}
use Rattle.rdf.specs.RdfOrders.{triple_laws}
use Rattle.rdf.specs.Triples.{TripleSet, is_triple}
use Rattle.rdf.specs.declared.refusal.Refusal.{Refusal}
use Rattle.rdf.specs.declared.refusal.Refusal.TheVariants.{NotATriple, NoPlace}
use Rattle.rdf.specs.declared.triple.Triple.{Triple}
use Rattle.graph.specs.Changes.{Change, triple_of, changed, has_effect, verdict, accepted, refused_by, after, alters}
use Rattle.graph.specs.declared.change.Change.TheVariants.{Add, Remove}
use Rattle.graph.specs.Calls.{Applied}

-- the numbers of the refusals are those of the answer
numbers : (triple effect : Bool) → refused_by {A = Unit {0}} (cond triple (cond effect (Err NoPlace) (Ok tt)) (Err NotATriple)) ≡ cond triple (cond effect (Some 13) None) (Some 12)
numbers true true = refl
numbers true false = refl
numbers false e = refl

only_full : (triple effect full : Bool) → ◌≡◌ {A = Option ℕ} (cond triple (cond (effect && full) (Some 13) None) (Some 12)) (Some 13) → full ≡ true
only_full true true true e = refl
only_full true true false e = absurd (none_some {X = ℕ} 13 e)
only_full true false full e = absurd (none_some {X = ℕ} 13 e)
only_full false effect full e = let z : ◌≡◌ {A = ℕ} 12 13 = some_is {X = ℕ} 12 13 e in absurd (omega arith)

module _ (c : Change) (full : Bool) (entry exit : List Triple) (free left : ℕ) (honest : full ≡ true → free ≡ 0) where
  -- the answer, the set and the free places say the rest
  pub applied_by : (r : Result (Unit {0}) Refusal) → r ≡ verdict entry full c → exit ≡ after c r entry → (alters c r entry ≡ false → left ≡ free) → Applied c full entry exit free left r
  applied_by r answer set places = record {
    answer = answer;
    numbered = ap refused_by answer ∙ numbers (is_triple (triple_of c)) (has_effect c entry && full);
    only_full = λ e. honest (only_full (is_triple (triple_of c)) (has_effect c entry) full (sym (ap refused_by answer ∙ numbers (is_triple (triple_of c)) (has_effect c entry && full)) ∙ e));
    set = set;
    places = places;
    history = λ h e. ap (λ s. cond (accepted r) (changed c s) s) e ∙ sym set;
  }

-- a change without effect leaves the set as it is
pub same_set : (c : Change) (s : List Triple) → TripleSet s → has_effect c s ≡ false → s ≡ changed c s
same_set (Add t) s h none = sym (insert_held triple_laws t s h.ascending (not-false _ none))
same_set (Remove t) s h none = sym (without_absent triple_laws t s none)

-- what it means that a change was found to have an effect or none
pub told_effect : (c : Change) (s : List Triple) (b : Bool) → ◌≡◌ {A = Result Bool Refusal} (Ok b) (cond (is_triple (triple_of c)) (Ok (has_effect c s)) (Err NotATriple)) → (is_triple (triple_of c) ≡ true) × (has_effect c s ≡ b)
told_effect c s b e =
    by_bool (is_triple (triple_of c))
    (λ t. (t, some_effect (rw t at e)))
    (λ t. absurd (no_error (rw t at e)))
  where
    some_effect : ◌≡◌ {A = Result Bool Refusal} (Ok b) (Ok (has_effect c s)) → has_effect c s ≡ b
    some_effect h = cc

    no_error : ◌≡◌ {A = Result Bool Refusal} (Ok b) (Err NotATriple) → ⊥
    no_error h = cc

module _ (c : Change) (full : Bool) (s : List Triple) (n : ℕ) (honest : full ≡ true → n ≡ 0) where
  pub no_effect : is_triple (triple_of c) ≡ true → has_effect c s ≡ false → TripleSet s → Applied c full s s n n (Ok tt)
  no_effect t none h = applied_by c full s s n n honest (Ok tt) (rw (t, none)) (same_set c s h none) (λ _. refl)

  pub carried_out : (exit : List Triple) (left : ℕ) → is_triple (triple_of c) ≡ true → has_effect c s ≡ true → full ≡ false → exit ≡ changed c s → Applied c full s exit n left (Ok tt)
  carried_out exit left t some f e = applied_by c full s exit n left honest (Ok tt) (rw (t, some, f)) e (λ none. absurd (both_ways (has_effect c s) none some))
