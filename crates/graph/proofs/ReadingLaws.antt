-- Shows what memory holds while a set is read into it, and what it holds at the end.
use Rattle.std.proofs.Common.{◌≡◌, ℕ, suc, ◌+◌, ◌-◌, ◌<◌, ◌≤◌, true, leb, List, [], ◌∷◌, ◌++◌, length, take, set, replicate, Some, None, Less, sym, refl, ap, ◌∙◌, append_assoc, add-one, arith}
use Rattle.std.specs.List.{slice_get}
use Rattle.std.proofs.lemmas.List.{take_more, take_all, set_at, length-take-le}
use Rattle.std.proofs.lemmas.Bool.{cond-true, cond-false, le-leb, lt-leb, and_parts}
use Rattle.std.proofs.lemmas.Bool.Decides.{nat_tests}
use Rattle.order.specs.Lists.{every}
use Rattle.order.specs.Sets.{above, under}
use Rattle.order.proofs.Ascents.{above_first, under_cons}
use Rattle.order.proofs.Holders.{nth_in, nth_none}
use Rattle.order.proofs.Nexts.{above_following}
use Rattle.rdf.specs.RdfOrders.{triple_laws}
use Rattle.rdf.specs.Triples.{TripleSet, compare_triples, is_triple, no_triple}
use Rattle.rdf.specs.declared.triple.Triple.{Triple}
use Rattle.graph.specs.Reading.{read_places}

above_nothing : (x : Triple) → is_triple x ≡ true → compare_triples no_triple x ≡ Less
above_nothing x h = grind (arith, nat_tests)

under_nothing : (s : List Triple) → every is_triple s ≡ true → under compare_triples no_triple s ≡ true
under_nothing [] h = refl
under_nothing (x ∷ xs) h =
    let p = and_parts (is_triple x) (every is_triple xs) h in
    under_cons triple_laws no_triple x xs (above_nothing x p.0) (under_nothing xs p.1)

-- n triples of s are read into memory of some places, and `last` is the last of them
pub record ReadSoFar (s : List Triple) (places : ℕ) (memory : List Triple) (last : Triple) (n : ℕ) : Type 0 where
  pub known : n ≤ length s
  pub fits : n ≤ places
  pub holds : memory ≡ take n s ++ replicate (places - n) no_triple
  pub follows : above compare_triples last s ≡ slice_get s n

module _ (s : List Triple) (lawful : TripleSet s) (places : ℕ) where
  pub read_none : ReadSoFar s places (replicate places no_triple) no_triple 0
  read_none = record {
    known = omega arith;
    fits = omega arith;
    holds = ap (λ k. replicate k no_triple) (omega arith);
    follows = above_first triple_laws no_triple s (under_nothing s lawful.members);
  }

  module _ (memory : List Triple) (last : Triple) (n : ℕ) (so_far : ReadSoFar s places memory last n) where
    pub one_more_in : (t : Triple) → Some t ≡ above compare_triples last s → n < length s
    one_more_in t e = (nth_in s n t (sym so_far.follows ∙ sym e)).0

    pub read_more : (t : Triple) → n < places → Some t ≡ above compare_triples last s → ReadSoFar s places (set memory n t) t (n + 1)
    read_more t room e =
        let here = sym so_far.follows ∙ sym e in
        let at = nth_in s n t here in
        let inside = at.0 in
        let front : length (take n s) ≡ n = length-take-le n s so_far.known in
        let one_less : places - n ≡ suc (places - (n + 1)) = omega arith in
        let left : replicate (places - n) no_triple ≡ no_triple ∷ replicate (places - (n + 1)) no_triple = ap (λ k. replicate k no_triple) one_less in
        let more : take (n + 1) s ≡ take n s ++ t ∷ [] = take_more s n t inside ∙ ap (λ y. take n s ++ y ∷ []) at.1 in
        record {
          known = omega arith;
          fits = omega arith;
          holds =
              ap (λ l. set l n t) (so_far.holds ∙ ap (λ l. take n s ++ l) left)
              ∙ set_at (take n s) no_triple (replicate (places - (n + 1)) no_triple) t n front
              ∙ sym (ap (λ l. l ++ replicate (places - (n + 1)) no_triple) more ∙ append_assoc (take n s) (t ∷ []) _);
          follows = above_following triple_laws s n t lawful.ascending here ∙ ap (slice_get s) (sym (add-one n));
        }

    pub too_many : (t : Triple) → n ≡ places → Some t ≡ above compare_triples last s → places < length s
    too_many t full e = let h = one_more_in t e in omega arith

    pub all_read : None ≡ above compare_triples last s → n ≡ length s
    all_read e = let h = nth_none s n (sym so_far.follows ∙ sym e) in omega (arith, so_far.known)

    pub read_memory : None ≡ above compare_triples last s → memory ≡ read_places s places
    read_memory e =
        let all = all_read e in
        so_far.holds
        ∙ ap (λ k. take k s ++ replicate (places - k) no_triple) all
        ∙ ap (λ l. l ++ replicate (places - length s) no_triple) (take_all (length s) s (omega arith))
        ∙ sym (cond-true (leb (length s) places) _ _ (le-leb _ _ (omega (arith, so_far.fits))))

    pub fits_in : None ≡ above compare_triples last s → leb (length s) places ≡ true
    fits_in e = let all = all_read e in le-leb (length s) places (omega (arith, so_far.fits))

  pub refused_places : places < length s → replicate places no_triple ≡ read_places s places
  refused_places h = sym (cond-false (leb (length s) places) _ _ (lt-leb (length s) places h))
