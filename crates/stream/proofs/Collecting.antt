-- Shows what a list holds while a set is collected into it by asking for the next triple, and that it holds the set at the end.
use Rattle.std.proofs.Common.{◌≡◌, ℕ, ◌+◌, ◌<◌, ◌≤◌, List, [], ◌∷◌, ◌++◌, length, take, Some, None, sym, refl, ap, ◌∙◌, add-one, arith}
use Rattle.std.specs.List.{slice_get}
use Rattle.std.proofs.lemmas.List.{take_more, take_all}
use Rattle.order.specs.Sets.{above}
use Rattle.order.proofs.Holders.{nth_in, nth_none}
use Rattle.order.proofs.Nexts.{above_following}
use Rattle.rdf.specs.RdfOrders.{triple_laws}
use Rattle.rdf.specs.Triples.{TripleSet, compare_triples, no_triple}
use Rattle.rdf.specs.declared.triple.Triple.{Triple}
use Rattle.graph.proofs.ReadingLaws.{read_none}

-- the list has the first n triples of s, and `last` is the last of them
pub record Collected (s : List Triple) (list : List Triple) (last : Triple) (n : ℕ) : Type 0 where
  pub known : n ≤ length s
  pub holds : list ≡ take n s
  pub follows : above compare_triples last s ≡ slice_get s n

module _ (s : List Triple) (lawful : TripleSet s) where
  pub collected_none : Collected s [] no_triple 0
  collected_none = record { known = omega arith; holds = sym (take_none s); follows = (read_none s lawful 0).follows }
    where
      take_none : (l : List Triple) → take 0 l ≡ []
      take_none l = refl

  module _ (list : List Triple) (last : Triple) (n : ℕ) (so_far : Collected s list last n) where
    pub one_more : (t : Triple) → Some t ≡ above compare_triples last s → n < length s
    one_more t e = (nth_in s n t (sym so_far.follows ∙ sym e)).0

    pub collected_more : (t : Triple) → Some t ≡ above compare_triples last s → Collected s (list ++ t ∷ []) t (n + 1)
    collected_more t e =
        let here = sym so_far.follows ∙ sym e in
        let at = nth_in s n t here in
        let inside = at.0 in
        record {
          known = omega arith;
          holds = ap (λ l. l ++ t ∷ []) so_far.holds ∙ sym (take_more s n t inside ∙ ap (λ y. take n s ++ y ∷ []) at.1);
          follows = above_following triple_laws s n t lawful.ascending here ∙ ap (slice_get s) (sym (add-one n));
        }

    pub collected_all : None ≡ above compare_triples last s → list ≡ s
    collected_all e =
        let all = nth_none s n (sym so_far.follows ∙ sym e) in
        so_far.holds ∙ take_all n s (omega arith)
