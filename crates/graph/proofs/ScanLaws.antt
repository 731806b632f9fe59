-- Shows that a scan over the entries of a list, with the best so far, ends at the least triple above the given numbers.
use Rattle.std.proofs.Common.{◌≡◌, true, false, cond, ◌&&◌, not, List, [], ◌∷◌, None, Some, filter, drop, Option, ℕ, suc, ◌+◌, refl, sym, ap, ◌∙◌}
use native.Mathlib.Omega.{arith}
use Rattle.std.specs.List.{fold, prefix_len}
use Rattle.std.specs.Ordering.{is_lt}
use Rattle.order.specs.Sets.{above, insert, lesser}
use Rattle.order.proofs.Ascents.{ascending_ascend}
use Rattle.order.proofs.Comparing.{by_bool}
use Rattle.order.proofs.Nexts.{above_insert, lesser_assoc, lesser_none}
use Rattle.rdf.specs.RdfOrders.{triple_laws}
use Rattle.rdf.specs.Triples.{compare_triples, is_triple}
use Rattle.rdf.specs.declared.triple.Triple.{Triple}
use Rattle.graph.specs.Histories.{set_of}

-- the better of the best so far and a candidate: a triple above a, and the lesser of the two
abbrev pub nearer : Triple → Option Triple → Triple → Option Triple
nearer a best e = cond (is_triple e && is_lt (compare_triples a e)) (lesser compare_triples best (Some e)) best

-- what a scan that has `best` comes to over the entries that are left
abbrev pub scan : Triple → Option Triple → List Triple → Option Triple
scan a best es = lesser compare_triples best (above compare_triples a (set_of es))

pub scan_end : (a : Triple) (best : Option Triple) → scan a best [] ≡ best
scan_end a best = lesser_none triple_laws best

pub scan_more : (a : Triple) (best : Option Triple) (e : Triple) (es : List Triple) → scan a best (e ∷ es) ≡ scan a (nearer a best e) es
scan_more a best e es =
    by_bool (is_triple e)
    (λ t.
    by_bool (is_lt (compare_triples a e))
    (λ h. rw (t, h) (put ∙ ap (λ o. lesser compare_triples (lesser compare_triples best o) rest) (rw h)))
    (λ h. rw (t, h) (put ∙ ap (λ o. lesser compare_triples o rest) (ap (lesser compare_triples best) (rw h) ∙ lesser_none triple_laws best))))
    (λ t. rw t)
  where
    rest : Option Triple
    rest = above compare_triples a (set_of es)

    put : lesser compare_triples best (above compare_triples a (insert compare_triples e (set_of es))) ≡ lesser compare_triples (lesser compare_triples best (above compare_triples a (e ∷ []))) rest
    put =
        ap (lesser compare_triples best) (above_insert triple_laws a e (set_of es) (ascending_ascend triple_laws (filter is_triple es)))
        ∙ lesser_assoc triple_laws best (above compare_triples a (e ∷ [])) rest

-- the least of the triples above a, one after the other
pub fold_scan : (a : Triple) (best : Option Triple) (es : List Triple) → fold (nearer a) best es ≡ scan a best es
fold_scan a best [] = sym (scan_end a best)
fold_scan a best (e ∷ es) = fold_scan a (nearer a best e) es ∙ sym (scan_more a best e es)

drop_more : (n : ℕ) (e : Triple) (es : List Triple) → drop (1 + n) (e ∷ es) ≡ drop n es
drop_more n e es = ap (λ k. drop k (e ∷ es)) after
  where
    after : 1 + n ≡ suc n
    after = omega arith

-- the entries before the first that counts leave the scan as it begins
pub fold_passed : (a : Triple) (es : List Triple) → fold (nearer a) None (drop (prefix_len (λ e. not (is_triple e && is_lt (compare_triples a e))) es) es) ≡ fold (nearer a) None es
fold_passed a [] = refl
fold_passed a (e ∷ es) =
    by_bool (is_triple e && is_lt (compare_triples a e))
    (λ h. ap (fold (nearer a) None) (first h))
    (λ h. ap (fold (nearer a) None) (passed h) ∙ fold_passed a es ∙ ap (λ o. fold (nearer a) o es) (still h))
  where
    rest : List Triple → List Triple
    rest fs = drop (prefix_len (λ f. not (is_triple f && is_lt (compare_triples a f))) fs) fs

    first : (is_triple e && is_lt (compare_triples a e)) ≡ true → rest (e ∷ es) ≡ e ∷ es
    first h = rw h refl

    passed : (is_triple e && is_lt (compare_triples a e)) ≡ false → rest (e ∷ es) ≡ rest es
    passed h = rw h (drop_more (prefix_len (λ f. not (is_triple f && is_lt (compare_triples a f))) es) e es)

    still : (is_triple e && is_lt (compare_triples a e)) ≡ false → None ≡ nearer a None e
    still h = rw h refl
