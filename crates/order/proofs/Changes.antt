-- What the parts of a list hold after an insertion and after a removal: p is the slice before, whose first n places are the elements, and q is what the
-- copy has made of it. Assumes nothing.
use lib.Seq.{paste}
use Rattle.std.proofs.Common.{◌≡◌, ℕ, suc, ◌+◌, ◌-◌, ◌<◌, ◌≤◌, List, ◌∷◌, ◌++◌, get_or, length, take, drop, set, Ok, Err, Ordering, sym, ap, ◌∙◌, add-one, append_assoc, length-drop, arith}
use Rattle.std.specs.List.{insert as inserted, remove}
use Rattle.std.proofs.lemmas.List.{drop_at, drop-drop, drop_more, length-append, length-take-le, set_at, take_at, take-take, take_more}
use Rattle.std.proofs.lemmas.List.Edits.{length-insert, length-remove}
use Rattle.std.proofs.lemmas.Slice.{between_is}
use Rattle.order.specs.Order.{Laws}
use Rattle.order.specs.Sets.{Ascending, insert, located, without}
use Rattle.order.proofs.Ranks.{insert_at_rank, located_err, located_ok, without_at_rank}

module _ {X : Type 0} where
  raised : (p q : List X) (n at : ℕ) (x : X) → at ≤ n → n < length p → q ≡ paste p (at + 1) (drop at p) (n - at) → set q at x ≡ inserted (take n p) at x ++ drop (n + 1) p
  raised p q n at x h k e =
      let moved = take (n - at) (drop at p) in
      let rest : at + 1 + (n - at) ≡ n + 1 = omega arith in
      let whole : q ≡ take at p ++ get_or p at x ∷ (moved ++ drop (n + 1) p) = e ∙ rw rest (simp (take_more p at x (omega arith), append_assoc)) in
      ap (λ l. set l at x) whole
      ∙ set_at (take at p) (get_or p at x) (moved ++ drop (n + 1) p) x at (length-take-le at p (omega arith))
      ∙ simp (take-take at n p h, sym (between_is p at n), append_assoc)

  pub entering : (p q : List X) (n at : ℕ) (x : X) → at ≤ n → n < length p → q ≡ paste p (at + 1) (drop at p) (n - at) → (take (n + 1) (set q at x) ≡ inserted (take n p) at x) × (drop (n + 1) (set q at x) ≡ drop 1 (drop n p))
  entering p q n at x h k e =
      let xs = inserted (take n p) at x in
      let whole = raised p q n at x h k e in
      let long : length xs ≡ n + 1 = omega (arith, length-insert (take n p) at x, length-take-le n p) in
      (ap (take (n + 1)) whole ∙ take_at xs (drop (n + 1) p) (n + 1) long, ap (drop (n + 1)) whole ∙ drop_at xs (drop (n + 1) p) (n + 1) long ∙ sym (drop-drop 1 n p))

  lowered : (p q : List X) (n at : ℕ) (blank : X) → at < n → n ≤ length p → q ≡ paste p at (drop (at + 1) p) (n - (at + 1)) → set q (n - 1) blank ≡ remove (take n p) at ++ blank ∷ drop n p
  lowered p q n at blank h k e =
      let moved = take (n - (at + 1)) (drop (at + 1) p) in
      let rest : at + (n - (at + 1)) ≡ n - 1 = omega arith in
      let gap : moved ≡ drop (suc at) (take n p) = between_is p (at + 1) n ∙ ap (λ i. drop i (take n p)) (add-one at) in
      let last : drop (n - 1) p ≡ get_or p (n - 1) blank ∷ drop n p = drop_more p (n - 1) blank (omega arith) ∙ ap (λ i. get_or p (n - 1) blank ∷ drop i p) (omega arith) in
      let long = length-take-le (n - (at + 1)) (drop (at + 1) p) (omega (arith, length-drop (at + 1) p)) in
      ap (λ l. set l (n - 1) blank) (e ∙ rw (rest, last))
      ∙ set_at (take at p ++ moved) (get_or p (n - 1) blank) (drop n p) blank (n - 1) (omega (arith, length-append (take at p) moved, length-take-le at p (omega arith)))
      ∙ rw (gap, take-take at n p (omega arith))

  pub leaving : (p q : List X) (n at : ℕ) (blank : X) → at < n → n ≤ length p → q ≡ paste p at (drop (at + 1) p) (n - (at + 1)) → (take (n - 1) (set q (n - 1) blank) ≡ remove (take n p) at) × (drop (n - 1) (set q (n - 1) blank) ≡ blank ∷ drop n p)
  leaving p q n at blank h k e =
      let xs = remove (take n p) at in
      let whole = lowered p q n at blank h k e in
      let long : length xs ≡ n - 1 = omega (arith, length-remove (take n p) at, length-take-le n p) in
      (ap (take (n - 1)) whole ∙ take_at xs (blank ∷ drop n p) (n - 1) long, ap (drop (n - 1)) whole ∙ drop_at xs (blank ∷ drop n p) (n - 1) long)

-- at the place where a search ends the order stays
module _ {X : Type 0} {cmp : X → X → Ordering} (laws : Laws cmp) where
  pub inserting : (xs : List X) (at : ℕ) (x : X) → Err at ≡ located cmp x xs → inserted xs at x ≡ insert cmp x xs
  inserting xs at x e =
      let found = located_err laws x xs at e in
      ap (λ i. inserted xs i x) found.0 ∙ sym (insert_at_rank laws x xs found.1)

  pub removing : (xs : List X) (at : ℕ) (x : X) → Ascending cmp xs → Ok at ≡ located cmp x xs → remove xs at ≡ without cmp x xs
  removing xs at x h e =
      let found = located_ok laws x xs at e in
      ap (remove xs) found.0 ∙ sym (without_at_rank laws x xs h found.1)
