-- The two parts of a slice p that holds a list: the first n elements, or all where n is more, and the spare places. Assumes nothing.
use Rattle.std.proofs.Common.{◌≡◌, ℕ, ◌+◌, List, length, take, drop, sym, ap, ◌∙◌}
use Rattle.std.proofs.lemmas.List.{length-append, take-append-drop, take_at, drop_at}

module _ {X : Type 0} where
  -- the elements and the spare places are all
  pub parts_all : (p : List X) (n : ℕ) → length (take n p) + length (drop n p) ≡ length p
  parts_all p n = sym (length-append (take n p) (drop n p)) ∙ ap length (take-append-drop n p)

  -- to count the elements and take that many gives them again
  pub take_count : (p : List X) (n k : ℕ) → k ≡ length (take n p) → take k p ≡ take n p
  take_count p n k e = ap (take k) (sym (take-append-drop n p)) ∙ take_at (take n p) (drop n p) k (sym e)

  pub drop_count : (p : List X) (n k : ℕ) → k ≡ length (take n p) → drop k p ≡ drop n p
  drop_count p n k e = ap (drop k) (sym (take-append-drop n p)) ∙ drop_at (take n p) (drop n p) k (sym e)
