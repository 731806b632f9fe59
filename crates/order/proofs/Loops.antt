-- The steps of two loops over a list: one that stops at the first element that fails a test, and one that writes its elements in turn.
-- Assumes nothing.
use Rattle.std.proofs.Common.{◌≡◌, ℕ, ◌+◌, ◌<◌, ◌≤◌, Bool, true, false, ◌&&◌, List, [], ◌∷◌, ◌++◌, length, get_or, take, drop, set, sym, ap, ◌∙◌, ap₂, arith}
use Rattle.std.proofs.lemmas.List.{append-nil, append_assoc, at_drop_all, at_drop_more, drop-set-lt, take_all, take_more, take_more_set}
use Rattle.order.specs.Lists.{every}

-- the invariant is that the elements from i on decide the test of the whole list
module _ {X : Type 0} (p : X → Bool) (xs : List X) (i : ℕ) where
  pub every_more : (d : X) → i < length xs → p (get_or xs i d) ≡ true → every p (drop i xs) ≡ every p xs → every p (drop (i + 1) xs) ≡ every p xs
  every_more d in' yes' inv =
      let step : every p (drop i xs) ≡ (p (get_or xs i d) && every p (drop (i + 1) xs)) = at_drop_more (every p) xs i d in' in
      sym (rw yes' at step) ∙ inv

  pub every_fails : (d : X) → i < length xs → p (get_or xs i d) ≡ false → every p (drop i xs) ≡ every p xs → false ≡ every p xs
  every_fails d in' fails inv =
      let step : every p (drop i xs) ≡ (p (get_or xs i d) && every p (drop (i + 1) xs)) = at_drop_more (every p) xs i d in' in
      sym (rw fails at step) ∙ inv

  pub every_all : length xs ≤ i → every p (drop i xs) ≡ every p xs → true ≡ every p xs
  every_all end inv = sym (at_drop_all (every p) xs i end) ∙ inv

-- the invariant is that the elements up to i, and what F makes of those from i on, are the whole:
-- a turn that writes z, one that leaves the element, and the end
module _ {X : Type 0} (F : List X → List X) (xs whole : List X) (i : ℕ) where
  pub writing_more : (z : X) → i < length xs → take i xs ++ (z ∷ F (drop (i + 1) xs)) ≡ whole → take (i + 1) (set xs i z) ++ F (drop (i + 1) (set xs i z)) ≡ whole
  writing_more z h inv =
      ap₂ ◌++◌ (take_more_set xs i z h) (ap F (drop-set-lt (i + 1) xs i z (omega arith)))
      ∙ append_assoc (take i xs) (z ∷ []) (F (drop (i + 1) xs)) ∙ inv

  pub leaving_more : (d : X) → i < length xs → take i xs ++ (get_or xs i d ∷ F (drop (i + 1) xs)) ≡ whole → take (i + 1) xs ++ F (drop (i + 1) xs) ≡ whole
  leaving_more d h inv =
      ap (λ l. l ++ F (drop (i + 1) xs)) (take_more xs i d h)
      ∙ append_assoc (take i xs) (get_or xs i d ∷ []) (F (drop (i + 1) xs)) ∙ inv

  pub writing_all : length xs ≤ i → F [] ≡ [] → take i xs ++ F (drop i xs) ≡ whole → xs ≡ whole
  writing_all h e inv = sym (ap₂ ◌++◌ (take_all i xs h) (at_drop_all F xs i h ∙ e) ∙ append-nil xs) ∙ inv
