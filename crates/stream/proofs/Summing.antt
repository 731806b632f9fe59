-- Shows that the numbers of many places are summed place by place.
use Rattle.std.proofs.Common.{◌≡◌, ℕ, List, [], ◌∷◌, ◌++◌, sym, ap, ◌∙◌}
use Rattle.std.specs.List.{flat_map}
use Rattle.std.proofs.lemmas.List.{flat_map_more}
use Rattle.std.proofs.lemmas.List.Sums.{fold-append}
use Rattle.stream.specs.Answers.{sum_with, with_number}

-- the numbers of one place come after those of the places before it
pub sum_more : {X : Type 0} (numbers : X → List ℕ) (places : List X) (place : X) → sum_with (sum_with 0 (flat_map numbers places)) (numbers place) ≡ sum_with 0 (flat_map numbers (places ++ place ∷ []))
sum_more numbers places place = sym (fold-append with_number 0 (flat_map numbers places) (numbers place)) ∙ ap (sum_with 0) (flat_map_more numbers [] places place)
