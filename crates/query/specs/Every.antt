-- Tests over a list whose elements are numbered, and over a range of numbers. Assumes nothing.
use Rattle.std.specs.Prelude.{ℕ, zero, suc, ◌+◌, Bool, true, ◌&&◌, List, [], ◌∷◌}

-- each element passes the test with its number, where the first has the number n
abbrev pub every_from : {X : Type 0} → (ℕ → X → Bool) → ℕ → List X → Bool
every_from test n [] = true
every_from test n (x ∷ xs) = test n x && every_from test (n + 1) xs

-- each number below n passes the test
abbrev pub every_below : (ℕ → Bool) → ℕ → Bool
every_below test zero = true
every_below test (suc n) = test n && every_below test n
