-- Tests over a list whose elements are numbered, and over a range of numbers, in the words of std. Assumes nothing.
use Rattle.std.proofs.Common.{◌≡◌, ℕ, zero, suc, ◌+◌, Bool, ◌&&◌, List, [], ◌∷◌, ◌++◌, refl, ap, ◌∙◌, arith}
use mathlib.Core.Bool.{and-true, and_comm}
use Rattle.std.proofs.lemmas.List.Folds.{list_all-append}
use Rattle.std.specs.List.{enumerate_from, list_all, range_with_len}
use Rattle.query.specs.Every.{every_below, every_from}

pub every_from_all : {X : Type 0} (test : ℕ → X → Bool) (n : ℕ) (xs : List X) → list_all (λ (p : ℕ × X). test p.0 p.1) (enumerate_from n xs) ≡ every_from test n xs
every_from_all test n [] = refl
every_from_all test n (x ∷ xs) = ap (λ b. test n x && b) (every_from_all test (n + 1) xs)

range_more : (a n j : ℕ) → a + n ≡ j → range_with_len a (suc n) ≡ range_with_len a n ++ (j ∷ [])
range_more a zero j e = ap (λ m. m ∷ []) (omega arith)
range_more a (suc n) j e = ap (λ l. a ∷ l) (range_more (a + 1) n j (omega arith))

pub every_below_all : (test : ℕ → Bool) (n : ℕ) → list_all test (range_with_len 0 n) ≡ every_below test n
every_below_all test zero = refl
every_below_all test (suc n) =
    ap (list_all test) (range_more 0 n n (omega arith)) ∙ list_all-append test (range_with_len 0 n) (n ∷ [])
    ∙ ap (λ b. list_all test (range_with_len 0 n) && b) (and-true (test n)) ∙ and_comm (list_all test (range_with_len 0 n)) (test n) ∙ ap (λ b. test n && b) (every_below_all test n)
