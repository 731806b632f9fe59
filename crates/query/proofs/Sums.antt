-- Sums over the numbers below a bound. Assumes nothing.
use Rattle.std.proofs.Common.{◌≡◌, ℕ, zero, suc, ◌+◌, ◌*◌, ◌<◌, ◌≤◌, Bool, true, cond, eqb, List, [], ◌∷◌, length, get_or, take, sum_by, sym, refl, ap, ◌∙◌, ⊎_elim, one-mul, zero-mul, add-one, arith}
use Rattle.std.proofs.lemmas.List.Sums.{sum_by-cons, sum_by_more}
pub use Rattle.std.proofs.lemmas.List.Sums.{get_or-le-sum_by as sum_one}
use Rattle.std.proofs.lemmas.Bool.{and_parts, cases_eq, eq-eqb, ne_eqb}
use Rattle.order.specs.Lists.{every}

abbrev pub sum_below : (ℕ → ℕ) → ℕ → ℕ
sum_below f zero = 0
sum_below f (suc n) = f n + sum_below f n

pub sum_below_same : (f g : ℕ → ℕ) (n : ℕ) → ((k : ℕ) → k < n → f k ≡ g k) → sum_below f n ≡ sum_below g n
sum_below_same f g zero same = refl
sum_below_same f g (suc n) same = omega (arith, same n (omega arith), sum_below_same f g n (λ k lt. same k (omega arith)))

pub sum_below_add : (f g : ℕ → ℕ) (n : ℕ) → sum_below (λ k. f k + g k) n ≡ sum_below f n + sum_below g n
sum_below_add f g zero = refl
sum_below_add f g (suc n) = omega (arith, sum_below_add f g n)

pub sum_below_ones : (f : ℕ → ℕ) (n : ℕ) → sum_below (λ k. 1 + f k) n ≡ n + sum_below f n
sum_below_ones f zero = refl
sum_below_ones f (suc n) = omega (arith, sum_below_ones f n)

pub sum_below_none : (f : ℕ → ℕ) (n : ℕ) → ((k : ℕ) → k < n → f k ≡ 0) → sum_below f n ≡ 0
sum_below_none f zero none = refl
sum_below_none f (suc n) none = omega (arith, none n (omega arith), sum_below_none f n (λ k lt. none k (omega arith)))

-- a sum over the first n elements of a list, by their numbers
pub sum_below_list : {X : Type 0} (f : X → ℕ) (xs : List X) (d : X) (n : ℕ) → n ≤ length xs → sum_below (λ k. f (get_or xs k d)) n ≡ sum_by f (take n xs)
sum_below_list f xs d zero le = refl
sum_below_list f xs d (suc n) le =
    let more = sum_by_more f xs n d (omega arith) in
    let step : sum_by f (take (suc n) xs) ≡ sum_by f (take n xs) + f (get_or xs n d) = rw add-one at more in
    omega (arith, sum_below_list f xs d n (omega arith), step)

-- the one number that is a adds f a
abbrev pub at_only : (ℕ → ℕ) → ℕ → ℕ → ℕ
at_only f a k = cond (eqb a k) 1 0 * f k

at_only_here : (f : ℕ → ℕ) (a k : ℕ) → a ≡ k → at_only f a k ≡ f a
at_only_here f a k e = rw (eq-eqb a k e) (one-mul (f k) ∙ ap f (sym e))

at_only_other : (f : ℕ → ℕ) (a k : ℕ) → (a ≡ k → ⊥) → at_only f a k ≡ 0
at_only_other f a k ne = rw (ne_eqb a k ne) (zero-mul (f k))

pub sum_below_at : (f : ℕ → ℕ) (a n : ℕ) → a < n → sum_below (at_only f a) n ≡ f a
sum_below_at f a zero lt = absurd (omega arith)
sum_below_at f a (suc n) lt = ⊎_elim
    (λ e. omega (arith, at_only_here f a n e, sum_below_none (at_only f a) n (λ k below. at_only_other f a k (λ same. omega arith))))
    (λ ne. omega (arith, at_only_other f a n ne, sum_below_at f a n (omega arith)))
    (cases_eq a n)

pub sum_by_same : {X : Type 0} (f g : X → ℕ) (p : X → Bool) → ((x : X) → p x ≡ true → f x ≡ g x) → (xs : List X) → every p xs ≡ true → sum_by f xs ≡ sum_by g xs
sum_by_same f g p same [] h = refl
sum_by_same f g p same (x ∷ xs) h =
    let both = and_parts (p x) (every p xs) h in
    omega (arith, sum_by-cons f x xs, sum_by-cons g x xs, same x both.0, sum_by_same f g p same xs both.1)

-- one summand is no more than the sum (`sum_one`), nor are two together
pub sum_two : {X : Type 0} (f : X → ℕ) (xs : List X) (i j : ℕ) (d : X) → i < j → j < length xs → f (get_or xs i d) + f (get_or xs j d) ≤ sum_by f xs
sum_two f [] i j d lt inside = absurd (omega arith)
sum_two f (x ∷ xs) i zero d lt inside = absurd (omega arith)
sum_two f (x ∷ xs) zero (suc j) d lt inside = let e = sum_by-cons f x xs in let h = sum_one f xs j d (omega arith) in omega arith
sum_two f (x ∷ xs) (suc i) (suc j) d lt inside = let e = sum_by-cons f x xs in let h = sum_two f xs i j d (omega arith) (omega arith) in omega arith
