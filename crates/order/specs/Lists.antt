-- Lists: membership, tests over all or some elements, a list made at each element. Assumes nothing.
use Rattle.std.specs.Prelude.{◌≡◌, ℕ, max, Bool, true, false, ◌&&◌, ◌||◌, ◌⊎◌, List, [], ◌∷◌, ◌++◌}

infix 50 ◌∈◌
-- x is one of the elements
abbrev pub ◌∈◌ : {X : Type 0} → X → List X → Type 0
x ∈ [] = ⊥
x ∈ (y ∷ ys) = (x ≡ y) ⊎ (x ∈ ys)

-- each element passes the test
abbrev pub every : {X : Type 0} → (X → Bool) → List X → Bool
every test [] = true
every test (x ∷ xs) = test x && every test xs

-- some element passes the test
abbrev pub any : {X : Type 0} → (X → Bool) → List X → Bool
any test [] = false
any test (x ∷ xs) = test x || any test xs

abbrev pub is_empty : {X : Type 0} → List X → Bool
is_empty [] = true
is_empty (x ∷ xs) = false

-- the lists that f gives at each element, one after the other
abbrev pub for_each : {X Y : Type 0} → (X → List Y) → List X → List Y
for_each f [] = []
for_each f (x ∷ xs) = f x ++ for_each f xs

-- the largest of some numbers, or 0 where there is none
abbrev pub largest : List ℕ → ℕ
largest [] = 0
largest (n ∷ ns) = max n (largest ns)
