-- What a test that each element of a list passes says of one element, and of a weaker test. Assumes nothing.
use Rattle.std.proofs.Common.{◌≡◌, ℕ, zero, suc, ◌<◌, Bool, true, List, [], ◌∷◌, length, get_or, refl, arith}
use Rattle.std.proofs.lemmas.Bool.{and_from, and_parts}
use Rattle.order.specs.Lists.{every}

pub every_at : {X : Type 0} (p : X → Bool) (xs : List X) (i : ℕ) (d : X) → i < length xs → every p xs ≡ true → p (get_or xs i d) ≡ true
every_at p [] i d in' h = absurd (omega arith)
every_at p (x ∷ xs) zero d in' h = (and_parts (p x) (every p xs) h).0
every_at p (x ∷ xs) (suc i) d in' h = every_at p xs i d (omega arith) (and_parts (p x) (every p xs) h).1

pub every_weaker : {X : Type 0} (p q : X → Bool) → ((x : X) → p x ≡ true → q x ≡ true) → (xs : List X) → every p xs ≡ true → every q xs ≡ true
every_weaker p q f [] h = refl
every_weaker p q f (x ∷ xs) h =
    let both = and_parts (p x) (every p xs) h in
    and_from (q x) (every q xs) (f x both.0) (every_weaker p q f xs both.1)
