-- What the tests of a table say of one of its entries. Assumes nothing.
use Rattle.std.proofs.Common.{◌≡◌, ℕ, zero, suc, ◌+◌, ◌<◌, ◌≤◌, Bool, true, ltb, List, [], ◌∷◌, length, get_or, ⊎_elim, add-zero, arith}
use Rattle.std.proofs.lemmas.Bool.{and_parts, cases_eq, ltb-true, lt-ltb}
use Rattle.order.proofs.Every.{every_weaker}
use Rattle.query.specs.declared.table.Entry.{Entry}
use Rattle.query.specs.Entries.{children_of}
use Rattle.query.specs.Every.{every_below, every_from}
use Rattle.query.specs.Rules.{names_below, names_earlier}

pub every_from_at : {X : Type 0} (p : ℕ → X → Bool) (n : ℕ) (xs : List X) (i : ℕ) (d : X) → i < length xs → every_from p n xs ≡ true → p (n + i) (get_or xs i d) ≡ true
every_from_at p n [] i d in' h = absurd (omega arith)
every_from_at p n (x ∷ xs) zero d in' h = rw add-zero (and_parts (p n x) (every_from p (n + 1) xs) h).0
every_from_at p n (x ∷ xs) (suc i) d in' h =
    let same : n + 1 + i ≡ n + suc i = omega arith in
    rw same at (every_from_at p (n + 1) xs i d (omega arith) (and_parts (p n x) (every_from p (n + 1) xs) h).1)

pub every_below_at : (p : ℕ → Bool) (n i : ℕ) → i < n → every_below p n ≡ true → p i ≡ true
every_below_at p zero i lt h = absurd (omega arith)
every_below_at p (suc n) i lt h =
    let both = and_parts (p n) (every_below p n) h in
    ⊎_elim
    (λ here. rw here both.0)
    (λ other. every_below_at p n i (omega arith) both.1)
    (cases_eq i n)

-- an entry that names only entries below m names only entries below n
pub names_below_more : (e : Entry) (m n : ℕ) → m ≤ n → names_below m e ≡ true → names_below n e ≡ true
names_below_more e m n le = every_weaker (λ c. ltb c.at m) (λ c. ltb c.at n) (λ c h. lt-ltb c.at n (omega (arith, ltb-true c.at m h))) (children_of e)

pub names_earlier_at : (es : List Entry) (i : ℕ) (d : Entry) → i < length es → names_earlier es ≡ true → names_below i (get_or es i d) ≡ true
names_earlier_at es i d in' h =
    let same : 0 + i ≡ i = omega arith in
    rw same at (every_from_at names_below 0 es i d in' h)
