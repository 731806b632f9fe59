-- The sizes of the trees below the entries of a table. Assumes nothing.
use Rattle.std.proofs.Common.{◌≡◌, ℕ, zero, suc, ◌+◌, ◌*◌, ◌<◌, ◌≤◌, true, cond, eqb, ltb, List, [], ◌∷◌, ◌++◌, length, get_or, take, sum_by, count_by, sym, refl, ap, ◌∙◌, add-zero, add-mul, one-mul, zero-mul, add-one, arith}
use Rattle.std.proofs.lemmas.List.{get_or_append_left, get_or_push, length_push, take_all}
use Rattle.std.proofs.lemmas.List.Sums.{sum_by-cons}
use Rattle.std.proofs.lemmas.Bool.{and_from, and_parts, eqb-true, ltb-true}
use Rattle.order.specs.Lists.{every}
use Rattle.query.specs.declared.table.Child.{Child}
use Rattle.query.specs.declared.table.Entry.{Entry}
use Rattle.query.specs.declared.table.Entry.TheVariants.{Initial}
use Rattle.query.specs.Entries.{children_of}
use Rattle.query.specs.Every.{every_below, every_from}
use Rattle.query.specs.Rules.{named_once, names_below, names_earlier, times_in, times_named}
use Rattle.query.specs.Sizes.{size_at, size_from, sizes, sizes_after}
use Rattle.query.proofs.Facts.{every_below_at, names_below_more}
use Rattle.query.proofs.Sums.{at_only, sum_below, sum_below_add, sum_below_at, sum_below_list, sum_below_none, sum_below_ones, sum_below_same, sum_by_same}

-- what is known stays
sizes_after_known : (known : List ℕ) (es : List Entry) (k : ℕ) → k < length known → get_or (sizes_after known es) k 0 ≡ get_or known k 0
unfolding sizes_after
sizes_after_known known [] k lt = refl
sizes_after_known known (e ∷ es) k lt =
    let longer = length_push known (size_from known e) in
    sizes_after_known (known ++ size_from known e ∷ []) es k (omega arith) ∙ get_or_append_left known (size_from known e ∷ []) 0 k lt

-- the entry at number `length known + i` counts itself and its children
sizes_after_at : (known : List ℕ) (es : List Entry) (i : ℕ) (d : Entry) → i < length es → every_from names_below (length known) es ≡ true → get_or (sizes_after known es) (length known + i) 0 ≡ 1 + sum_by (λ c. get_or (sizes_after known es) c.at 0) (children_of (get_or es i d))
unfolding sizes_after size_from
sizes_after_at known [] i d lt earlier = absurd (omega arith)
sizes_after_at known (e ∷ es) zero d lt earlier =
    let next = known ++ size_from known e ∷ [] in
    let own : get_or (sizes_after next es) (length known) 0 ≡ size_from known e = sizes_after_known next es (length known) (omega (arith, length_push known (size_from known e))) ∙ get_or_push known (size_from known e) 0 (length known) refl in
    let parts : sum_by (λ c. get_or known c.at 0) (children_of e) ≡ sum_by (λ c. get_or (sizes_after next es) c.at 0) (children_of e) =
    sum_by_same _ _ (λ c. ltb c.at (length known)) (λ c below. sym (sizes_after_known known (e ∷ es) c.at (ltb-true c.at (length known) below))) (children_of e)
    (and_parts (names_below (length known) e) (every_from names_below (length known + 1) es) earlier).0 in
    rw add-zero (own ∙ ap (λ n. 1 + n) parts)
sizes_after_at known (e ∷ es) (suc i) d lt earlier =
    let longer = length_push known (size_from known e) in
    let next = known ++ size_from known e ∷ [] in
    let number : length next + i ≡ length known + suc i = omega arith in
    let later : every_from names_below (length next) es ≡ true = rw longer (and_parts (names_below (length known) e) (every_from names_below (length known + 1) es) earlier).1 in
    rw number at (sizes_after_at next es i d (omega arith) later)

-- an entry's tree has the entry itself and the trees of its children
pub size_at_is : (es : List Entry) (n : ℕ) (d : Entry) → names_earlier es ≡ true → n < length es → size_at es n ≡ 1 + sum_by (λ c. size_at es c.at) (children_of (get_or es n d))
unfolding size_at sizes
size_at_is es n d earlier lt =
    let same : 0 + n ≡ n = omega arith in
    rw same at (sizes_after_at [] es n d lt earlier)

-- a sum over the children of all entries counts each number as often as it is named
children_counted : (f : ℕ → ℕ) (n : ℕ) (cs : List Child) → every (λ c. ltb c.at n) cs ≡ true → sum_by (λ c. f c.at) cs ≡ sum_below (λ k. count_by (λ c. eqb c.at k) cs * f k) n
children_counted f n [] h = sym (sum_below_none (λ k. 0 * f k) n (λ k lt. zero-mul (f k)))
children_counted f n (c ∷ cs) h =
    let both = and_parts (ltb c.at n) (every (λ c. ltb c.at n) cs) h in
    let split : sum_below (λ k. count_by (λ c. eqb c.at k) (c ∷ cs) * f k) n ≡ sum_below (λ k. at_only f c.at k + count_by (λ c. eqb c.at k) cs * f k) n =
    sum_below_same _ _ n (λ k lt. ap (λ m. m * f k) (sum_by-cons (λ c. cond (eqb c.at k) 1 0) c cs) ∙ add-mul _ _ _) in
    omega (arith, split, sum_below_add (at_only f c.at) (λ k. count_by (λ c. eqb c.at k) cs * f k) n, sum_below_at f c.at n (ltb-true c.at n both.0), children_counted f n cs both.1, sum_by-cons (λ c. f c.at) c cs)

entries_counted : (f : ℕ → ℕ) (n : ℕ) (es : List Entry) → every (names_below n) es ≡ true → sum_by (λ e. sum_by (λ c. f c.at) (children_of e)) es ≡ sum_below (λ k. times_named es k * f k) n
entries_counted f n [] h = sym (sum_below_none (λ k. 0 * f k) n (λ k lt. zero-mul (f k)))
entries_counted f n (e ∷ es) h =
    let both = and_parts (names_below n e) (every (names_below n) es) h in
    let split : sum_below (λ k. times_named (e ∷ es) k * f k) n ≡ sum_below (λ k. times_in k e * f k + times_named es k * f k) n =
    sum_below_same _ _ n (λ k lt. ap (λ m. m * f k) (sum_by-cons (times_in k) e es) ∙ add-mul _ _ _) in
    omega (arith, split, sum_below_add (λ k. times_in k e * f k) (λ k. times_named es k * f k) n, children_counted f n (children_of e) both.0, entries_counted f n es both.1, sum_by-cons (λ e. sum_by (λ c. f c.at) (children_of e)) e es)

-- an entry names only entries before it, so none names a number from the last on
none_from_last : (n : ℕ) (es : List Entry) (last : ℕ) → n + length es ≤ last + 1 → every_from names_below n es ≡ true → every (names_below last) es ≡ true
none_from_last n [] last few earlier = refl
none_from_last n (e ∷ es) last few earlier =
    let both = and_parts (names_below n e) (every_from names_below (n + 1) es) earlier in
    and_from (names_below last e) (every (names_below last) es) (names_below_more e n last (omega arith) both.0) (none_from_last (n + 1) es last (omega arith) both.1)

-- Add up the sizes of all entries: each counts itself, and each entry before the last is counted once more
-- in the entry that names it. So the last entry's size is the number of entries.
pub size_of_last : (es : List Entry) (last : ℕ) → length es ≡ last + 1 → names_earlier es ≡ true → every_below (named_once es) last ≡ true → size_at es last ≡ last + 1
size_of_last es last long earlier once =
    let f : ℕ → ℕ = size_at es in
    let inner : Entry → ℕ = λ e. sum_by (λ c. size_at es c.at) (children_of e) in
    let each : sum_below f (last + 1) ≡ sum_below (λ k. 1 + inner (get_or es k Initial)) (last + 1) = sum_below_same f (λ k. 1 + inner (get_or es k Initial)) (last + 1) (λ k lt. size_at_is es k Initial earlier (omega arith)) in
    let whole : sum_by inner (take (last + 1) es) ≡ sum_by inner es = ap (sum_by inner) (take_all (last + 1) es (omega arith)) in
    let named : sum_by inner es ≡ sum_below (λ k. times_named es k * f k) last = entries_counted f last es (none_from_last 0 es last (omega arith) earlier) in
    let counted : sum_below (λ k. times_named es k * f k) last ≡ sum_below f last = sum_below_same (λ k. times_named es k * f k) f last (λ k lt. ap (λ m. m * f k) (eqb-true (times_named es k) 1 (every_below_at (named_once es) last k lt once)) ∙ one-mul (f k)) in
    let more : sum_below f (last + 1) ≡ f last + sum_below f last = rw add-one refl in
    omega (arith, each, sum_below_ones (λ k. inner (get_or es k Initial)) (last + 1), sum_below_list inner es Initial (last + 1) (omega arith), whole, named, counted, more)
