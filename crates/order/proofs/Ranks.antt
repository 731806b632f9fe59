-- Shows where an element stands or belongs in an ascending list: how a search by halves closes in on that place, and that membership, insertion,
-- removal and the next member can be read there. Assumes nothing.
use Rattle.std.proofs.Common.{◌≡◌, ℕ, zero, suc, ◌+◌, ◌-◌, ◌<◌, ◌≤◌, Bool, true, false, cond, List, [], ◌∷◌, length, get_or, Some, Ok, Err, Ordering, Less, sym, refl, ap, ◌∙◌, true≢false, add-one, arith}
use Rattle.std.proofs.lemmas.Option.{get_or_from_slice_get, slice_get_within}
use Rattle.std.specs.Ordering.{is_lt, is_eq, is_le}
use Rattle.std.specs.List.{insert as inserted, remove, slice_get}
use Rattle.order.specs.Order.{Laws}
use Rattle.order.specs.Sets.{Ascending, holds, insert, without, above, rank, located}
use Rattle.order.proofs.Ascents.{above_first, ascending_first, ascending_rest, holds_not_below, holds_not_under, under_get_or, without_absent}
use Rattle.order.proofs.Comparing.{by_order, by_bool, less_turned, greater_turned, equal_turned, less_from_test}

module _ {X : Type 0} {cmp : X → X → Ordering} (laws : Laws cmp) where
  -- the place of x: how a search by halves closes in on it
  pub rank_le : (x : X) (xs : List X) → rank cmp x xs ≤ length xs
  rank_le x [] = omega arith
  rank_le x (y ∷ ys) =
      let more = rank_le x ys in
      by_bool (is_lt (cmp y x)) (λ e. rw e (omega arith)) (λ e. rw e (omega arith))

  pub rank_past : (x d : X) (xs : List X) (i : ℕ) → Ascending cmp xs → i < length xs → cmp (get_or xs i d) x ≡ Less → i < rank cmp x xs
  rank_past x d [] i h l e = absurd (omega arith)
  rank_past x d (y ∷ ys) zero h l e = rw e (omega arith)
  rank_past x d (y ∷ ys) (suc i) h l e =
      let within : i < length ys = omega arith in
      let less : cmp y x ≡ Less = laws.trans y (get_or ys i d) x (under_get_or laws y d ys i (ascending_first laws y ys h) within) e in
      let more = rank_past x d ys i (ascending_rest laws y ys h) within e in
      rw less (omega arith)

  pub rank_upto : (x d : X) (xs : List X) (i : ℕ) → i < length xs → is_lt (cmp (get_or xs i d) x) ≡ false → rank cmp x xs ≤ i
  rank_upto x d [] i l e = absurd (omega arith)
  rank_upto x d (y ∷ ys) zero l e = rw e (omega arith)
  rank_upto x d (y ∷ ys) (suc i) l e =
      let within : i < length ys = omega arith in
      let more = rank_upto x d ys i within e in
      by_bool (is_lt (cmp y x)) (λ b. rw b (omega arith)) (λ b. rw b (omega arith))

  pub rank_past_last : (x y : X) (xs : List X) → Ascending cmp xs → slice_get xs (length xs - 1) ≡ Some y → is_lt (cmp y x) ≡ true → length xs ≡ rank cmp x xs
  rank_past_last x y xs h e b =
      let last = get_or_from_slice_get xs (length xs - 1) y y e in
      let past = rank_past x y xs (length xs - 1) h (slice_get_within xs (length xs - 1) y e) (ap (λ v. cmp v x) last ∙ less_from_test _ b) in
      omega (arith, rank_le x xs)

  -- where x stands or belongs is told by the element at its place, or by there being none
  pub located_here : (x y : X) (xs : List X) (at : ℕ) (b : Bool) → Ascending cmp xs → at ≡ rank cmp x xs → at < length xs → y ≡ get_or xs at y → is_eq (cmp y x) ≡ b → cond b (Ok at) (Err at) ≡ located cmp x xs
  located_here x y xs at b h q l e t = rw (held xs h (omega arith) (e ∙ ap (λ i. get_or xs i y) q), t, q)
    where
      held : (zs : List X) → Ascending cmp zs → rank cmp x zs < length zs → y ≡ get_or zs (rank cmp x zs) y → holds cmp x zs ≡ is_eq (cmp y x)
      held [] h l e = absurd (omega arith)
      held (z ∷ zs) h l e =
          by_order (cmp x z)
          (λ o. let t = less_turned laws x z o in rw (o, rw t at e, t) (holds_not_under laws x z zs (ascending_first laws z zs h) (ap is_le o)))
          (λ o. let t = equal_turned laws x z o in rw (o, rw t at e, t))
          (λ o. let t = greater_turned laws x z o in rw o (held zs (ascending_rest laws z zs h) (omega (arith, rw t at l)) (rw t at e)))

  pub located_past : (x : X) (xs : List X) (at : ℕ) → Ascending cmp xs → at ≡ rank cmp x xs → length xs ≤ at → Err at ≡ located cmp x xs
  located_past x xs at h q l = rw (absent xs h (omega arith), q)
    where
      absent : (zs : List X) → Ascending cmp zs → length zs ≤ rank cmp x zs → holds cmp x zs ≡ false
      absent [] h l = refl
      absent (z ∷ zs) h l =
          by_order (cmp x z)
          (λ o. absurd (omega (arith, rw (less_turned laws x z o) at l)))
          (λ o. absurd (omega (arith, rw (equal_turned laws x z o) at l)))
          (λ o. rw o (absent zs (ascending_rest laws z zs h) (omega (arith, rw (greater_turned laws x z o) at l))))

  -- insertion, removal and the search for the next as steps at that place
  pub insert_at_rank : (x : X) (xs : List X) → holds cmp x xs ≡ false → insert cmp x xs ≡ inserted xs (rank cmp x xs) x
  insert_at_rank x [] n = refl
  insert_at_rank x (y ∷ ys) n =
      by_order (cmp x y)
      (λ e. rw (less_turned laws x y e, e))
      (λ e. absurd (true≢false (rw e at n)))
      (λ e. rw (greater_turned laws x y e, e) (ap (λ v. y ∷ v) (insert_at_rank x ys (rw e at n))))

  pub without_at_rank : (x : X) (xs : List X) → Ascending cmp xs → holds cmp x xs ≡ true → without cmp x xs ≡ remove xs (rank cmp x xs)
  without_at_rank x [] h n = absurd (true≢false (sym n))
  without_at_rank x (y ∷ ys) h n =
      by_order (cmp x y)
      (λ e. absurd (true≢false (sym n ∙ holds_not_below laws x y ys h e)))
      (λ e. rw (equal_turned laws x y e, e) (without_absent laws x ys (holds_not_under laws x y ys (ascending_first laws y ys h) (ap is_le e))))
      (λ e. rw (greater_turned laws x y e, e) (ap (λ v. y ∷ v) (without_at_rank x ys (ascending_rest laws y ys h) (rw e at n))))

  pub above_at_rank : (x : X) (xs : List X) → Ascending cmp xs → holds cmp x xs ≡ false → above cmp x xs ≡ slice_get xs (rank cmp x xs)
  above_at_rank x [] h n = refl
  above_at_rank x (y ∷ ys) h n =
      by_order (cmp x y)
      (λ e. rw (less_turned laws x y e, e))
      (λ e. absurd (true≢false (rw e at n)))
      (λ e. rw (greater_turned laws x y e, e) (above_at_rank x ys (ascending_rest laws y ys h) (rw e at n)))

  pub above_past_rank : (x : X) (xs : List X) → Ascending cmp xs → holds cmp x xs ≡ true → above cmp x xs ≡ slice_get xs (suc (rank cmp x xs))
  above_past_rank x [] h n = absurd (true≢false (sym n))
  above_past_rank x (y ∷ ys) h n =
      by_order (cmp x y)
      (λ e. absurd (true≢false (sym n ∙ holds_not_below laws x y ys h e)))
      (λ e. rw (equal_turned laws x y e, e) (above_first laws x ys (rw (sym (laws.equal x y e)) at (ascending_first laws y ys h))))
      (λ e. rw (greater_turned laws x y e, e) (above_past_rank x ys (ascending_rest laws y ys h) (rw e at n)))

  -- the same, by the answer of a search
  pub located_ok : (x : X) (xs : List X) (at : ℕ) → Ok at ≡ located cmp x xs → (at ≡ rank cmp x xs) × (holds cmp x xs ≡ true)
  located_ok x xs at e = by_bool (holds cmp x xs) (λ b. (cc (rw b at e), b)) (λ b. cc (rw b at e))

  pub located_err : (x : X) (xs : List X) (at : ℕ) → Err at ≡ located cmp x xs → (at ≡ rank cmp x xs) × (holds cmp x xs ≡ false)
  located_err x xs at e = by_bool (holds cmp x xs) (λ b. cc (rw b at e)) (λ b. (cc (rw b at e), b))

  -- what `above` gives, read one past the place of a member, or at the place of what is no member
  pub above_after : (x : X) (xs : List X) (at : ℕ) → Ascending cmp xs → Ok at ≡ located cmp x xs → slice_get xs (at + 1) ≡ above cmp x xs
  above_after x xs at h e =
      let found = located_ok x xs at e in
      ap (slice_get xs) (add-one at ∙ ap suc found.0) ∙ sym (above_past_rank x xs h found.1)

  pub above_at : (x : X) (xs : List X) (at : ℕ) → Ascending cmp xs → Err at ≡ located cmp x xs → slice_get xs at ≡ above cmp x xs
  above_at x xs at h e =
      let found = located_err x xs at e in
      ap (slice_get xs) found.0 ∙ sym (above_at_rank x xs h found.1)
