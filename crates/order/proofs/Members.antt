-- Membership in sets as strictly ascending lists: insertion, the set of a list, filters, and that a set is told by its members.
-- Assumes nothing.
use Rattle.std.proofs.Common.{◌≡◌, ◌≤◌, Bool, true, false, ◌&&◌, ◌||◌, ◌⊎◌, List, [], ◌∷◌, ◌++◌, length, filter, Ordering, sym, refl, ap, ◌∙◌, subst, inl, inr, append_assoc, append-nil, le_trans, le_refl}
use Rattle.std.proofs.lemmas.Bool.{false≢true, or_cases, or_right}
use Rattle.std.specs.Ordering.{is_eq}
use Rattle.order.specs.Order.{Laws}
use Rattle.order.specs.Lists.{◌∈◌, is_empty}
use Rattle.order.specs.Sets.{Ascending, holds, insert, ascend}
use Rattle.order.proofs.Comparing.{by_order, by_bool, equal_from_test}
use Rattle.order.proofs.Ascents.{holds_first, holds_insert, holds_kept, holds_ascend, ascending_ascend, ascending_insert, ascending_kept, same_members, length_insert_ge}
use Rattle.order.proofs.ListLaws.{in_left, in_right, in_either}

module _ {X : Type 0} {cmp : X → X → Ordering} (laws : Laws cmp) where
  -- the test of membership tells the members
  pub in_holds : (x : X) (xs : List X) → x ∈ xs → holds cmp x xs ≡ true
  in_holds x [] i = absurd i
  in_holds x (y ∷ ys) (inl e) = subst (λ z. holds cmp x (z ∷ ys) ≡ true) e (holds_first laws x ys)
  in_holds x (y ∷ ys) (inr i) = or_right (is_eq (cmp x y)) (holds cmp x ys) (in_holds x ys i)

  pub holds_in : (x : X) (xs : List X) → holds cmp x xs ≡ true → x ∈ xs
  holds_in x [] h = absurd (false≢true h)
  holds_in x (y ∷ ys) h = elim (or_cases (is_eq (cmp x y)) (holds cmp x ys) h) [
    | inl e ↦ inl (laws.equal x y (equal_from_test (cmp x y) e))
    | inr k ↦ inr (holds_in x ys k)
  ]

  -- lists with the same members pass the same tests of membership
  pub same_holds : (xs ys : List X) → ((z : X) → z ∈ xs → z ∈ ys) → ((z : X) → z ∈ ys → z ∈ xs) → (z : X) → holds cmp z xs ≡ holds cmp z ys
  same_holds xs ys into back z =
      by_bool (holds cmp z xs)
      (λ e. e ∙ sym (in_holds z ys (into z (holds_in z xs e))))
      (λ e.
      by_bool (holds cmp z ys)
      (λ k. absurd (false≢true (sym e ∙ in_holds z xs (back z (holds_in z ys k)))))
      (λ k. e ∙ sym k))

  -- two ascending lists with the same members are equal
  pub same_sets : (xs ys : List X) → Ascending cmp xs → Ascending cmp ys
      → ((z : X) → z ∈ xs → z ∈ ys) → ((z : X) → z ∈ ys → z ∈ xs) → xs ≡ ys
  same_sets xs ys h k into back = same_members laws xs ys h k (same_holds xs ys into back)

  -- insertion adds the one member
  pub insert_in : (z x : X) (ys : List X) → z ∈ insert cmp x ys → (z ≡ x) ⊎ (z ∈ ys)
  insert_in z x ys i =
      elim (or_cases (is_eq (cmp z x)) (holds cmp z ys) (sym (holds_insert laws z x ys) ∙ in_holds z (insert cmp x ys) i)) [
        | inl e ↦ inl (laws.equal z x (equal_from_test (cmp z x) e))
        | inr k ↦ inr (holds_in z ys k)
      ]

  pub in_rest : (z x : X) (ys : List X) → z ∈ ys → z ∈ insert cmp x ys
  in_rest z x ys i =
      holds_in z (insert cmp x ys) (holds_insert laws z x ys ∙ or_right (is_eq (cmp z x)) (holds cmp z ys) (in_holds z ys i))

  pub in_insert : (x : X) (ys : List X) → x ∈ insert cmp x ys
  in_insert x ys =
      holds_in x (insert cmp x ys) (holds_insert laws x x ys ∙ ap (λ o. is_eq o || holds cmp x ys) (laws.same x))

  -- the set of a list has its members
  pub ascend_in : (z : X) (xs : List X) → z ∈ ascend cmp xs → z ∈ xs
  ascend_in z xs i = holds_in z xs (sym (holds_ascend laws z xs) ∙ in_holds z (ascend cmp xs) i)

  pub in_ascend : (z : X) (xs : List X) → z ∈ xs → z ∈ ascend cmp xs
  in_ascend z xs i = holds_in z (ascend cmp xs) (holds_ascend laws z xs ∙ in_holds z xs i)

  insert_some : (x : X) (ys : List X) → is_empty (insert cmp x ys) ≡ false
  insert_some x [] = refl
  insert_some x (y ∷ ys) = by_order (cmp x y) (λ e. rw e) (λ e. rw e) (λ e. rw e)

  pub is_empty_ascend : (xs : List X) → is_empty (ascend cmp xs) ≡ is_empty xs
  is_empty_ascend [] = refl
  is_empty_ascend (x ∷ xs) = insert_some x (ascend cmp xs)

  -- lists with the same members have the same set
  pub ascend_members : (xs ys : List X) → ((z : X) → z ∈ xs → z ∈ ys) → ((z : X) → z ∈ ys → z ∈ xs) → ascend cmp xs ≡ ascend cmp ys
  ascend_members xs ys into back =
      same_sets (ascend cmp xs) (ascend cmp ys) (ascending_ascend laws xs) (ascending_ascend laws ys)
      (λ z i. in_ascend z ys (into z (ascend_in z xs i)))
      (λ z i. in_ascend z xs (back z (ascend_in z ys i)))

  -- a filter commutes with making the set of a list
  pub kept_ascend : (test : X → Bool) (xs : List X) → filter test (ascend cmp xs) ≡ ascend cmp (filter test xs)
  kept_ascend test xs =
      same_members laws (filter test (ascend cmp xs)) (ascend cmp (filter test xs))
      (ascending_kept laws test (ascend cmp xs) (ascending_ascend laws xs)) (ascending_ascend laws (filter test xs))
      (λ z.
      holds_kept laws test z (ascend cmp xs)
      ∙ ap (λ b. test z && b) (holds_ascend laws z xs)
      ∙ sym (holds_kept laws test z xs)
      ∙ sym (holds_ascend laws z (filter test xs)))

  -- one more at the end is one more put in
  pub ascend_push : (xs : List X) (x : X) → ascend cmp (xs ++ (x ∷ [])) ≡ insert cmp x (ascend cmp xs)
  ascend_push xs x =
      same_sets (ascend cmp (xs ++ (x ∷ []))) (insert cmp x (ascend cmp xs))
      (ascending_ascend laws (xs ++ (x ∷ [])))
      (ascending_insert laws x (ascend cmp xs) (ascending_ascend laws xs)) into back
    where
      into : (z : X) → z ∈ ascend cmp (xs ++ (x ∷ [])) → z ∈ insert cmp x (ascend cmp xs)
      into z i = elim (in_either z xs (x ∷ []) (ascend_in z (xs ++ (x ∷ [])) i)) [
        | inl j ↦ in_rest z x (ascend cmp xs) (in_ascend z xs j)
        | inr (inl e) ↦ subst (λ w. w ∈ insert cmp x (ascend cmp xs)) (sym e) (in_insert x (ascend cmp xs))
        | inr (inr j) ↦ absurd j
      ]

      back : (z : X) → z ∈ insert cmp x (ascend cmp xs) → z ∈ ascend cmp (xs ++ (x ∷ []))
      back z i = in_ascend z (xs ++ (x ∷ [])) (elim (insert_in z x (ascend cmp xs) i) [
        | inl e ↦ in_right z xs (x ∷ []) (inl e)
        | inr j ↦ in_left z xs (x ∷ []) (ascend_in z xs j)
      ])

  -- a set only grows: one that is too large already stays so
  pub ascend_grows : (xs ys : List X) → length (ascend cmp xs) ≤ length (ascend cmp (xs ++ ys))
  ascend_grows xs [] = subst (λ zs. length (ascend cmp xs) ≤ length (ascend cmp zs)) (sym (append-nil xs)) (le_refl (length (ascend cmp xs)))
  ascend_grows xs (y ∷ ys) =
      let pushed : length (ascend cmp xs) ≤ length (ascend cmp (xs ++ (y ∷ []))) =
      subst (λ zs. length (ascend cmp xs) ≤ length zs) (sym (ascend_push xs y)) (length_insert_ge laws y (ascend cmp xs))
      in
      le_trans pushed
      (subst (λ zs. length (ascend cmp (xs ++ (y ∷ []))) ≤ length (ascend cmp zs)) (append_assoc xs (y ∷ []) ys) (ascend_grows (xs ++ (y ∷ [])) ys))
