-- Shows what those who hold an ordered list need: what a change leaves where it must be carried out, at the list and at the slice whose
-- first places it was lent; that spare places stay blank; how a walk over the first places goes on; what is read at a place; and that what a
-- filter keeps passes. Assumes nothing.
use Rattle.std.proofs.Common.{◌≡◌, ℕ, zero, suc, ◌+◌, ◌-◌, ◌<◌, ◌≤◌, Bool, true, false, List, [], ◌∷◌, length, get_or, take, drop, replicate, Some, None, filter, Ordering, sym, refl, ap, ◌∙◌, subst, true≢false, arith, length-drop}
use Rattle.std.proofs.lemmas.List.{drop_more, get_or-take, length-take-le}
use Rattle.std.proofs.lemmas.Bool.{and_from}
use Rattle.std.specs.List.{slice_get}
use Rattle.order.specs.Lists.{every}
use Rattle.order.specs.OrderedLists.{Puts, TakesOut, elements, spare}
use Rattle.order.specs.Sets.{holds, insert, without}
use Rattle.order.specs.declared.list.Insertion.{Insertion}
use Rattle.order.specs.declared.list.Insertion.TheVariants.{Made, Held, Full}
use Rattle.order.specs.declared.list.OrderedList.{OrderedList}
use Rattle.order.proofs.Comparing.{by_bool}
use Rattle.order.proofs.Nexts.{none_some, some_is}
use Rattle.order.proofs.Parts.{parts_all, take_count}

module _ {X : Type 0} where
  -- the spare places are those that the elements leave
  pub free_places : (l : OrderedList X) → length (spare l) ≡ length l.places.now - length (elements l)
  free_places l = omega (arith, parts_all l.places.now l.len)

  -- the first n places of a slice from place i on
  pub rest_more : (p : List X) (n i : ℕ) (d : X) → i < n → n ≤ length p → drop i (take n p) ≡ get_or p i d ∷ drop (i + 1) (take n p)
  rest_more p n i d below inside =
      let long : length (take n p) ≡ n = length-take-le n p inside in
      drop_more (take n p) i d (omega arith) ∙ ap (λ y. y ∷ drop (i + 1) (take n p)) (get_or-take n p i d below)

  -- an element is read at a place of the list, and none past its end
  pub nth_in : (xs : List X) (n : ℕ) (x : X) → slice_get xs n ≡ Some x → (n < length xs) × (get_or xs n x ≡ x)
  nth_in [] n x e = absurd (none_some x e)
  nth_in (y ∷ ys) zero x e = (omega arith, some_is y x e)
  nth_in (y ∷ ys) (suc n) x e = let h = nth_in ys n x e in (omega arith, h.1)

  pub nth_none : (xs : List X) (n : ℕ) → slice_get xs n ≡ None → length xs ≤ n
  nth_none [] n e = omega arith
  nth_none (y ∷ ys) zero e = absurd (none_some y (sym e))
  nth_none (y ∷ ys) (suc n) e = let h = nth_none ys n e in omega arith

  -- a filter keeps what passes
  pub kept_pass : (p : X → Bool) (xs : List X) → every p (filter p xs) ≡ true
  kept_pass p [] = refl
  kept_pass p (x ∷ xs) = by_bool (p x) (λ h. rw h (and_from _ _ h (kept_pass p xs))) (λ h. rw h (kept_pass p xs))

  -- one blank place less, or more
  pub fewer_blank : (b : X) (xs ys : List X) → ys ≡ drop 1 xs → xs ≡ replicate (length xs) b → ys ≡ replicate (length ys) b
  fewer_blank b xs ys f e = subst (λ v. v ≡ replicate (length v) b) (sym f) (less xs e)
    where
      less : (v : List X) → v ≡ replicate (length v) b → drop 1 v ≡ replicate (length (drop 1 v)) b
      less [] e = refl
      less (x ∷ xs) e = cc

  pub more_blank : (b : X) (xs ys : List X) → ys ≡ b ∷ xs → xs ≡ replicate (length xs) b → ys ≡ replicate (length ys) b
  more_blank b xs ys f e = subst (λ v. v ≡ replicate (length v) b) (sym f) (ap (λ v. b ∷ v) e)

  module _ (cmp : X → X → Ordering) (x : X) (l m : OrderedList X) where
    -- what is no element goes in where a place is spare
    pub put_in : (r : Insertion) → holds cmp x (elements l) ≡ false → 0 < length (spare l) → Puts cmp x l m r → (elements m ≡ insert cmp x (elements l)) × (spare m ≡ drop 1 (spare l))
    put_in Made absent room h = (h.2, h.3)
    put_in Held absent room h = absurd (true≢false (sym h.0 ∙ absent))
    put_in Full absent room h = absurd (omega (arith, h.1))

    -- what is an element goes out
    pub taken_out : (b : X) (r : Bool) → holds cmp x (elements l) ≡ true → TakesOut cmp x b l m r → (elements m ≡ without cmp x (elements l)) × (spare m ≡ b ∷ spare l)
    taken_out b true held h = (h.1, h.2)
    taken_out b false held h = absurd (true≢false (sym held ∙ h.0))

    -- the same where the list was made of the first n places of p, and k elements are counted afterwards
    module _ (p : List X) (n k : ℕ) (first : elements l ≡ take n p) (counted : k ≡ length (elements m)) where
      pub put_first : (r : Insertion) → spare l ≡ drop n p → n < length p → holds cmp x (take n p) ≡ false → Puts cmp x l m r → take k m.places.now ≡ insert cmp x (take n p)
      put_first r rest room absent h =
          take_count m.places.now m.len k counted
          ∙ (put_in r (ap (holds cmp x) first ∙ absent) (omega (arith, ap length rest, length-drop n p)) h).0
          ∙ ap (insert cmp x) first

      pub take_out_first : (b : X) (r : Bool) → holds cmp x (take n p) ≡ true → TakesOut cmp x b l m r → take k m.places.now ≡ without cmp x (take n p)
      take_out_first b r held h =
          take_count m.places.now m.len k counted
          ∙ (taken_out b r (ap (holds cmp x) first ∙ held) h).0
          ∙ ap (without cmp x) first
