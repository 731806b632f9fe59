-- Shows what the least member above an element is after insertion, in a union and in a difference, that it comes nearer to the end with each
-- step, and that one look above tells membership. Assumes nothing.
use Rattle.std.proofs.Common.{◌≡◌, ℕ, zero, suc, ◌<◌, ◌≤◌, true, false, cond, not, List, [], ◌∷◌, Some, None, Option, Ordering, Less, Greater, sym, refl, ap, ◌∙◌, true≢false, arith}
use Rattle.std.proofs.lemmas.Bool.{both_ways, not-false, not-true}
use Rattle.std.specs.List.{slice_get}
use Rattle.std.specs.Ordering.{is_eq, is_le, is_lt}
use Rattle.order.specs.Order.{Laws}
use Rattle.order.specs.Sets.{Ascending, above, difference, holds, insert, insert_all, lesser, under}
use Rattle.order.proofs.Comparing.{by_bool, by_order, equal_turned, greater_turned, less_from_test, less_turned}
use Rattle.order.proofs.Ascents.{above_first, ascending_first, ascending_insert, ascending_rest, holds_first, holds_not_under, under_below, under_first, under_kept, under_rest}

pub none_some : {X : Type 0} (x : X) → None ≡ Some x → ⊥
none_some x e = cc

pub some_is : {X : Type 0} (x y : X) → Some x ≡ Some y → x ≡ y
some_is x y e = cc

-- how many members are above a
abbrev pub count_above : {X : Type 0} → (X → X → Ordering) → X → List X → ℕ
count_above cmp a [] = 0
count_above cmp a (x ∷ xs) = cond (is_lt (cmp a x)) (suc (count_above cmp a xs)) (count_above cmp a xs)

module _ {X : Type 0} {cmp : X → X → Ordering} (laws : Laws cmp) where
  -- what is above is not below
  not_below : (x y : X) → cmp x y ≡ Less → is_lt (cmp y x) ≡ false
  not_below x y h = rw (less_turned laws x y h)

  under_nth : (x : X) (xs : List X) (n : ℕ) (t : X) → under cmp x xs ≡ true → slice_get xs n ≡ Some t → cmp x t ≡ Less
  under_nth x [] n t h e = absurd (none_some t e)
  under_nth x (y ∷ ys) zero t h e = ap (cmp x) (sym (some_is y t e)) ∙ under_first laws x y ys h
  under_nth x (y ∷ ys) (suc n) t h e = under_nth x ys n t (under_rest laws x y ys h) e

  -- the least member above one of the members is the one that follows it
  pub above_following : (s : List X) (n : ℕ) (t : X) → Ascending cmp s → slice_get s n ≡ Some t → above cmp t s ≡ slice_get s (suc n)
  above_following [] n t h e = absurd (none_some t e)
  above_following (x ∷ xs) zero t h e =
      let here : above cmp x (x ∷ xs) ≡ slice_get xs 0 = rw (laws.same x) (above_first laws x xs (ascending_first laws x xs h)) in
      ap (λ v. above cmp v (x ∷ xs)) (sym (some_is x t e)) ∙ here
  above_following (x ∷ xs) (suc n) t h e =
      rw (less_turned laws x t (under_nth x xs n t (ascending_first laws x xs h) e)) (above_following xs n t (ascending_rest laws x xs h) e)

  -- the lesser of two
  pub lesser_none : (o : Option X) → lesser cmp o None ≡ o
  lesser_none None = refl
  lesser_none (Some x) = refl

  -- z below x, and y not below x: then z is below y
  pub below_through : (x y z : X) → cmp z x ≡ Less → is_lt (cmp y x) ≡ false → cmp z y ≡ Less
  below_through x y z h k =
      by_order (cmp x y)
      (λ e. laws.trans z x y h e)
      (λ e. ap (cmp z) (sym (laws.equal x y e)) ∙ h)
      (λ e. absurd (both_ways (is_lt (cmp y x)) k (ap is_lt (greater_turned laws x y e))))

  pub lesser_assoc : (o p q : Option X) → lesser cmp o (lesser cmp p q) ≡ lesser cmp (lesser cmp o p) q
  lesser_assoc None p q = refl
  lesser_assoc (Some x) None q = refl
  lesser_assoc (Some x) (Some y) None = sym (lesser_none (lesser cmp (Some x) (Some y)))
  lesser_assoc (Some x) (Some y) (Some z) =
      by_bool (is_lt (cmp z y))
      (λ zy.
      by_bool (is_lt (cmp y x))
      (λ yx. rw (zy, yx, laws.trans z y x (less_from_test (cmp z y) zy) (less_from_test (cmp y x) yx), zy))
      (λ yx. rw (zy, yx)))
      (λ zy.
      by_bool (is_lt (cmp y x))
      (λ yx. rw (zy, yx, zy))
      (λ yx.
      by_bool (is_lt (cmp z x))
      (λ zx. absurd (both_ways (is_lt (cmp z y)) zy (ap is_lt (below_through x y z (less_from_test (cmp z x) zx) yx))))
      (λ zx. rw (zy, yx, zx))))

  -- what is below a whole set is the lesser of itself and any of its members
  pub lesser_least : (a x : X) (s : List X) → under cmp x s ≡ true → lesser cmp (Some x) (above cmp a s) ≡ Some x
  lesser_least a x [] h = refl
  lesser_least a x (y ∷ ys) h =
      by_bool (is_lt (cmp a y))
      (λ e. rw (e, not_below x y (under_first laws x y ys h)))
      (λ e. rw e (lesser_least a x ys (under_rest laws x y ys h)))

  pub least_lesser : (a x : X) (s : List X) → under cmp x s ≡ true → lesser cmp (above cmp a s) (Some x) ≡ Some x
  least_lesser a x [] h = refl
  least_lesser a x (y ∷ ys) h =
      by_bool (is_lt (cmp a y))
      (λ e. rw (e, under_first laws x y ys h))
      (λ e. rw e (least_lesser a x ys (under_rest laws x y ys h)))

  -- with x put in: the lesser of x, if it is above a, and what was the least before
  pub above_insert : (a x : X) (s : List X) → Ascending cmp s → above cmp a (insert cmp x s) ≡ lesser cmp (above cmp a (x ∷ [])) (above cmp a s)
  above_insert a x [] h = sym (lesser_none (above cmp a (x ∷ [])))
  above_insert a x (y ∷ ys) h =
      by_order (cmp x y)
      (λ e.
      let low : under cmp x ys ≡ true = under_below laws x y ys e (ascending_first laws y ys h) in
      by_bool (is_lt (cmp a x))
      (λ ax. rw (e, ax) (sym (lesser_least a x (y ∷ ys) (rw e low))))
      (λ ax. rw (e, ax)))
      (λ e.
      let same = laws.equal x y e in
      by_bool (is_lt (cmp a y))
      (λ ay. rw (e, same, ay, laws.same y))
      (λ ay. rw (e, same, ay)))
      (λ e.
      let down = greater_turned laws x y e in
      by_bool (is_lt (cmp a y))
      (λ ay. rw (e, ay, laws.trans a y x (less_from_test (cmp a y) ay) down, down))
      (λ ay. rw (e, ay) (above_insert a x ys (ascending_rest laws y ys h))))

  -- in a union it is the lesser of the two sets' own
  pub above_insert_all : (a : X) (s t : List X) → Ascending cmp s → Ascending cmp t → above cmp a (insert_all cmp s t) ≡ lesser cmp (above cmp a s) (above cmp a t)
  above_insert_all a [] t p q = refl
  above_insert_all a (x ∷ xs) t p q =
      above_insert_all a xs (insert cmp x t) (ascending_rest laws x xs p) (ascending_insert laws x t q)
      ∙ ap (lesser cmp (above cmp a xs)) (above_insert a x t q)
      ∙ lesser_assoc (above cmp a xs) (above cmp a (x ∷ [])) (above cmp a t)
      ∙ ap (λ o. lesser cmp o (above cmp a t))
      (by_bool (is_lt (cmp a x))
      (λ e. rw e (least_lesser a x xs (ascending_first laws x xs p)))
      (λ e. rw e (lesser_none (above cmp a xs))))

  -- what is told is above, is a member, and passes what all members pass
  pub above_is_greater : (a x : X) (s : List X) → Some x ≡ above cmp a s → cmp a x ≡ Less
  above_is_greater a x [] e = absurd (none_some x (sym e))
  above_is_greater a x (y ∷ ys) e =
      by_bool (is_lt (cmp a y))
      (λ ay. ap (cmp a) (some_is x y (rw ay at e)) ∙ less_from_test (cmp a y) ay)
      (λ ay. above_is_greater a x ys (rw ay at e))

  pub holds_above : (a x : X) (s : List X) → Some x ≡ above cmp a s → holds cmp x s ≡ true
  holds_above a x [] e = absurd (none_some x (sym e))
  holds_above a x (y ∷ ys) e =
      by_bool (is_lt (cmp a y))
      (λ ay. ap (λ v. holds cmp v (y ∷ ys)) (some_is x y (rw ay at e)) ∙ holds_first laws y ys)
      (λ ay. by_bool (is_eq (cmp x y)) (λ b. rw b) (λ b. rw b (holds_above a x ys (rw ay at e))))

  pub under_above : (z a x : X) (s : List X) → under cmp z s ≡ true → Some x ≡ above cmp a s → is_lt (cmp x z) ≡ false
  under_above z a x s h e =
      by_bool (is_lt (cmp x z))
      (λ b. absurd (true≢false (sym (holds_above a x s e) ∙ holds_not_under laws x z s h (ap is_le (less_from_test (cmp x z) b)))))
      (λ b. b)

  -- where some members are left out
  pub above_difference_none : (a : X) (s m : List X) → None ≡ above cmp a s → above cmp a (difference cmp s m) ≡ None
  above_difference_none a [] m e = refl
  above_difference_none a (y ∷ ys) m e =
      by_bool (is_lt (cmp a y))
      (λ ay. absurd (none_some y (rw ay at e)))
      (λ ay.
      let more = above_difference_none a ys m (rw ay at e) in
      by_bool (holds cmp y m) (λ b. rw b more) (λ b. rw (b, ay) more))

  pub above_difference_here : (a x : X) (s m : List X) → Some x ≡ above cmp a s → holds cmp x m ≡ false → above cmp a (difference cmp s m) ≡ Some x
  above_difference_here a x [] m e h = absurd (none_some x (sym e))
  above_difference_here a x (y ∷ ys) m e h =
      by_bool (is_lt (cmp a y))
      (λ ay.
      let same = some_is x y (rw ay at e) in
      rw (← same, h, above_is_greater a x (y ∷ ys) e))
      (λ ay.
      let more = above_difference_here a x ys m (rw ay at e) h in
      by_bool (holds cmp y m) (λ b. rw b more) (λ b. rw (b, ay) more))

  pub above_difference_past : (a x : X) (s m : List X) → Ascending cmp s → Some x ≡ above cmp a s → holds cmp x m ≡ true → above cmp a (difference cmp s m) ≡ above cmp x (difference cmp s m)
  above_difference_past a x [] m p e h = absurd (none_some x (sym e))
  above_difference_past a x (y ∷ ys) m p e h =
      by_bool (is_lt (cmp a y))
      (λ ay.
      let same = some_is x y (rw ay at e) in
      let high : under cmp y (difference cmp ys m) ≡ true = under_kept laws (λ z. not (holds cmp z m)) y ys (ascending_first laws y ys p) in
      let low : under cmp a (difference cmp ys m) ≡ true = under_below laws a y (difference cmp ys m) (less_from_test (cmp a y) ay) high in
      rw (same, ap (λ v. holds cmp v m) (sym same) ∙ h)
      (above_first laws a (difference cmp ys m) low ∙ sym (above_first laws y (difference cmp ys m) high)))
      (λ ay.
      let inner : Some x ≡ above cmp a ys = rw ay at e in
      let more = above_difference_past a x ys m (ascending_rest laws y ys p) inner h in
      by_bool (holds cmp y m)
      (λ b. rw b more)
      (λ b. rw (b, ay, under_above y a x ys (ascending_first laws y ys p) inner) more))

  -- a member that is not above a, or is left out, is passed by
  pub above_difference_below : (a x : X) (s m : List X) → is_lt (cmp a x) ≡ false → above cmp a (difference cmp (x ∷ s) m) ≡ above cmp a (difference cmp s m)
  above_difference_below a x s m h = by_bool (holds cmp x m) (λ b. rw b) (λ b. rw (b, h))

  pub above_difference_out : (a x : X) (s m : List X) → holds cmp x m ≡ true → above cmp a (difference cmp (x ∷ s) m) ≡ above cmp a (difference cmp s m)
  above_difference_out a x s m h = rw h

  pub above_difference_first : (a x : X) (s m : List X) → is_lt (cmp a x) ≡ true → holds cmp x m ≡ false → above cmp a (difference cmp (x ∷ s) m) ≡ Some x
  above_difference_first a x s m h k = rw (k, h)

  -- fewer members are above the next one
  count_above_le : (a b : X) (s : List X) → cmp a b ≡ Less → count_above cmp b s ≤ count_above cmp a s
  count_above_le a b [] h = omega arith
  count_above_le a b (y ∷ ys) h =
      let more = count_above_le a b ys h in
      by_bool (is_lt (cmp b y))
      (λ e. rw (e, laws.trans a b y h (less_from_test (cmp b y) e)) (omega arith))
      (λ e. by_bool (is_lt (cmp a y)) (λ f. rw (e, f) (omega arith)) (λ f. rw (e, f) (omega arith)))

  pub count_above_falls : (a x : X) (s : List X) → Ascending cmp s → Some x ≡ above cmp a s → count_above cmp x s < count_above cmp a s
  count_above_falls a x [] p e = absurd (none_some x (sym e))
  count_above_falls a x (y ∷ ys) p e =
      by_bool (is_lt (cmp a y))
      (λ ay.
      let same = some_is x y (rw ay at e) in
      let here : is_lt (cmp x y) ≡ false = rw (same, laws.same y) in
      let fewer = count_above_le a x ys (above_is_greater a x (y ∷ ys) e) in
      rw (here, ay) (omega arith))
      (λ ay.
      let inner : Some x ≡ above cmp a ys = rw ay at e in
      let more = count_above_falls a x ys (ascending_rest laws y ys p) inner in
      rw (ay, under_above y a x ys (ascending_first laws y ys p) inner) more)

  -- whether t is a member is told by the least member above a, where a comes just before t
  module _ (a t : X) (just_before : (x : X) → is_lt (cmp a x) ≡ not (is_lt (cmp x t))) where
    passed : (y : X) → is_lt (cmp a y) ≡ false → cmp t y ≡ Greater
    passed y e = less_turned laws y t (less_from_test (cmp y t) (not-false (is_lt (cmp y t)) (sym (just_before y) ∙ e)))

    pub lost_above : (s : List X) → None ≡ above cmp a s → false ≡ holds cmp t s
    lost_above [] e = refl
    lost_above (y ∷ ys) e =
        by_bool (is_lt (cmp a y))
        (λ ay. absurd (none_some y (rw ay at e)))
        (λ ay. rw (passed y ay) (lost_above ys (rw ay at e)))

    pub found_above : (s : List X) (x : X) → Ascending cmp s → Some x ≡ above cmp a s → is_eq (cmp x t) ≡ holds cmp t s
    found_above [] x p e = absurd (none_some x (sym e))
    found_above (y ∷ ys) x p e =
        by_bool (is_lt (cmp a y))
        (λ ay.
        let same = some_is x y (rw ay at e) in
        by_order (cmp y t)
        (λ l. absurd (both_ways (is_lt (cmp y t)) (not-true (is_lt (cmp y t)) (sym (just_before y) ∙ ay)) (ap is_lt l)))
        (λ l. rw (same, l, equal_turned laws y t l))
        (λ l.
        let below = greater_turned laws y t l in
        rw (same, l, below) (sym (holds_not_under laws t y ys (ascending_first laws y ys p) (ap is_le below)))))
        (λ ay. rw (passed y ay) (found_above ys x (ascending_rest laws y ys p) (rw ay at e)))
