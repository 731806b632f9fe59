-- Lists: membership beside what a test keeps, lists one after the other, a list made at each element, and the largest of some numbers.
-- Assumes nothing.
use Rattle.std.proofs.Common.{◌≡◌, ℕ, zero, suc, ◌≤◌, max, Bool, true, false, cond, not, ◌||◌, ◌⊎◌, List, [], ◌∷◌, ◌++◌, map, get_or, take, drop, filter, sym, refl, ap, ◌∙◌, subst, ap₂, inl, inr, append_assoc, append-nil, arith}
use Rattle.std.proofs.lemmas.Bool.{and_parts, cases_lt, false≢true, or_left, or_right}
use Rattle.std.proofs.lemmas.List.Elements.{filter-append}
use Rattle.std.proofs.ByRecursion.{All-append}
use Rattle.std.specs.List.{AllByRecursion as All}
use Rattle.order.proofs.Comparing.{by_bool}
use Rattle.order.specs.Lists.{◌∈◌, any, every, is_empty, for_each, largest}

module _ {X : Type 0} where
  pub in_left : (x : X) (xs ys : List X) → x ∈ xs → x ∈ (xs ++ ys)
  in_left x [] ys h = absurd h
  in_left x (y ∷ xs) ys (inl e) = inl e
  in_left x (y ∷ xs) ys (inr h) = inr (in_left x xs ys h)

  pub in_right : (x : X) (xs ys : List X) → x ∈ ys → x ∈ (xs ++ ys)
  in_right x [] ys h = h
  in_right x (y ∷ xs) ys h = inr (in_right x xs ys h)

  pub in_either : (x : X) (xs ys : List X) → x ∈ (xs ++ ys) → (x ∈ xs) ⊎ (x ∈ ys)
  in_either x [] ys h = inr h
  in_either x (y ∷ xs) ys (inl e) = inl (inl e)
  in_either x (y ∷ xs) ys (inr h) = elim (in_either x xs ys h) [ inl k ↦ inl (inr k) | inr k ↦ inr k ]

  pub take_in : (x : X) (n : ℕ) (xs : List X) → x ∈ take n xs → x ∈ xs
  take_in x zero xs h = absurd h
  take_in x (suc n) [] h = absurd h
  take_in x (suc n) (y ∷ ys) (inl e) = inl e
  take_in x (suc n) (y ∷ ys) (inr h) = inr (take_in x n ys h)

  pub drop_in : (x : X) (n : ℕ) (xs : List X) → x ∈ drop n xs → x ∈ xs
  drop_in x zero xs h = h
  drop_in x (suc n) [] h = h
  drop_in x (suc n) (y ∷ ys) h = inr (drop_in x n ys h)

  module _ (test : X → Bool) where
    -- the first element stays or goes
    pub kept_true : (x : X) (xs : List X) → test x ≡ true → filter test (x ∷ xs) ≡ x ∷ filter test xs
    kept_true x xs e = ap (λ b. cond b (x ∷ filter test xs) (filter test xs)) e

    pub kept_false : (x : X) (xs : List X) → test x ≡ false → filter test (x ∷ xs) ≡ filter test xs
    kept_false x xs e = ap (λ b. cond b (x ∷ filter test xs) (filter test xs)) e

    -- a filter keeps the members that pass, and no others
    pub in_kept : (x : X) (xs : List X) → x ∈ filter test xs → (x ∈ xs) × (test x ≡ true)
    in_kept x [] h = absurd h
    in_kept x (y ∷ ys) h =
        by_bool (test y)
        (λ b. elim (rw b at h) [
          | inl e ↦ (inl e, ap test e ∙ b)
          | inr i ↦ (inr (in_kept x ys i).0, (in_kept x ys i).1)
        ])
        (λ b. (inr (in_kept x ys (rw b at h)).0, (in_kept x ys (rw b at h)).1))

    pub kept_in : (x : X) (xs : List X) → x ∈ xs → test x ≡ true → x ∈ filter test xs
    kept_in x [] h t = absurd h
    kept_in x (y ∷ ys) (inl e) t = rw (kept_true y ys (ap test (sym e) ∙ t)) (inl e)
    kept_in x (y ∷ ys) (inr h) t = by_bool (test y) (λ b. rw b (inr (kept_in x ys h t))) (λ b. rw b (kept_in x ys h t))

    pub some_in : (xs : List X) → any test xs ≡ true → (x : X) × (x ∈ xs) × (test x ≡ true)
    some_in [] h = absurd (false≢true h)
    some_in (x ∷ xs) h = by_bool (test x) (λ b. (x, inl refl, b)) (λ b. let f = some_in xs (rw b at h) in (f.0, inr f.1, f.2))

    pub in_some : (x : X) (xs : List X) → x ∈ xs → test x ≡ true → any test xs ≡ true
    in_some x [] h t = absurd h
    in_some x (y ∷ ys) (inl e) t = or_left _ _ (ap test (sym e) ∙ t)
    in_some x (y ∷ ys) (inr h) t = or_right _ _ (in_some x ys h t)

    -- none passes exactly if nothing is kept
    pub none_kept : (xs : List X) → not (any test xs) ≡ is_empty (filter test xs)
    none_kept [] = refl
    none_kept (x ∷ xs) = by_bool (test x) (λ b. rw b) (λ b. rw b (none_kept xs))

  pub kept_same : (f g : X → Bool) (xs : List X) → ((x : X) → x ∈ xs → f x ≡ g x) → filter f xs ≡ filter g xs
  kept_same f g [] h = refl
  kept_same f g (x ∷ xs) h = rw (h x (inl refl), kept_same f g xs (λ y k. h y (inr k)))

  pub kept_all : (f : X → Bool) (xs : List X) → ((x : X) → f x ≡ true) → filter f xs ≡ xs
  kept_all f [] h = refl
  kept_all f (x ∷ xs) h = rw (h x, kept_all f xs h)

  -- two filters in either order
  pub kept_swap : (f g : X → Bool) (xs : List X) → filter f (filter g xs) ≡ filter g (filter f xs)
  kept_swap f g [] = refl
  kept_swap f g (x ∷ xs) =
      by_bool (f x)
      (λ a. by_bool (g x) (λ b. simp (a, b, kept_swap f g xs)) (λ b. simp (a, b) (kept_swap f g xs)))
      (λ a. by_bool (g x) (λ b. simp (a, b) (kept_swap f g xs)) (λ b. simp (a, b) (kept_swap f g xs)))

  pub any_same : (f g : X → Bool) (xs : List X) → ((x : X) → f x ≡ g x) → any f xs ≡ any g xs
  any_same f g [] h = refl
  any_same f g (x ∷ xs) h = ap₂ ◌||◌ (h x) (any_same f g xs h)

  -- a test that every element passes, told of the members one by one
  pub every_in : (test : X → Bool) (xs : List X) → every test xs ≡ true → (x : X) → x ∈ xs → test x ≡ true
  every_in test [] h x i = absurd i
  every_in test (y ∷ ys) h x (inl e) = ap test e ∙ (and_parts (test y) (every test ys) h).0
  every_in test (y ∷ ys) h x (inr i) = every_in test ys (and_parts (test y) (every test ys) h).1 x i

  -- what holds of each member is said of all elements
  pub in_all : (P : X → Type 0) (xs : List X) → ((x : X) → x ∈ xs → P x) → All P xs
  in_all P [] h = tt
  in_all P (x ∷ xs) h = (h x (inl refl), in_all P xs (λ y i. h y (inr i)))

  -- at every place, where the element that stands for none has it too
  pub all_get_or_else : (P : X → Type 0) (xs : List X) (i : ℕ) (d : X) → P d → All P xs → P (get_or xs i d)
  all_get_or_else P [] i d h k = h
  all_get_or_else P (x ∷ xs) zero d h k = k.0
  all_get_or_else P (x ∷ xs) (suc i) d h k = all_get_or_else P xs i d h k.1

  pub all_left : (P : X → Type 0) (xs ys : List X) → All P (xs ++ ys) → All P xs
  all_left P [] ys h = tt
  all_left P (x ∷ xs) ys h = (h.0, all_left P xs ys h.1)

  pub all_right : (P : X → Type 0) (xs ys : List X) → All P (xs ++ ys) → All P ys
  all_right P [] ys h = h
  all_right P (x ∷ xs) ys h = all_right P xs ys h.1

module _ {X Y : Type 0} where
  pub in_each : (f : X → List Y) (y : Y) (x : X) (xs : List X) → x ∈ xs → y ∈ f x → y ∈ for_each f xs
  in_each f y x [] h k = absurd h
  in_each f y x (z ∷ zs) (inl e) k = in_left y (f z) (for_each f zs) (subst (λ w. y ∈ f w) e k)
  in_each f y x (z ∷ zs) (inr h) k = in_right y (f z) (for_each f zs) (in_each f y x zs h k)

  pub each_in : (f : X → List Y) (y : Y) (xs : List X) → y ∈ for_each f xs → (x : X) × (x ∈ xs) × (y ∈ f x)
  each_in f y [] h = absurd h
  each_in f y (x ∷ xs) h = elim (in_either y (f x) (for_each f xs) h) [
    | inl k ↦ (x, inl refl, k)
    | inr k ↦ (let r = each_in f y xs k in (r.0, inr r.1, r.2))
  ]

  pub in_map : (f : X → Y) (x : X) (xs : List X) → x ∈ xs → f x ∈ map f xs
  in_map f x [] h = absurd h
  in_map f x (z ∷ zs) (inl e) = inl (ap f e)
  in_map f x (z ∷ zs) (inr h) = inr (in_map f x zs h)

  pub map_in : (f : X → Y) (y : Y) (xs : List X) → y ∈ map f xs → (x : X) × (x ∈ xs) × (y ≡ f x)
  map_in f y [] h = absurd h
  map_in f y (x ∷ xs) (inl e) = (x, inl refl, e)
  map_in f y (x ∷ xs) (inr h) = let r : (z : X) × (z ∈ xs) × (y ≡ f z) = map_in f y xs h in (r.0, inr r.1, r.2)

  pub kept_map : (test : Y → Bool) (f : X → Y) (xs : List X) → filter test (map f xs) ≡ map f (filter (λ x. test (f x)) xs)
  kept_map test f [] = refl
  kept_map test f (x ∷ xs) = by_bool (test (f x)) (λ b. rw b (ap (λ l. f x ∷ l) (kept_map test f xs))) (λ b. rw b (kept_map test f xs))

  pub each_same : (f g : X → List Y) (xs : List X) → ((x : X) → f x ≡ g x) → for_each f xs ≡ for_each g xs
  each_same f g [] h = refl
  each_same f g (x ∷ xs) h = rw (h x, each_same f g xs h)

  -- the same at the elements that pass is the same over what is kept
  pub each_kept : (test : X → Bool) (f g : X → List Y) (xs : List X) → ((x : X) → test x ≡ true → f x ≡ g x) → for_each f (filter test xs) ≡ for_each g (filter test xs)
  each_kept test f g [] h = refl
  each_kept test f g (x ∷ xs) h = by_bool (test x) (λ b. rw b (ap₂ ◌++◌ (h x b) (each_kept test f g xs h))) (λ b. rw b (each_kept test f g xs h))

  pub each_append : (f : X → List Y) (xs ys : List X) → for_each f (xs ++ ys) ≡ for_each f xs ++ for_each f ys
  each_append f [] ys = refl
  each_append f (x ∷ xs) ys = ap (λ zs. f x ++ zs) (each_append f xs ys) ∙ sym (append_assoc (f x) (for_each f xs) (for_each f ys))

  -- one element more at the end
  pub each_push : (f : X → List Y) (xs : List X) (x : X) → for_each f (xs ++ (x ∷ [])) ≡ for_each f xs ++ f x
  each_push f xs x = each_append f xs (x ∷ []) ∙ ap (λ zs. for_each f xs ++ zs) (append-nil (f x))

  pub all_each : (P : Y → Type 0) (f : X → List Y) (xs : List X) → ((x : X) → x ∈ xs → All P (f x)) → All P (for_each f xs)
  all_each P f [] h = tt
  all_each P f (x ∷ xs) h = All-append P (f x) (for_each f xs) (h x (inl refl)) (all_each P f xs (λ y k. h y (inr k)))

  pub all_at : (P : Y → Type 0) (f : X → List Y) (x : X) (xs : List X) → x ∈ xs → All P (for_each f xs) → All P (f x)
  all_at P f x [] i h = absurd i
  all_at P f x (y ∷ ys) (inl e) h = subst (λ z. All P (f z)) (sym e) (all_left P (f y) (for_each f ys) h)
  all_at P f x (y ∷ ys) (inr i) h = all_at P f x ys i (all_right P (f y) (for_each f ys) h)

-- the largest of some numbers: none is larger, and it is one of them, unless there is none
pub in_largest : (k : ℕ) (ks : List ℕ) → k ∈ ks → k ≤ largest ks
in_largest k [] i = absurd i
in_largest k (x ∷ ks) (inl e) = omega arith
in_largest k (x ∷ ks) (inr i) = let h : k ≤ largest ks = in_largest k ks i in omega arith

pub largest_in : (k : ℕ) (ks : List ℕ) → largest (k ∷ ks) ∈ (k ∷ ks)
largest_in k [] = inl (omega arith)
largest_in k (x ∷ ks) = elim (cases_lt k (largest (x ∷ ks))) [
  | inl h ↦ (let e : largest (k ∷ x ∷ ks) ≡ largest (x ∷ ks) = omega arith in inr (subst (λ n. n ∈ (x ∷ ks)) (sym e) (largest_in x ks)))
  | inr h ↦ inl (omega arith)
]

-- the largest is no more than n exactly where each is
pub largest_bound : (n : ℕ) (ks : List ℕ) → All (λ k. k ≤ n) ks → largest ks ≤ n
largest_bound n [] h = omega arith
largest_bound n (k ∷ ks) h = let l : largest ks ≤ n = largest_bound n ks h.1 in let b = h.0 in omega arith

pub bound_largest : (ks : List ℕ) → All (λ k. k ≤ largest ks) ks
bound_largest ks = in_all (λ k. k ≤ largest ks) ks (λ k i. in_largest k ks i)

pub largest_append : (ks ls : List ℕ) → largest (ks ++ ls) ≡ max (largest ks) (largest ls)
largest_append [] ls = omega arith
largest_append (k ∷ ks) ls = let h : largest (ks ++ ls) ≡ max (largest ks) (largest ls) = largest_append ks ls in omega arith

-- a filter twice is the filter once, and over a list made at each element it is a filter at each
pub kept_twice : {X : Type 0} (test : X → Bool) (xs : List X) → filter test (filter test xs) ≡ filter test xs
kept_twice test [] = refl
kept_twice test (x ∷ xs) = by_bool (test x) (λ b. simp (b, kept_twice test xs)) (λ b. rw b (kept_twice test xs))

pub kept_each : {X Y : Type 0} (test : Y → Bool) (f : X → List Y) (xs : List X) → filter test (for_each f xs) ≡ for_each (λ x. filter test (f x)) xs
kept_each test f [] = refl
kept_each test f (x ∷ xs) = filter-append test (f x) (for_each f xs) ∙ ap (λ zs. filter test (f x) ++ zs) (kept_each test f xs)
