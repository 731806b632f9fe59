-- What the laws of a total order give at two and three elements. Assumes nothing.
use Rattle.std.proofs.Common.{◌≡◌, Bool, true, false, ◌||◌, Ordering, Less, Equal, Greater, refl, ap, ◌∙◌}
use Rattle.std.specs.Ordering.{is_lt, is_eq, is_le, ordering_reverse}
use Rattle.order.specs.Order.{Laws}

-- a split on an answer, with the answer known
pub by_order : {G : Type 0} (o : Ordering) → (o ≡ Less → G) → (o ≡ Equal → G) → (o ≡ Greater → G) → G
by_order Less l e g = l refl
by_order Equal l e g = e refl
by_order Greater l e g = g refl

pub by_bool : {G : Type 0} (b : Bool) → (b ≡ true → G) → (b ≡ false → G) → G
by_bool true t f = t refl
by_bool false t f = f refl

pub less_not_equal : {G : Type 0} (o : Ordering) → o ≡ Less → o ≡ Equal → G
less_not_equal o l e = cc

pub less_not_greater : {G : Type 0} (o : Ordering) → o ≡ Less → o ≡ Greater → G
less_not_greater o l e = cc

pub equal_not_greater : {G : Type 0} (o : Ordering) → o ≡ Equal → o ≡ Greater → G
equal_not_greater o l e = cc

pub less_from_test : (o : Ordering) → is_lt o ≡ true → o ≡ Less
less_from_test Less h = refl
less_from_test Equal h = cc
less_from_test Greater h = cc

pub equal_from_test : (o : Ordering) → is_eq o ≡ true → o ≡ Equal
equal_from_test Less h = cc
equal_from_test Equal h = refl
equal_from_test Greater h = cc

pub greater_not_le : {G : Type 0} (o : Ordering) → o ≡ Greater → is_le o ≡ true → G
greater_not_le o e h = cc (rw e at h)

pub not_less : (o : Ordering) → (o ≡ Less → ⊥) → is_lt o ≡ false
not_less Less h = absurd (h refl)
not_less Equal h = refl
not_less Greater h = refl

pub not_equal : (o : Ordering) → (o ≡ Equal → ⊥) → is_eq o ≡ false
not_equal Less h = refl
not_equal Equal h = absurd (h refl)
not_equal Greater h = refl

pub or_swap : (a b c : Bool) → (a || (b || c)) ≡ (b || (a || c))
or_swap true true c = refl
or_swap true false c = refl
or_swap false b c = refl

module _ {X : Type 0} {cmp : X → X → Ordering} (laws : Laws cmp) where
  pub less_turned : (x y : X) → cmp x y ≡ Less → cmp y x ≡ Greater
  less_turned x y h = laws.flip x y ∙ ap ordering_reverse h

  pub greater_turned : (x y : X) → cmp x y ≡ Greater → cmp y x ≡ Less
  greater_turned x y h = laws.flip x y ∙ ap ordering_reverse h

  pub equal_turned : (x y : X) → cmp x y ≡ Equal → cmp y x ≡ Equal
  equal_turned x y h = laws.flip x y ∙ ap ordering_reverse h

  -- equal elements compare alike with every other
  pub equal_left : (x y z : X) → cmp x y ≡ Equal → cmp x z ≡ cmp y z
  equal_left x y z h = ap (λ v. cmp v z) (laws.equal x y h)

  pub equal_right : (x y z : X) → cmp x y ≡ Equal → cmp z x ≡ cmp z y
  equal_right x y z h = ap (λ v. cmp z v) (laws.equal x y h)

  -- what the test calls equal is the same
  pub same_is : (x y : X) → is_eq (cmp x y) ≡ true → x ≡ y
  same_is x y h = laws.equal x y (equal_from_test (cmp x y) h)
