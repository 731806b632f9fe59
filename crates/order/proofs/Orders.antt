-- Total orders made from others: numbers, a part that tells the whole, two parts in turn, lists. Assumes nothing.
use Rattle.std.proofs.Common.{◌≡◌, ℕ, zero, suc, min, List, [], ◌∷◌, length, drop, Ordering, Less, Equal, Greater, refl, ap, ◌∙◌, subst, arith}
use Rattle.std.specs.Cmp.{IsTotalOrder}
use Rattle.std.specs.Cmp.Lexicographic.{slice_cmp}
use Rattle.std.specs.Ordering.{ordering_then}
use Rattle.std.proofs.lemmas.Bool.Decides.{nat_tests}
use Rattle.std.proofs.lemmas.Cmp.{lists_total, on_total, then_total}
use Rattle.order.specs.Order.{Laws}
use Rattle.order.specs.Lexical.{number_order, list_order}
use Rattle.order.specs.OrderLaws.{laws_from}
use Rattle.order.proofs.Comparing.{equal_left, equal_not_greater, less_not_equal}
pub use Rattle.order.specs.OrderLaws.{number_laws}

total : {X : Type 0} {cmp : X → X → Ordering} → Laws cmp → IsTotalOrder cmp
total laws = record { antisymm = λ x y. laws.flip y x; trans = laws.trans; congr = equal_left laws }

-- an order of wholes by a part that tells the whole
pub laws_by : {X Y : Type 0} {cmp : X → X → Ordering} → Laws cmp → (f : Y → X) → ((x y : Y) → f x ≡ f y → x ≡ y) → Laws (λ (x y : Y). cmp (f x) (f y))
laws_by laws f tells = laws_from (on_total f (total laws)) (λ x y h. tells x y (laws.equal (f x) (f y) h))

then_equal_first : (o p : Ordering) → ordering_then o p ≡ Equal → o ≡ Equal
then_equal_first Less p h = h
then_equal_first Equal p h = refl
then_equal_first Greater p h = h

then_equal_second : (o p : Ordering) → ordering_then o p ≡ Equal → p ≡ Equal
then_equal_second Less p h = less_not_equal Less refl h
then_equal_second Equal p h = h
then_equal_second Greater p h = equal_not_greater Greater h refl

-- two parts in turn
pub laws_then : {X Y : Type 0} {cmp : X → X → Ordering} {dmp : Y → Y → Ordering} → Laws cmp → Laws dmp → Laws (λ (x y : X × Y). ordering_then (cmp x.0 y.0) (dmp x.1 y.1))
laws_then {X} {Y} {cmp} {dmp} first second =
    laws_from (then_total (on_total (λ (x : X × Y). x.0) (total first)) (on_total (λ (x : X × Y). x.1) (total second)))
    (λ x y h.
    let a = first.equal x.0 y.0 (then_equal_first (cmp x.0 y.0) (dmp x.1 y.1) h) in
    let b = second.equal x.1 y.1 (then_equal_second (cmp x.0 y.0) (dmp x.1 y.1) h) in
    λ i. (a i, b i))

module _ {X : Type 0} {cmp : X → X → Ordering} (laws : Laws cmp) where
  list_equal : (xs ys : List X) → list_order cmp xs ys ≡ Equal → xs ≡ ys
  list_equal [] [] h = refl
  list_equal [] (y ∷ ys) h = less_not_equal Less refl h
  list_equal (x ∷ xs) [] h = equal_not_greater Greater h refl
  list_equal (x ∷ xs) (y ∷ ys) h =
      let a = laws.equal x y (then_equal_first (cmp x y) (list_order cmp xs ys) h) in
      let b = list_equal xs ys (then_equal_second (cmp x y) (list_order cmp xs ys) h) in
      cc

  as_slices : (xs ys : List X) → slice_cmp cmp xs ys ≡ list_order cmp xs ys
  as_slices [] [] = refl
  as_slices [] (y ∷ ys) = refl
  as_slices (x ∷ xs) [] = refl
  as_slices (x ∷ xs) (y ∷ ys) = ap (ordering_then (cmp x y)) (as_slices xs ys)

  pub list_laws : Laws (list_order cmp)
  list_laws = laws_from (subst IsTotalOrder (λ i xs ys. as_slices xs ys i) (lists_total (total laws))) list_equal

-- the end of a loop over two lists that turns as often as both have an element
pub list_order_rest : {X : Type 0} (cmp : X → X → Ordering) (xs ys : List X) (n : ℕ) → n ≡ min (length xs) (length ys) → number_order (length xs) (length ys) ≡ list_order cmp (drop n xs) (drop n ys)
list_order_rest cmp [] [] n e = let z : n ≡ 0 = omega arith in rw z (grind (arith, nat_tests))
list_order_rest cmp [] (y ∷ ys) n e = let z : n ≡ 0 = omega arith in rw z (grind (arith, nat_tests))
list_order_rest cmp (x ∷ xs) [] n e = let z : n ≡ 0 = omega arith in rw z (grind (arith, nat_tests))
list_order_rest cmp (x ∷ xs) (y ∷ ys) zero e = absurd (omega arith)
list_order_rest cmp (x ∷ xs) (y ∷ ys) (suc n) e = next ∙ list_order_rest cmp xs ys n (omega arith)
  where
    next : number_order (suc (length xs)) (suc (length ys)) ≡ number_order (length xs) (length ys)
    next = grind (arith, nat_tests)
