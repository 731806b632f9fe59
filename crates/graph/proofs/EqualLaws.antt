-- Shows that `==` on triples and `contains` on a slice of them tell what the triple order tells.
use Rattle.std.proofs.Common.{◌≡◌, ◌||◌, List, [], ◌∷◌, refl, arith, ap₂}
use Rattle.std.proofs.lemmas.Bool.Decides.{nat_tests}
use Rattle.std.specs.List.{list_any}
use Rattle.std.specs.Ordering.{is_eq}
use Rattle.order.specs.Sets.{holds}
use Rattle.rdf.specs.Triples.{compare_triples}
use Rattle.rdf.specs.contracts.triple.TriplePartialEq.TheImpl.{ghosts as triples}
use Rattle.rdf.specs.declared.triple.Triple.{Triple}

pub equal_is_eq : (x y : Triple) → triples.eq x y ≡ is_eq (compare_triples x y)
equal_is_eq x y = grind (arith, nat_tests)

equal_turned : (x y : Triple) → triples.eq x y ≡ is_eq (compare_triples y x)
equal_turned x y = grind (arith, nat_tests)

pub any_holds : (t : Triple) (xs : List Triple) → list_any (λ y. triples.eq y t) xs ≡ holds compare_triples t xs
any_holds t [] = refl
any_holds t (x ∷ xs) = ap₂ ◌||◌ (equal_turned x t) (any_holds t xs)
