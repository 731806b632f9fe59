-- The laws of an order from those of the library, and the laws of numbers. Assumes nothing.
use Rattle.std.specs.Prelude.{◌≡◌}
use Rattle.std.specs.declared.cmp.Ordering.TheVariants.{Equal}
use Rattle.std.specs.declared.cmp.Ordering.{Ordering}
use Rattle.std.specs.Cmp.{IsTotalOrder}
use Rattle.std.proofs.lemmas.Cmp.{nat_cmp_total, tied_itself}
use Rattle.std.proofs.lemmas.Map.Lookups.{exact_unsigned}
use Rattle.order.specs.Lexical.{number_order}
use Rattle.order.specs.Order.{Laws}

pub laws_from : {X : Type 0} {cmp : X → X → Ordering} → IsTotalOrder cmp → ((x y : X) → cmp x y ≡ Equal → x ≡ y) → Laws cmp
laws_from total exact = record {
  same = tied_itself total;
  equal = exact;
  flip = λ x y. total.antisymm y x;
  trans = total.trans;
}

pub number_laws : Laws number_order
number_laws = laws_from nat_cmp_total exact_unsigned
