-- What a total order is: a three-way comparison with four laws. Assumes nothing.
-- In docs/RULES.md: Total order.
use Rattle.std.specs.Prelude.{◌≡◌}
use Rattle.std.specs.declared.cmp.Ordering.TheVariants.{Less, Equal, Greater}
use Rattle.std.specs.declared.cmp.Ordering.{Ordering}
use Rattle.std.specs.Ordering.{ordering_reverse}

-- only an element itself is equal to it; to turn the arguments round turns the answer round; and less than less is less
pub record Laws {X : Type 0} (compare : X → X → Ordering) : Type 0 where
  pub same : (x : X) → compare x x ≡ Equal
  pub equal : (x y : X) → compare x y ≡ Equal → x ≡ y
  pub flip : (x y : X) → compare y x ≡ ordering_reverse (compare x y)
  pub trans : (x y z : X) → compare x y ≡ Less → compare y z ≡ Less → compare x z ≡ Less

-- the first at `Less`, the second at `Equal`, the third at `Greater`
abbrev pub choose : {A : Type 0} → Ordering → A → A → A → A
choose Less a b c = a
choose Equal a b c = b
choose Greater a b c = c
