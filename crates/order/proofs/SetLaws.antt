-- Shows that strictly ascending lists over any total order have the laws of sets. Assumes nothing.
use Rattle.std.proofs.Common.{◌≡◌, ◌-◌, cond, ◌&&◌, List, length, Some, None, Option, Ordering, refl, ap, ◌∙◌, arith}
use Rattle.std.proofs.lemmas.Bool.{both_ways}
use Rattle.std.specs.Ordering.{is_lt}
use Rattle.order.specs.Order.{Laws}
use Rattle.order.specs.Sets.{Ascending, IsAbove, holds, without}
use Rattle.order.specs.SetLaws.{SetLaws}
use Rattle.order.proofs.Comparing.{by_bool, by_order, greater_not_le, less_turned}
use Rattle.order.proofs.Ascents.{above_is, ascend_same, ascending_ascend, ascending_insert, ascending_kept, ascending_without, holds_ascend, holds_insert, holds_kept, holds_without, length_insert, length_members, same_members, without_absent}
use Rattle.order.proofs.InsertAll.{ascending_insert_all, holds_insert_all}
use Rattle.order.proofs.Nexts.{above_insert_all}
use Rattle.order.proofs.SetOperations.{ascending_difference, ascending_symmetric_difference, holds_difference, holds_symmetric_difference, length_without, marks_back, not_same}

module _ {X : Type 0} {cmp : X → X → Ordering} (laws : Laws cmp) where
  above_only : (x : X) (s : List X) (o p : Option X) → IsAbove cmp x s o → IsAbove cmp x s p → o ≡ p
  above_only x s None None h k = refl
  above_only x s None (Some z) h k = absurd (both_ways (is_lt (cmp x z)) (h z k.1) (ap is_lt k.0))
  above_only x s (Some y) None h k = absurd (both_ways (is_lt (cmp x y)) (k y h.1) (ap is_lt h.0))
  above_only x s (Some y) (Some z) h k =
      by_order (cmp y z)
      (λ e. greater_not_le (cmp z y) (less_turned laws y z e) (k.2 y h.1 h.0))
      (λ e. ap Some (laws.equal y z e))
      (λ e. greater_not_le (cmp y z) e (h.2 z k.1 k.0))

  fewer : (x : X) (s : List X) → Ascending cmp s → length (without cmp x s) ≡ cond (holds cmp x s) (length s - 1) (length s)
  fewer x s h =
      by_bool (holds cmp x s)
      (λ b. rw b (omega (arith, length_without laws x s h b)))
      (λ b. rw b (ap length (without_absent laws x s b)))

  pub set_laws : SetLaws cmp
  set_laws = record {
    by_members = same_members laws;
    no_longer = length_members laws;
    ascending_insert = ascending_insert laws;
    ascending_without = ascending_without laws;
    ascending_filter = ascending_kept laws;
    ascending_union = λ s t h k. ascending_insert_all laws s t k;
    ascending_difference = λ s t h k. ascending_difference laws s t h;
    ascending_symmetric_difference = λ s t h k. ascending_symmetric_difference laws s t k;
    ascending_ascend = ascending_ascend laws;
    holds_insert = holds_insert laws;
    holds_without = λ z x s. holds_without laws z x s ∙ ap (λ b. b && holds cmp z s) (not_same laws x z);
    holds_filter = λ z test s. holds_kept laws test z s;
    holds_union = holds_insert_all laws;
    holds_difference = holds_difference laws;
    holds_symmetric_difference = holds_symmetric_difference laws;
    holds_ascend = holds_ascend laws;
    ascend_same = ascend_same laws;
    back = marks_back laws;
    length_insert = length_insert laws;
    length_without = fewer;
    above_is = above_is laws;
    above_only = above_only;
    above_union = above_insert_all laws;
  }
