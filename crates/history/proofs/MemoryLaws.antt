-- The first places of a memory, as many as are asked for and at most all; and memory that is lent twice.
use Rattle.std.proofs.Common.{◌≡◌, ℕ, min, List, length, take, drop, sym, ap, ◌∙◌}
use Rattle.std.proofs.lemmas.List.{length-take}
use Rattle.order.proofs.Parts.{take_count, drop_count}
use Rattle.history.specs.declared.memory.Memory.{Memory}
use Rattle.history.specs.Memories.{SamePlaces}

module _ {X : Type 0} (memory : List X) (n k : ℕ) (e : k ≡ min n (length memory)) where
  pub first_taken : take k memory ≡ take n memory
  first_taken = take_count memory n k (e ∙ sym (length-take n memory))

  pub others_left : drop k memory ≡ drop n memory
  others_left = drop_count memory n k (e ∙ sym (length-take n memory))

  pub as_many : length (take k memory) ≡ min n (length memory)
  as_many = ap length first_taken ∙ length-take n memory

pub same_on : (m l n : Memory) → SamePlaces m l → SamePlaces l n → SamePlaces m n
same_on m l n x y =
    record {
      reading = y.reading ∙ x.reading;
      rows = y.rows ∙ x.rows;
      reading_size = y.reading_size ∙ x.reading_size;
      row_size = y.row_size ∙ x.row_size;
    }
