-- Memory that is lent to questions. Assumes nothing.
use Rattle.std.specs.Prelude.{◌≡◌, length}
use Rattle.history.specs.declared.memory.Memory.{Memory}

-- the same places, whatever they hold
pub record SamePlaces (m n : Memory) : Type 0 where
  pub reading : n.reading.ghost_name ≡ m.reading.ghost_name
  pub rows : n.rows.ghost_name ≡ m.rows.ghost_name
  pub reading_size : length n.reading.now ≡ length m.reading.now
  pub row_size : length n.rows.now ≡ length m.rows.now
