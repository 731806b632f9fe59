-- The sizes that are listed for a question are those of the sets that are worked out for it.
use Rattle.semantics.proofs.WorkedOut.{sizes_are_of_sets}
use Rattle.semantics.proofs.laws.working_sets_law.Goals as goal

pub returns : goal.returns
returns c = sizes_are_of_sets
