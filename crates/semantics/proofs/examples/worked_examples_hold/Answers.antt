-- Solutions, sizes of working sets, refusals and memories over a small graph.
use Rattle.semantics.proofs.Computed.{worked_examples}
use Rattle.semantics.proofs.examples.worked_examples_hold.Goals as goal

pub returns : goal.returns
returns c = worked_examples
