-- FILTER by EXISTS of the current row joined with a pattern that ignores it keeps the rows that have a partner.
use Rattle.semantics.proofs.Ignoring.{exists_is_agreement}
use Rattle.semantics.proofs.laws.exists_law.Goals as goal

pub returns : goal.returns
returns c = exists_is_agreement
