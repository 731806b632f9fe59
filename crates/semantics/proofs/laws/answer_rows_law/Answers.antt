-- The rows that a question answers are rows: sixteen places, each 0 or a term.
use Rattle.semantics.proofs.Wellformed.{answers_are_rows}
use Rattle.semantics.proofs.laws.answer_rows_law.Goals as goal

pub returns : goal.returns
returns c = answers_are_rows
