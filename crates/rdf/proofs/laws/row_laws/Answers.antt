-- The laws of rows hold.
use Rattle.rdf.proofs.Places.{rows_by_place}
use Rattle.rdf.proofs.laws.row_laws.Goals as goal

pub returns : goal.returns
returns c = rows_by_place
