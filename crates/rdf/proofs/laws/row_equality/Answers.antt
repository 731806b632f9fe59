-- The rows are one where their places are.
use Rattle.std.proofs.Common.{◌≡◌, Decides, ap}
use Rattle.std.proofs.lemmas.Bool.Decides.{Decides-eqb, same_from_decides}
use Rattle.std.proofs.lemmas.Slice.Eq.{slice_eq-Decides}
use Rattle.rdf.specs.RdfOrders.{same_row, same_row_decides}
use Rattle.rdf.specs.declared.row.Row.{Row}
use Rattle.rdf.specs.declared.term.Term.{Term}
use Rattle.rdf.proofs.RowLaws.{same_number, same_places}
use Rattle.rdf.proofs.laws.row_equality.Goals as goal

pub returns : goal.returns
returns c =
    let a = c.args.left.now in
    let b = c.args.right.now in
    let places = slice_eq-Decides (λ t u. (λ e. same_number t u ((Decides-eqb t.0 u.0).0 e), λ e. (Decides-eqb t.0 u.0).1 (ap (λ (t : Term). t.0) e))) a.places b.places c.eq.result c.eq.ensures in
    let told : Decides c.eq.result (a ≡ b) = (λ e. same_places a b (places.0 e), λ e. places.1 (ap (λ (r : Row). r.places) e)) in
    record { compared = same_from_decides c.eq.result (same_row a b) told (same_row_decides a b); decides = told }
