-- The orders of terms, triples and rows keep the laws. Assumes nothing.
use Rattle.std.specs.Prelude.{◌≡◌, Bool, Decides}
use Rattle.std.proofs.Common.{ap, sym, ◌∙◌}
use Rattle.std.specs.Cmp.{Equal-is, IsEquivalence, decided}
use Rattle.std.specs.Ordering.{is_eq}
use Rattle.order.specs.Order.{Laws}
use Rattle.rdf.specs.Terms.{compare_terms}
use Rattle.rdf.specs.Triples.{compare_triples}
use Rattle.rdf.specs.Rows.{compare_rows}
use Rattle.rdf.specs.declared.term.Term.{Term}
use Rattle.rdf.specs.declared.triple.Triple.{Triple}
use Rattle.rdf.specs.declared.row.Row.{Row}
use Rattle.order.proofs.Orders.{number_laws, laws_by, laws_then, list_laws}

pub term_laws : Laws compare_terms
term_laws = laws_by number_laws (λ (x : Term). x.0) (λ x y e. λ i. record { 0 = e i })

pub triple_laws : Laws compare_triples
triple_laws =
    laws_by (laws_then term_laws (laws_then term_laws term_laws))
    (λ (x : Triple). (x.subject, (x.predicate, x.object)))
    (λ x y e. λ i. record { subject = (e i).0; predicate = (e i).1.0; object = (e i).1.1 })

pub row_laws : Laws compare_rows
row_laws = laws_by (list_laws term_laws) (λ (x : Row). x.places) (λ x y e. λ i. record { places = e i })

-- the two rows are one
abbrev pub same_row : Row → Row → Bool
same_row x y = is_eq (compare_rows x y)

pub same_row_decides : (x y : Row) → Decides (same_row x y) (x ≡ y)
same_row_decides x y =
    let told = Equal-is (compare_rows x y) in
    (λ e. row_laws.equal x y (told.0 e), λ e. told.1 (ap (compare_rows x) (sym e) ∙ row_laws.same x))

pub same_row_equivalence : IsEquivalence same_row
same_row_equivalence = decided same_row same_row_decides
