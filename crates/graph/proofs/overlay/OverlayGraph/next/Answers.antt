-- Shows that the next triple is the lesser of the next new mark and the next unmarked triple beneath.
use Rattle.std.proofs.Common.{sym, ◌∙◌, ap₂}
use Rattle.order.specs.Sets.{difference, lesser}
use Rattle.order.proofs.Nexts.{above_insert_all}
use Rattle.order.proofs.SetOperations.{ascending_difference}
use Rattle.rdf.specs.RdfOrders.{triple_laws}
use Rattle.rdf.specs.Triples.{compare_triples}
use Rattle.graph.proofs.OverlayLaws.{first_new}
use Rattle.graph.proofs.overlay.OverlayGraph.next.Goals as goal

pub returns : goal.returns
returns g c =
    let self = c.args.self.now in
    let marks = self.marks in
    let base = g.G.Graph.triples self.base in
    c.lesser_of.ensures
    ∙ ap₂ (lesser compare_triples) (c.next_new.ensures ∙ first_new c.args.after marks base) c.next_kept.ensures
    ∙ sym (above_insert_all triple_laws c.args.after (difference compare_triples marks base) (difference compare_triples base marks)
    (ascending_difference triple_laws marks base self.lawful.ascending)
    (ascending_difference triple_laws base marks (g.G.Graph.lawful self.base).ascending))
