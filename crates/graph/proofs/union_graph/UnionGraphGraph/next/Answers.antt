-- Shows that the next triple of a union is the lesser of the two graphs' own.
use Rattle.std.proofs.Common.{sym, ◌∙◌, ap₂}
use Rattle.order.specs.Sets.{lesser}
use Rattle.order.proofs.Nexts.{above_insert_all}
use Rattle.rdf.specs.RdfOrders.{triple_laws}
use Rattle.rdf.specs.Triples.{compare_triples}
use Rattle.graph.proofs.union_graph.UnionGraphGraph.next.Goals as goal

pub returns : goal.returns
returns g c =
    let self = c.args.self.now in
    c.lesser_of.ensures
    ∙ ap₂ (lesser compare_triples) c.next.ensures c.next-2.ensures
    ∙ sym (above_insert_all triple_laws c.args.after (g.L.Graph.triples self.left) (g.R.Graph.triples self.right) (g.L.Graph.lawful self.left).ascending (g.R.Graph.lawful self.right).ascending)
