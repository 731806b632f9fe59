-- What the loop keeps: the triples so far are the first of the set; each turn leaves fewer.
use Rattle.std.proofs.Common.{◌-◌, length, vec_items, vec_len}
use Rattle.stream.proofs.Collecting.{Collected}
use Rattle.stream.proofs.case.all_triples.Given as goal

abbrev pub invariant-loop-triple : goal.invariant-loop-triple
invariant-loop-triple g l = Collected (g.G.Graph.triples l.graph) (vec_items l.triples) l.last (vec_len l.triples)

abbrev pub decreases-loop-triple : goal.decreases-loop-triple
decreases-loop-triple g l = length (g.G.Graph.triples l.graph) - vec_len l.triples
