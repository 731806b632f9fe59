-- What the loop keeps: so many triples of the set are read; each turn leaves fewer.
use Rattle.std.proofs.Common.{◌-◌, length}
use Rattle.graph.proofs.ReadingLaws.{ReadSoFar}
use Rattle.graph.proofs.reading.read_all.Given as goal

abbrev pub invariant-loop-triple : goal.invariant-loop-triple
invariant-loop-triple g l = ReadSoFar (g.G.Graph.triples l.graph) (length l.initial.memory) l.memory l.last l.count

abbrev pub decreases-loop-triple : goal.decreases-loop-triple
decreases-loop-triple g l = length (g.G.Graph.triples l.graph) - l.count
