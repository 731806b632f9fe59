use Rattle.std.proofs.Common.{◌≡◌, map, length, take}
use Rattle.history.specs.Memories.{SamePlaces}
use Rattle.history.specs.Runs.{Runs}
use Rattle.history.proofs.run.run.Given as goal

abbrev pub invariant-loop-step : goal.invariant-loop-step
invariant-loop-step g l =
    let graph = g.G.Graph in
    let edit = g.G.EditableGraph in
    let memory = l.initial.memory in
    (map (λ x. x.call) l.log ≡ map (λ x. x.call) l.initial.log)
    × SamePlaces memory l.memory
    × Runs graph.make graph.triples graph.room graph.full edit.frame edit.unaltered (length memory.reading.now) (length memory.rows.now) l.initial.graph memory (take l.step-index l.log) l.graph l.memory
