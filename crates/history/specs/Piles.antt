-- The courses of two piles of graphs. Assumes nothing.
use Rattle.std.specs.Prelude.{ℕ, List, take, drop}
use Rattle.rdf.specs.declared.triple.Triple.{Triple}
use Rattle.history.specs.declared.step.Step.{Step}
use Rattle.history.specs.Courses.{Course, joined, laid_over, listed, since}

-- an overlay over a list, and the calls on the overlay
abbrev pub layer : List Triple → List Step → Course
layer entries log = since (laid_over (listed entries)) log

-- such an overlay, joined with a list, beneath an overlay: the first steps are the calls on the one beneath, the others those on top
abbrev pub layers : List Triple → List Triple → ℕ → List Step → Course
layers entries others split log = since (laid_over (joined (layer entries (take split log)) (listed others))) (drop split log)
