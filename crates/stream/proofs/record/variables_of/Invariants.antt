-- What the loop keeps: of the variables so far, the members are those whose bits are set.
use Rattle.std.proofs.Common.{◌≡◌, ◌&&◌, ltb}
use Rattle.rdf.specs.Variables.{bit, in_set}
use Rattle.rdf.specs.declared.variable.Variable.{Variable}
use Rattle.stream.proofs.record.variables_of.Given as goal

abbrev pub invariant-loop-v : goal.invariant-loop-v
invariant-loop-v l = (w : Variable) → in_set l.variables w ≡ (ltb w.0 l.v && bit l.mask w.0)
