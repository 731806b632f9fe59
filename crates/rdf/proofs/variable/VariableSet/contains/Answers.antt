-- A variable without a place is in no set.
use Rattle.std.proofs.Common.{eqb, sym, ap, ◌∙◌, arith}
use Rattle.std.proofs.lemmas.Bool.{leb-false}
use Rattle.std.proofs.lemmas.Nat.Bits.{bit_at_above}
use Rattle.rdf.proofs.variable.VariableSet.contains.Goals as goal

pub returns-else-is_in_range : goal.returns-else-is_in_range
returns-else-is_in_range c =
    let v = c.args.variable.0 in
    c.if-is_in_range.false ∙ sym (ap (λ m. eqb m 1) (bit_at_above c.args.self.0 16 v (omega arith) (leb-false v 15 (sym c.if-is_in_range.ensures))))
