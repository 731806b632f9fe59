-- The bit of the new member is set, and the others stay.
use Rattle.std.proofs.Common.{◌*◌, ◌^◌, ◌%◌, ◌<◌, ◌||◌, ◌&&◌, eqb, w16, sym, ap, ◌∙◌, ⊎_elim, arith}
use Rattle.std.proofs.lemmas.Bool.{leb-true, cases_eq, eq-eqb, ne_eqb}
use Rattle.std.proofs.lemmas.Nat.Bits.{bit_at_set_same, bit_at_set_other}
use Rattle.std.specs.Int.RustNames.{bit_or}
use Rattle.rdf.specs.Variables.{bit}
use Rattle.rdf.proofs.variable.VariableSet.with.Goals as goal

pub returns-then-is_in_range : goal.returns-then-is_in_range
returns-then-is_in_range c = λ w.
    let n = c.args.self.0 in
    let v = c.args.variable.0 in
    let within : v < 16 = let small = leb-true v 15 (sym c.if-is_in_range.ensures) in omega arith in
    ⊎_elim
    (λ same. ap (bit (bit_or n (1 * 2 ^ v % 2 ^ 16))) same ∙ ap (λ m. eqb m 1) (bit_at_set_same w16 n v within) ∙ ap (λ b. b || bit n w.0) (sym (eq-eqb w.0 v same)))
    (λ other. ap (λ m. eqb m 1) (bit_at_set_other w16 n v within w.0 other) ∙ ap (λ b. b || bit n w.0) (sym (ne_eqb w.0 v other)))
    (cases_eq w.0 v) ∙ ap (λ b. (b && eqb w.0 v) || bit n w.0) c.if-is_in_range.ensures
