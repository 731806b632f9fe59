-- The first fault among the digits is the whole number's.
use Rattle.std.proofs.Common.{◌<◌, length, Err, sym, ap, ◌∙◌, arith, false-eqb}
use Rattle.std.proofs.lemmas.Result.{err_from_is_err_and}
use Rattle.stream.specs.Numerals.{number_on, read_value}
use Rattle.stream.proofs.Lexing.{digit_read, fault_stays, numeral_there}
use Rattle.stream.proofs.numbers.numeral.Goals as goal

pub returns-in_err-value-clause-value : goal.returns-in_err-value-clause-value
returns-in_err-value-clause-value c =
    let text = c.args.text.now in
    let after = c.in-Some.after.now in
    let some : 0 < length text = omega (arith, false-eqb (length text) 0 c.if-is_empty.ensures) in
    let read = digit_read c.loop-byte.rest.now c.in-Some.byte.now after c.loop-byte.value c.in-Some.ensures.cases.0 (sym c.if-is_blank.ensures) in
    let p = err_from_is_err_and c.from_residual.result c.from_residual.ensures.1 in
    let cause = c.in_err-value.field-0.0 in
    let fault = read ∙ ap (λ r. number_on r after) (sym c.with_digit.ensures ∙ c.in_err-value.was) ∙ fault_stays cause after in
    ap read_value p.1 ∙ ap Err p.2 ∙ sym fault ∙ c.loop-byte.invariant.0 ∙ sym (numeral_there text some)
