-- What the loop keeps: the number so far with the digits that are left is the whole number, and the same follows it.
use Rattle.std.proofs.Common.{◌≡◌, Ok, length}
use Rattle.stream.specs.Numerals.{after_numeral, number_on}
use Rattle.stream.proofs.numbers.numeral.Given as goal

abbrev pub invariant-loop-byte : goal.invariant-loop-byte
invariant-loop-byte l = (number_on (Ok l.value) l.rest ≡ number_on (Ok 0) l.text) × (after_numeral l.rest ≡ after_numeral l.text)

abbrev pub decreases-loop-byte : goal.decreases-loop-byte
decreases-loop-byte l = length l.rest
