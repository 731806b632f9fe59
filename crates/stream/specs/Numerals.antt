-- Numbers written as decimal digits, between blanks and line feeds. A text is the list of its bytes. Assumes nothing.
use Rattle.std.specs.Prelude.{ℕ, ◌+◌, ◌-◌, ◌*◌, Bool, cond, ◌&&◌, ◌||◌, List, [], ◌∷◌, Ok, Err, Result, ◌==◌, nat_le}
use Rattle.stream.specs.declared.fault.Cause.{Cause}
use Rattle.stream.specs.declared.fault.Cause.TheVariants.{Byte, End, TooLarge}

-- a blank or a line feed
abbrev pub is_blank : ℕ → Bool
is_blank b = b == 32 || b == 10

abbrev pub is_digit : ℕ → Bool
is_digit b = nat_le 48 b && nat_le b 57

abbrev pub after_blanks : List ℕ → List ℕ
after_blanks [] = []
after_blanks (b ∷ bs) = cond (is_blank b) (after_blanks bs) (b ∷ bs)

-- a number with one more digit at its end, where it stays below 2 ^ 32
abbrev pub with_digit : ℕ → ℕ → Result ℕ Cause
with_digit n b = cond (is_digit b) (cond (nat_le (n * 10 + (b - 48)) 4294967295) (Ok (n * 10 + (b - 48))) (Err TooLarge)) (Err (Byte b))

-- the number whose first digits are those of n, and whose other digits begin a text; the first fault stays
abbrev pub number_on : Result ℕ Cause → List ℕ → Result ℕ Cause
number_on so_far [] = so_far
number_on (Ok n) (b ∷ bs) = cond (is_blank b) (Ok n) (number_on (with_digit n b) bs)
number_on (Err cause) (b ∷ bs) = Err cause

-- the number that begins a text
abbrev pub numeral : List ℕ → Result ℕ Cause
numeral [] = Err End
numeral (b ∷ bs) = number_on (Ok 0) (b ∷ bs)

-- what follows a number that begins a text
abbrev pub after_numeral : List ℕ → List ℕ
after_numeral [] = []
after_numeral (b ∷ bs) = cond (is_blank b) (b ∷ bs) (after_numeral bs)

-- the first number of a text, and what follows it
abbrev pub first_number : List ℕ → Result ℕ Cause
first_number bs = numeral (after_blanks bs)

abbrev pub after_first : List ℕ → List ℕ
after_first bs = after_numeral (after_blanks bs)

-- the number of a number with what follows it
abbrev pub read_value : {X : Type 0} → Result (ℕ × X) Cause → Result ℕ Cause
read_value (Ok read) = Ok read.0
read_value (Err cause) = Err cause
