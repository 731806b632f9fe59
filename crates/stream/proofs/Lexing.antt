-- Shows that a text is cut where its blanks end, and that a number is read byte by byte.
use Rattle.std.proofs.Common.{◌≡◌, ℕ, suc, ◌+◌, ◌<◌, Bool, true, false, cond, List, [], ◌∷◌, length, drop, Ok, Err, refl, ap, ◌∙◌, arith}
use Rattle.std.specs.List.{prefix_len, take_while}
use Rattle.std.proofs.lemmas.Bool.{cond-false}
use Rattle.std.proofs.lemmas.List.Folds.{length-prefix_len}
use Rattle.stream.specs.Numerals.{after_blanks, is_blank, number_on, numeral, with_digit}
use Rattle.stream.specs.declared.fault.Cause.{Cause}

one_more : (n : ℕ) → 1 + n ≡ suc n
one_more n = omega arith

blanks_cut : (bs : List ℕ) → drop (prefix_len is_blank bs) bs ≡ after_blanks bs
blanks_cut [] = refl
blanks_cut (b ∷ bs) = at (is_blank b) (blanks_cut bs)
  where
    at : (c : Bool) → drop (prefix_len is_blank bs) bs ≡ after_blanks bs → drop (cond c (1 + prefix_len is_blank bs) 0) (b ∷ bs) ≡ cond c (after_blanks bs) (b ∷ bs)
    at true more = ap (λ n. drop n (b ∷ bs)) (one_more (prefix_len is_blank bs)) ∙ more
    at false more = refl

pub fault_stays : (cause : Cause) (bs : List ℕ) → number_on (Err cause) bs ≡ Err cause
fault_stays cause [] = refl
fault_stays cause (b ∷ bs) = refl

pub numeral_there : (bs : List ℕ) → 0 < length bs → numeral bs ≡ number_on (Ok 0) bs
numeral_there [] lt = absurd (omega arith)
numeral_there (b ∷ bs) lt = refl

-- n bytes of a text are its blanks
pub after_cut : (text : List ℕ) (n : ℕ) → n ≡ length (take_while is_blank text) → drop n text ≡ after_blanks text
after_cut text n e = ap (λ i. drop i text) (e ∙ length-prefix_len is_blank text) ∙ blanks_cut text

-- a digit stands before the rest of a text
pub digit_read : (text : List ℕ) (b : ℕ) (after : List ℕ) (n : ℕ) → text ≡ b ∷ after → is_blank b ≡ false → number_on (Ok n) text ≡ number_on (with_digit n b) after
digit_read text b after n first h = ap (number_on (Ok n)) first ∙ cond-false _ _ _ h
