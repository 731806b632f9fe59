-- Each turn goes on with the numbers of one place.
use Rattle.std.proofs.Common.{◌≡◌, refl, subst, rules}
use Rattle.std.proofs.lemmas.Fn.{fold_over, slice_gives, fronts}
use Rattle.stream.specs.Answers.{reading_sum, triple_numbers}
use Rattle.stream.proofs.Summing.{sum_more}
use Rattle.stream.proofs.answers.reading_sum.Goals as goal

pub returns : goal.returns
returns c = subst (λ l. c.fold.result ≡ reading_sum l) c.iter.ensures.rest
    (fold_over fronts (λ y. y.now) _ (λ ys n. n ≡ reading_sum ys) _ (λ ys a x b f' j k. let more = sum_more triple_numbers ys x.now in search rules)
    _ _ _ _ (slice_gives c.iter.result) refl c.fold.ensures.ran)
