-- Each turn goes on with the numbers of one row.
use Rattle.std.proofs.Common.{◌≡◌, refl, subst, rules}
use Rattle.std.proofs.lemmas.Fn.{fold_over, slice_gives, fronts}
use Rattle.stream.specs.Answers.{row_numbers, row_sum}
use Rattle.stream.proofs.Summing.{sum_more}
use Rattle.stream.proofs.answers.row_sum.Goals as goal

pub returns : goal.returns
returns c = subst (λ l. c.fold.result ≡ row_sum l) c.iter.ensures.rest
    (fold_over fronts (λ y. y.now) _ (λ ys n. n ≡ row_sum ys) _ (λ ys a x b f' j k. let more = sum_more row_numbers ys x.now in search rules)
    _ _ _ _ (slice_gives c.iter.result) refl c.fold.ensures.ran)
