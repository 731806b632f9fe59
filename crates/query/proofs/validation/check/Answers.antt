-- A query that no check refuses is well formed, and its table is one tree.
use Rattle.std.proofs.Common.{◌≡◌, OnOk, sym, subst, rules}
use Rattle.query.specs.First.{checked, first_refusal}
use Rattle.query.specs.WellFormed.{Accepted}
use Rattle.query.proofs.WellFormed.{on_checked, passed}
use Rattle.query.proofs.validation.check.Goals as goal

pub returns : goal.returns
returns c =
    let es = c.args.query.now.entries.now in
    let vs = c.args.query.now.values.now in
    let told = first_refusal es vs c.args.start.now c.args.row_places in
    let answers : c.ensure-9.result ≡ checked told = search rules in
    record {
      answers = answers;
      accepted = subst (λ r. OnOk r (Accepted es vs c.args.start.now c.args.row_places)) (sym answers) (on_checked told (passed es vs c.args.start.now c.args.row_places));
    }
