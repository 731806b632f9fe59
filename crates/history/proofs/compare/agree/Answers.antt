use Rattle.std.proofs.Common.{rules}
use Rattle.history.proofs.OutcomeLaws.{promised}
use Rattle.history.proofs.compare.agree.Goals as goal

pub returns : goal.returns
returns g c =
    let q = c.args.query.now in
    record {
      agreed =
          record {
            left = search rules;
            right = search rules;
            promise = promised q.entries.now q.values.now c.args.start.now _ _ _ _ _ _ _ _ _ _ _ _ (g.L.Graph.lawful c.args.left.now).members c.top_down.ensures c.bottom_up.ensures;
          };
    }
