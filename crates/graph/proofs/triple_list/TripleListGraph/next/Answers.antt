-- Shows that the least of the entries above the given numbers is the least of the set.
use Rattle.std.proofs.Common.{None, ◌∙◌}
use Rattle.graph.proofs.ScanLaws.{fold_passed, fold_scan}
use Rattle.graph.proofs.triple_list.TripleListGraph.next.Goals as goal

pub returns : goal.returns
returns c = c.least_above.ensures ∙ fold_passed c.args.after c.args.self.now.entries.now ∙ fold_scan c.args.after None c.args.self.now.entries.now
