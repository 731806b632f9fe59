-- Shows that the two openings give the histories that the reading is told by.
use Rattle.std.proofs.Common.{length}
use Rattle.graph.specs.Histories.{emptied, listed}
use Rattle.graph_cases.proofs.histories.read_pair.Goals as goal

pub returns : goal.returns
returns c =
    let stored = emptied (length c.args.places.now) in
    let list = listed c.args.entries.now in
    record {
      count = c.read_over.ensures.count stored list c.new-stored.ensures.history c.new-list.ensures.history;
      memory = c.read_over.ensures.memory stored list c.new-stored.ensures.history c.new-list.ensures.history;
    }
