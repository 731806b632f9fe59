-- Shows that what is read is the account: the openings and the change each carry it on.
use Rattle.std.proofs.Common.{length, sym, ap, ◌∙◌}
use Rattle.graph.specs.Histories.{laid_over, joined}
use Rattle.graph.specs.Reading.{read_count, read_places}
use Rattle.graph_cases.proofs.histories.read_over.Goals as goal

pub returns : goal.returns
returns g c =
    let size = length c.args.memory.now in
    record {
      count = λ h k p q.
          c.read_all-count.ensures.count
          ∙ ap (λ s. read_count s size) (sym (c.add-change.ensures.applied.history (laid_over (joined h k)) (c.new-overlay.ensures.history (joined h k) (c.new.ensures.history h k p q))));
      memory = λ h k p q.
          c.read_all-count.ensures.memory
          ∙ ap (λ s. read_places s size) (sym (c.add-change.ensures.applied.history (laid_over (joined h k)) (c.new-overlay.ensures.history (joined h k) (c.new.ensures.history h k p q))));
    }
