use Rattle.std.proofs.Common.{length, sym, refl, subst₂}
use Rattle.graph.specs.Makes.{Ruled}
use Rattle.graph.specs.contracts.stored_graph.StoredGraphGraph.TheImpl.{ghosts as meaning}
use Rattle.history.specs.Courses.{emptied}
use Rattle.history.proofs.piles.agree_and_give_back.Goals as goal

pub returns-clause-log : goal.returns-clause-log
returns-clause-log g c =
    let new = c.new-graph.ensures in
    let graph = c.new-graph.result in
    let ran = c.run.ensures in
    let end = c.run.new.graph in
    let on = ran.course (emptied (length c.args.places.now)) new.history in
    let ruled = subst₂ (λ k s. Ruled k s (meaning.room graph) (meaning.full graph)) (sym new.make) (sym new.history) (meaning.ruled graph) in
    record {
      calls = ran.calls;
      answers = (meaning.room end, meaning.full end, on.answers new.make ruled);
      same = ran.same;
      reading = sym (on.reading _ refl);
      rows = sym (on.rows _ refl);
    }
