-- Shows what `put` does to the elements and to the spare places.
use Rattle.std.proofs.Common.{sym, refl, ◌∙◌, subst, length-drop, rules, arith}
use Rattle.std.proofs.lemmas.List.{length-take-le}
use Rattle.order.specs.OrderedLists.{Ordered, elements}
use Rattle.order.specs.Sets.{Ascending}
use Rattle.order.proofs.Ascents.{ascending_insert}
use Rattle.order.proofs.Changes.{entering, inserting}
use Rattle.order.proofs.Ranks.{located_err}
use Rattle.order.proofs.list.OrderedList.put.Goals as goal

pub returns : goal.returns
returns g c =
    let laws = g.met.T.TotalOrder.lawful in
    let l = c.args.self.now in
    let xs = elements l in
    let count = length-take-le l.len l.places.now l.within in
    let at = c.in-Err.at in
    let within = c.in-Err.ensures.within in
    let spare = length-drop l.len l.places.now in
    let after = entering l.places.now c.raise.new.places l.len at c.args.x (omega arith) (omega arith) c.raise.ensures in
    let inserted = λ (h : Ordered g.T.TotalOrder.compare l). after.0 ∙ inserting laws xs at c.args.x (c.in-Err.ensures.located h) in
    record {
      same = refl;
      size = search rules;
      ordered = λ h. subst (Ascending g.T.TotalOrder.compare) (sym (inserted h)) (ascending_insert laws c.args.x xs h);
      enters = ((at, (within, after.0)), omega arith, after.1);
      puts = λ h. ((located_err laws c.args.x xs at (c.in-Err.ensures.located h)).1, omega arith, inserted h, after.1);
    }
