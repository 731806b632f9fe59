-- Shows what `take_out` does to the elements and to the spare places.
use Rattle.std.proofs.Common.{sym, refl, ◌∙◌, subst, rules, arith}
use Rattle.std.proofs.lemmas.List.{length-take-le}
use Rattle.order.specs.OrderedLists.{Ordered, elements}
use Rattle.order.specs.Sets.{Ascending}
use Rattle.order.proofs.Ascents.{ascending_without}
use Rattle.order.proofs.Changes.{leaving, removing}
use Rattle.order.proofs.Ranks.{located_ok}
use Rattle.order.proofs.list.OrderedList.take_out.Goals as goal

pub returns : goal.returns
returns g c =
    let laws = g.met.T.TotalOrder.lawful in
    let l = c.args.self.now in
    let xs = elements l in
    let count = length-take-le l.len l.places.now l.within in
    let at = c.in-Ok.at in
    let within = c.in-Ok.ensures.within in
    let after = leaving l.places.now c.copy_within.new.self l.len at c.args.blank (omega arith) (omega arith) c.copy_within.ensures.after in
    let removed = λ (h : Ordered g.T.TotalOrder.compare l). after.0 ∙ removing laws xs at c.args.x.now h (c.in-Ok.ensures.located h) in
    record {
      same = refl;
      size = search rules;
      ordered = λ h. subst (Ascending g.T.TotalOrder.compare) (sym (removed h)) (ascending_without laws c.args.x.now xs h);
      leaves = ((at, (within, after.0)), after.1);
      takes = λ h. ((located_ok laws c.args.x.now xs at (c.in-Ok.ensures.located h)).1, removed h, after.1);
    }
