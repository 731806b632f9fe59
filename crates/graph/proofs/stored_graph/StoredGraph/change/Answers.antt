-- Shows what a change comes to on a stored graph: without effect, and where it is carried out.
use Rattle.std.proofs.Common.{◌≡◌, ◌-◌, ◌<◌, true, false, length, sym, refl, ◌∙◌, subst, arith}
use Rattle.std.proofs.lemmas.Bool.{ne_eqb, not-true}
use Rattle.order.specs.Lists.{every}
use Rattle.order.specs.OrderedLists.{elements, spare}
use Rattle.order.proofs.Holders.{free_places, fewer_blank, more_blank, put_in, taken_out}
use Rattle.order.proofs.SetOperations.{every_insert, every_without}
use Rattle.rdf.specs.RdfOrders.{triple_laws}
use Rattle.rdf.specs.Triples.{TripleSet, compare_triples, is_triple, no_triple}
use Rattle.graph.specs.Makes.{no_room}
use Rattle.graph.proofs.AppliedLaws.{carried_out, no_effect, same_set, told_effect}
use Rattle.graph.proofs.StoreLaws.{no_room_free, placed}
use Rattle.graph.proofs.stored_graph.StoredGraph.change.Goals as goal

pub returns-then-not-branch-clause-applied : goal.returns-then-not-branch-clause-applied
returns-then-not-branch-clause-applied c =
    let self = c.args.self.now in
    let set = elements self.list in
    let free = length self.list.places.now - length set in
    let told = told_effect c.args.change set _ c.in_ok-has_effect.ensures in
    let lawful : TripleSet set = record { ascending = self.ordered; members = self.members } in
    no_effect c.args.change (no_room free c.args.change) set free (no_room_free free c.args.change) told.0 (told.1 ∙ c.if-not-branch.true) lawful

pub returns-then-not-branch-clause-places : goal.returns-then-not-branch-clause-places
returns-then-not-branch-clause-places c =
    let self = c.args.self.now in
    let set = elements self.list in
    let told = told_effect c.args.change set _ c.in_ok-has_effect.ensures in
    let lawful : TripleSet set = record { ascending = self.ordered; members = self.members } in
    placed self.list _ _ self.zeros (same_set c.args.change set lawful (told.1 ∙ c.if-not-branch.true)) refl

pub invariant_of-self : goal.invariant_of-self
invariant_of-self c =
    let self = c.args.self.now in
    let t = c.in-Add.triple in
    let told = told_effect c.args.change (elements self.list) _ c.in_ok-has_effect.ensures in
    let room : 0 < length (spare self.list) = omega (arith, c.free.ensures, c.if-free-eq0.false, free_places self.list) in
    let absent = not-true _ (rw c.in-Add.is at (told.1 ∙ c.if-not-branch.false)) in
    let made = put_in compare_triples t self.list c.put-made.new.self c.put-made.result absent room (c.put-made.ensures.puts self.ordered) in
    let members = every_insert triple_laws is_triple t (elements self.list) (rw c.in-Add.is at told.0) self.members in
    record { ordered = c.put-made.ensures.ordered self.ordered; members = subst (λ s. every is_triple s ≡ true) (sym made.0) members; zeros = fewer_blank no_triple (spare self.list) _ made.1 self.zeros }

pub invariant_of-self-in-Remove : goal.invariant_of-self-in-Remove
invariant_of-self-in-Remove c =
    let self = c.args.self.now in
    let t = c.in-Remove.triple in
    let told = told_effect c.args.change (elements self.list) _ c.in_ok-has_effect.ensures in
    let held = rw c.in-Remove.is at (told.1 ∙ c.if-not-branch.false) in
    let gone = taken_out compare_triples t self.list c.take_out-taken.new.self no_triple c.take_out-taken.result held (c.take_out-taken.ensures.takes self.ordered) in
    let members = every_without triple_laws is_triple t (elements self.list) self.members in
    record { ordered = c.take_out-taken.ensures.ordered self.ordered; members = subst (λ s. every is_triple s ≡ true) (sym gone.0) members; zeros = more_blank no_triple (spare self.list) _ gone.1 self.zeros }

pub returns-else-free-eq0-clause-applied : goal.returns-else-free-eq0-clause-applied
returns-else-free-eq0-clause-applied c =
    let self = c.args.self.now in
    let end = c.put-made.new.self in
    let t = c.in-Add.triple in
    let free = length self.list.places.now - length (elements self.list) in
    let told = told_effect c.args.change (elements self.list) _ c.in_ok-has_effect.ensures in
    let some = told.1 ∙ c.if-not-branch.false in
    let room : 0 < length (spare self.list) = omega (arith, c.free.ensures, c.if-free-eq0.false, free_places self.list) in
    let absent = not-true _ (rw c.in-Add.is at some) in
    let made = put_in compare_triples t self.list end c.put-made.result absent room (c.put-made.ensures.puts self.ordered) in
    let left : no_room free c.args.change ≡ false = rw c.in-Add.is (ne_eqb free 0 (λ e. omega (arith, free_places self.list))) in
    carried_out c.args.change (no_room free c.args.change) (elements self.list) free (no_room_free free c.args.change) (elements end) _ told.0 some left (rw c.in-Add.is made.0)

pub returns-in-Remove-clause-places : goal.returns-in-Remove-clause-places
returns-in-Remove-clause-places c =
    let self = c.args.self.now in
    let t = c.in-Remove.triple in
    let told = told_effect c.args.change (elements self.list) _ c.in_ok-has_effect.ensures in
    let held = rw c.in-Remove.is at (told.1 ∙ c.if-not-branch.false) in
    let gone = taken_out compare_triples t self.list c.take_out-taken.new.self no_triple c.take_out-taken.result held (c.take_out-taken.ensures.takes self.ordered) in
    placed c.take_out-taken.new.self _ _ (more_blank no_triple (spare self.list) _ gone.1 self.zeros) (rw c.in-Remove.is gone.0) c.take_out-taken.ensures.size
