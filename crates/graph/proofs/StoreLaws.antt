-- Shows what the places of a stored graph hold: its elements, and empty places after them.
use Rattle.std.proofs.Common.{◌≡◌, ℕ, ◌-◌, true, List, ◌++◌, length, replicate, sym, ap, ◌∙◌}
use Rattle.std.proofs.lemmas.Bool.{eqb-true}
use Rattle.std.proofs.lemmas.List.{take-append-drop}
use Rattle.order.specs.OrderedLists.{elements, spare}
use Rattle.order.specs.declared.list.OrderedList.{OrderedList}
use Rattle.order.proofs.Holders.{free_places}
use Rattle.rdf.specs.Triples.{no_triple}
use Rattle.rdf.specs.declared.triple.Triple.{Triple}
use Rattle.graph.specs.Changes.{Change}
use Rattle.graph.specs.Makes.{no_room}
use Rattle.graph.specs.Reading.{then_empty}
use Rattle.graph.specs.declared.change.Change.TheVariants.{Add, Remove}

-- no place is found only where none is free
pub no_room_free : (free : ℕ) (c : Change) → no_room free c ≡ true → free ≡ 0
no_room_free free (Add t) e = eqb-true free 0 e
no_room_free free (Remove t) e = cc

pub placed : (l : OrderedList Triple) (s : List Triple) (n : ℕ) → spare l ≡ replicate (length (spare l)) no_triple → elements l ≡ s → length l.places.now ≡ n → l.places.now ≡ then_empty s n
placed l s n zeros e f =
    sym (take-append-drop l.len l.places.now)
    ∙ ap (λ v. elements l ++ v) (zeros ∙ ap (λ k. replicate k no_triple) (free_places l))
    ∙ ap (λ v. v ++ replicate (length l.places.now - length v) no_triple) e
    ∙ ap (λ k. s ++ replicate (k - length s) no_triple) f
