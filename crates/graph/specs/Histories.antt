-- The account of a graph: the set that its opening and the calls since come to, by whether each was accepted. Assumes nothing.
-- In docs/RULES.md: Triple list; History; Account.
use Rattle.std.specs.Prelude.{ℕ, Bool, cond, List, [], filter}
use Rattle.order.specs.Sets.{ascend, insert_all}
use Rattle.rdf.specs.Triples.{compare_triples, is_triple}
use Rattle.rdf.specs.declared.triple.Triple.{Triple}
use Rattle.graph.specs.Changes.{Change, changed}
use Rattle.graph.specs.Makes.{Make, stored, overlaid, read_only}

-- a call, by all that an account is told of it
pub data Event : Type 0 where
  -- a change, and whether it was accepted
  change_called : Change → Bool → Event
  -- any other call, answered or refused
  asked : Event

-- how a graph was opened, and the calls on it and on its parts since
pub data History : Type 0 where
  -- a graph of any make, which meant this set when it was opened
  opened : Make → List Triple → History
  -- a list of these entries
  listed : List Triple → History
  -- a stored graph of so many places, which were emptied
  emptied : ℕ → History
  -- an overlay without marks, laid over a graph
  laid_over : History → History
  -- a graph sealed against changes
  sealed : History → History
  -- two graphs joined
  joined : History → History → History
  -- one more call
  then_called : History → Event → History

-- the set of those entries that are triples
abbrev pub set_of : List Triple → List Triple
set_of entries = ascend compare_triples (filter is_triple entries)

-- the set s after an event
abbrev pub recorded : Event → List Triple → List Triple
recorded (change_called c accepted) s = cond accepted (changed c s) s
recorded asked s = s

abbrev pub account : History → List Triple
account (opened k s) = s
account (listed entries) = set_of entries
account (emptied n) = []
account (laid_over h) = account h
account (sealed h) = account h
account (joined h k) = insert_all compare_triples (account h) (account k)
account (then_called h e) = recorded e (account h)

-- what the history says of the graph's make
abbrev pub make_of : History → Make
make_of (opened k s) = k
make_of (listed entries) = read_only
make_of (emptied n) = stored n
make_of (laid_over h) = overlaid (account h)
make_of (sealed h) = read_only
make_of (joined h k) = read_only
make_of (then_called h e) = make_of h
