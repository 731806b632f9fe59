-- Triples: which three numbers are one, and their order. Assumes nothing.
-- In docs/RULES.md: Triples; Triple order; Sets of triples.
use Rattle.std.specs.Prelude.{◌≡◌, Bool, true, ◌&&◌, ◌||◌, List}
use Rattle.std.specs.declared.cmp.Ordering.{Ordering}
use Rattle.std.specs.Ordering.{ordering_then}
use Rattle.order.specs.Lists.{every}
use Rattle.order.specs.Sets.{Ascending, ascends}
use Rattle.rdf.specs.declared.triple.Triple.{Triple}
use Rattle.rdf.specs.Terms.{compare_terms, is_blank, is_identifier, is_term, unbound}

-- a subject is an identifier or a blank node, a predicate an identifier, an object any term
abbrev pub is_triple : Triple → Bool
is_triple t = (is_identifier t.subject || is_blank t.subject) && is_identifier t.predicate && is_term t.object

-- what an empty place of lent memory holds
abbrev pub no_triple : Triple
no_triple = record { subject = unbound; predicate = unbound; object = unbound }

-- by subject, then predicate, then object, as numbers
abbrev pub compare_triples : Triple → Triple → Ordering
compare_triples t u = ordering_then (compare_terms t.subject u.subject) (ordering_then (compare_terms t.predicate u.predicate) (compare_terms t.object u.object))

-- whether a list is a set of triples: strictly ascending, and triples only
abbrev pub is_triple_set : List Triple → Bool
is_triple_set s = ascends compare_triples s && every is_triple s

pub record TripleSet (s : List Triple) : Type 0 where
  pub ascending : Ascending compare_triples s
  pub members : every is_triple s ≡ true
