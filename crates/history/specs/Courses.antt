-- The course of a graph: how it and its parts were opened, and the calls on them since with their answers. Its history, as an account
-- takes it, tells of each call only the change and whether it was accepted. Assumes nothing.
-- In docs/RULES.md: Course; Account.
use Rattle.std.specs.Prelude.{ℕ, Bool, true, false, List, [], ◌∷◌, Some, None, Ok, Err, Option, Result}
use Rattle.rdf.specs.declared.refusal.Refusal.{Refusal}
use Rattle.rdf.specs.declared.triple.Triple.{Triple}
use Rattle.graph.specs.Changes.{Change, adding, removing}
use Rattle.graph.specs.Makes.{Make}
use Rattle.graph.specs.Histories.{Event, History, asked, change_called}
use Rattle.graph.specs.Histories as history
use Rattle.history.specs.declared.step.Call.{Call}
use Rattle.history.specs.declared.step.Call.TheVariants.{Next, Add, Remove, Free, Ask}
use Rattle.history.specs.declared.step.Answer.{Answer}
use Rattle.history.specs.declared.step.Answer.TheVariants.{Least, Accepted, Places, Solved}
use Rattle.history.specs.declared.step.Step.{Step}

pub data Course : Type 0 where
  -- a graph of any make as it was: with this set, so many free places, and these changes that find none
  opened : Make → List Triple → ℕ → (Change → Bool) → Course
  -- a list of these entries
  listed : List Triple → Course
  -- a stored graph of so many places, which were emptied
  emptied : ℕ → Course
  -- an overlay without marks, laid over a graph
  laid_over : Course → Course
  -- a graph sealed against changes
  sealed : Course → Course
  -- two graphs joined
  joined : Course → Course → Course
  -- one more call, and what it answered
  then_called : Course → Step → Course

-- the course after the calls of a log
abbrev pub since : Course → List Step → Course
since c [] = c
since c (x ∷ xs) = since (then_called c x) xs

-- what stands beside a call: none before it is carried out, then an answer or a refusal
abbrev pub Reply : Type 0
Reply = Option (Result Answer Refusal)

abbrev pub was_accepted : Reply → Bool
was_accepted None = false
was_accepted (Some (Err f)) = false
was_accepted (Some (Ok (Least t))) = false
was_accepted (Some (Ok Accepted)) = true
was_accepted (Some (Ok (Places n))) = false
was_accepted (Some (Ok (Solved n))) = false

-- what an account is told of a call
abbrev pub event_of : Call → Reply → Event
event_of (Next t) a = asked
event_of (Add t) a = change_called (adding t) (was_accepted a)
event_of (Remove t) a = change_called (removing t) (was_accepted a)
event_of Free a = asked
event_of (Ask q) a = asked

abbrev pub history_of : Course → History
history_of (opened k s room full) = history.opened k s
history_of (listed entries) = history.listed entries
history_of (emptied n) = history.emptied n
history_of (laid_over c) = history.laid_over (history_of c)
history_of (sealed c) = history.sealed (history_of c)
history_of (joined c d) = history.joined (history_of c) (history_of d)
history_of (then_called c x) = history.then_called (history_of c) (event_of x.call x.answer)

-- the set that a course comes to
abbrev pub account_of : Course → List Triple
account_of c = history.account (history_of c)
