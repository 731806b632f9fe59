-- What each call of a course answers by the rules: over the set before it, the graph's make, and the places of the memory that is lent to
-- the log; and what that memory holds afterwards. Assumes nothing.
-- In docs/RULES.md: Log.
use Rattle.std.specs.Prelude.{◌≡◌, ℕ, min, Bool, true, false, cond, ◌&&◌, List, ◌++◌, take, drop, Some, None, Ok, Err, Option, Result}
use Rattle.order.specs.Sets.{above}
use Rattle.rdf.specs.declared.refusal.Refusal.{Refusal}
use Rattle.rdf.specs.declared.row.Row.{Row}
use Rattle.rdf.specs.declared.triple.Triple.{Triple}
use Rattle.rdf.specs.Refusals.{number}
use Rattle.rdf.specs.Triples.{compare_triples, is_triple}
use Rattle.graph.specs.Changes.{Change, adding, removing, triple_of, has_effect, verdict}
use Rattle.graph.specs.Makes.{Make, Ruled}
use Rattle.graph.specs.Histories.{recorded, make_of}
use Rattle.semantics.specs.declared.worked.Worked.{Worked}
use Rattle.semantics.specs.Questions.{answer, reply, refusal_number, reading_after, rows_after}
use Rattle.semantics.specs.Questions as question
use Rattle.history.specs.declared.step.Question.{Question}
use Rattle.history.specs.declared.step.Call.{Call}
use Rattle.history.specs.declared.step.Call.TheVariants.{Next, Add, Remove, Free, Ask}
use Rattle.history.specs.declared.step.Answer.{Answer}
use Rattle.history.specs.declared.step.Answer.TheVariants.{Least, Accepted, Places, Solved}
use Rattle.history.specs.declared.step.Step.{Step}
use Rattle.history.specs.Courses.{Course, opened, listed, emptied, laid_over, sealed, joined, then_called, Reply, was_accepted, event_of, history_of, account_of}

-- the answer to a change
abbrev pub changed_by : Result (Unit {0}) Refusal → Result Answer Refusal
changed_by (Ok _) = Ok Accepted
changed_by (Err f) = Err f

-- the answer to a question
abbrev pub solved_by : Result Worked Refusal → Result Answer Refusal
solved_by (Ok n) = Ok (Solved n)
solved_by (Err f) = Err f

-- the number by which a call was refused, 0 where it was not
abbrev pub number_of : {A : Type 0} → Option (Result A Refusal) → ℕ
number_of None = 0
number_of (Some (Ok a)) = 0
number_of (Some (Err f)) = number f

-- 12 exactly if the numbers are no triple, 13 exactly if a change with effect finds no place
abbrev pub change_number : List Triple → (Change → Bool) → Change → ℕ
change_number s full c = cond (is_triple (triple_of c)) (cond (has_effect c s && full c) 13 0) 12

-- whether the call is a change that was accepted and had an effect on the set s
abbrev pub alters_set : Call → Reply → List Triple → Bool
alters_set (Next t) a s = false
alters_set (Add t) a s = was_accepted a && has_effect (adding t) s
alters_set (Remove t) a s = was_accepted a && has_effect (removing t) s
alters_set Free a s = false
alters_set (Ask q) a s = false

abbrev pub is_change : Call → Bool
is_change (Next t) = false
is_change (Add t) = true
is_change (Remove t) = true
is_change Free = false
is_change (Ask q) = false

-- memory of which the first n places were worked in
abbrev pub first_places : {X : Type 0} → ℕ → (List X → List X) → List X → List X
first_places n worked memory = worked (take n memory) ++ drop n memory

-- with memory of so many places lent to the log
module _ (reading_places row_places : ℕ) where
  -- what the rules give for a question over the set s
  abbrev pub answer_to : List Triple → Question → question.Answer
  answer_to s q = answer q.strategy s q.query.entries.now q.query.values.now q.start (min q.reading reading_places) (min q.rows row_places)

  -- the answer to a call on a graph that means the set s and has so many free places; `full` tells which changes find no place
  abbrev pub due : List Triple → ℕ → (Change → Bool) → Call → Result Answer Refusal
  due s room full (Next t) = Ok (Least (above compare_triples t s))
  due s room full (Add t) = changed_by (verdict s (full (adding t)) (adding t))
  due s room full (Remove t) = changed_by (verdict s (full (removing t)) (removing t))
  due s room full Free = Ok (Places room)
  due s room full (Ask q) = solved_by (reply (answer_to s q))

  -- the number by which the call is refused, 0 where it is not
  abbrev pub number_due : List Triple → (Change → Bool) → Call → ℕ
  number_due s full (Next t) = 0
  number_due s full (Add t) = change_number s full (adding t)
  number_due s full (Remove t) = change_number s full (removing t)
  number_due s full Free = 0
  number_due s full (Ask q) = refusal_number (answer_to s q)

  -- reading memory after a call on a graph that means the set s
  abbrev pub reading_then : List Triple → Call → List Triple → List Triple
  reading_then s (Next t) memory = memory
  reading_then s (Add t) memory = memory
  reading_then s (Remove t) memory = memory
  reading_then s Free memory = memory
  reading_then s (Ask q) memory = first_places q.reading (reading_after (answer_to s q) s) memory

  -- row memory after a call on a graph that means the set s
  abbrev pub rows_then : List Triple → Call → List Row → List Row
  rows_then s (Next t) memory = memory
  rows_then s (Add t) memory = memory
  rows_then s (Remove t) memory = memory
  rows_then s Free memory = memory
  rows_then s (Ask q) memory = first_places q.rows (rows_after (answer_to s q)) memory

  -- the step x, on a graph of this make that means the set s, with so many free places and `full`, leads to `left` places and `full_then`
  pub record Replied (k : Make) (s : List Triple) (room : ℕ) (full : Change → Bool) (x : Step) (left : ℕ) (full_then : Change → Bool) : Type 0 where
    pub answered : x.answer ≡ Some (due s room full x.call)
    pub numbered : number_of x.answer ≡ number_due s full x.call
    pub ruled : Ruled k (recorded (event_of x.call x.answer) s) left full_then
    -- a call that is refused or has no effect keeps the free places
    pub places : alters_set x.call x.answer s ≡ false → left ≡ room
    -- a call that is no change keeps what finds no place as well
    pub conditions : is_change x.call ≡ false → full_then ≡ full

  -- every call of the course was answered by the rules, and it leaves so many free places, and these changes that find none
  abbrev pub Leaves : Course → ℕ → (Change → Bool) → Type 0
  Leaves (opened k s free none) room full = (room ≡ free) × (full ≡ none)
  Leaves (listed entries) room full = Ruled (make_of (history_of (listed entries))) (account_of (listed entries)) room full
  Leaves (emptied n) room full = Ruled (make_of (history_of (emptied n))) (account_of (emptied n)) room full
  Leaves (laid_over c) room full = ((free : ℕ) × (none : Change → Bool) × Leaves c free none) × Ruled (make_of (history_of (laid_over c))) (account_of (laid_over c)) room full
  Leaves (sealed c) room full = ((free : ℕ) × (none : Change → Bool) × Leaves c free none) × Ruled (make_of (history_of (sealed c))) (account_of (sealed c)) room full
  Leaves (joined c d) room full =
      ((free : ℕ) × (none : Change → Bool) × Leaves c free none)
      × ((free : ℕ) × (none : Change → Bool) × Leaves d free none)
      × Ruled (make_of (history_of (joined c d))) (account_of (joined c d)) room full
  Leaves (then_called c x) room full = (free : ℕ) × (none : Change → Bool) × Leaves c free none × Replied (make_of (history_of c)) (account_of c) free none x room full

  -- every call of the course was answered by the rules
  abbrev pub Truthful : Course → Type 0
  Truthful c = (room : ℕ) × (full : Change → Bool) × Leaves c room full

  -- reading memory after the course: the parts before the whole, the left part before the right
  abbrev pub reading_since : Course → List Triple → List Triple
  reading_since (opened k s room full) memory = memory
  reading_since (listed entries) memory = memory
  reading_since (emptied n) memory = memory
  reading_since (laid_over c) memory = reading_since c memory
  reading_since (sealed c) memory = reading_since c memory
  reading_since (joined c d) memory = reading_since d (reading_since c memory)
  reading_since (then_called c x) memory = reading_then (account_of c) x.call (reading_since c memory)

  -- row memory after the course, likewise
  abbrev pub rows_since : Course → List Row → List Row
  rows_since (opened k s room full) memory = memory
  rows_since (listed entries) memory = memory
  rows_since (emptied n) memory = memory
  rows_since (laid_over c) memory = rows_since c memory
  rows_since (sealed c) memory = rows_since c memory
  rows_since (joined c d) memory = rows_since d (rows_since c memory)
  rows_since (then_called c x) memory = rows_then (account_of c) x.call (rows_since c memory)
