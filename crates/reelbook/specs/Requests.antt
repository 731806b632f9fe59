-- What requests to a graph come to, one and many. Assumes nothing.
use Rattle.std.specs.Prelude.{◌≡◌, ℕ, Bool, true, false, cond, List, [], ◌∷◌, Ok, Err, Result, Option, Some, None}
use Rattle.order.specs.Sets.{above}
use Rattle.rdf.specs.Triples.{compare_triples}
use Rattle.rdf.specs.declared.refusal.Refusal.{Refusal}
use Rattle.rdf.specs.declared.triple.Triple.{Triple}
use Rattle.graph.specs.Changes.{Change, adding, has_effect, removing, verdict}
use Rattle.graph.specs.Histories.{Event, History, asked, change_called, recorded, then_called}
use Rattle.graph.specs.Makes.{Make, Ruled}
use Rattle.reelbook.specs.declared.request.Effect.{Effect}
use Rattle.reelbook.specs.declared.request.Effect.TheVariants.{Changed, Found, Unchanged}
use Rattle.reelbook.specs.declared.request.Request.{Request}
use Rattle.reelbook.specs.declared.request.Request.TheVariants.{Add, Next, Remove}
use Rattle.reelbook.specs.declared.request.Step.{Step}

-- what is told of an answer to a change, by whether the change has an effect
abbrev pub told : Result (Unit {0}) Refusal → Bool → Result Effect Refusal
told (Ok done) effect = Ok (cond effect Changed Unchanged)
told (Err refusal) effect = Err refusal

-- what comes of a request to a graph with the set s, where `full` tells which changes find no place
abbrev pub outcome : (Change → Bool) → Request → List Triple → Result Effect Refusal
outcome full (Add t) s = told (verdict s (full (adding t)) (adding t)) (has_effect (adding t) s)
outcome full (Remove t) s = told (verdict s (full (removing t)) (removing t)) (has_effect (removing t) s)
outcome full (Next t) s = Ok (Found (above compare_triples t s))

-- whether a change was carried out and accepted
abbrev pub is_accepted : Option (Result Effect Refusal) → Bool
is_accepted None = false
is_accepted (Some (Ok Changed)) = true
is_accepted (Some (Ok Unchanged)) = true
is_accepted (Some (Ok (Found t))) = false
is_accepted (Some (Err refusal)) = false

-- what an account is told of a request and its outcome
abbrev pub event_of : Request → Option (Result Effect Refusal) → Event
event_of (Add t) r = change_called (adding t) (is_accepted r)
event_of (Remove t) r = change_called (removing t) (is_accepted r)
event_of (Next t) r = asked

-- the history after some steps
abbrev pub since : History → List Step → History
since h [] = h
since h (step ∷ steps) = since (then_called h (event_of step.request step.outcome)) steps

abbrev pub requests : List Step → List Request
requests [] = []
requests (step ∷ steps) = step.request ∷ requests steps

-- the outcome of a step is right for a graph of the make k with the set s: by the rules of its make for the changes that find no place
abbrev pub Answered : Make → List Triple → Step → Type 0
Answered k s step = (room : ℕ) × ((full : Change → Bool) × (Ruled k s room full × (step.outcome ≡ Some (outcome full step.request s))))

-- so is that of each of some steps, one after the other
abbrev pub Course : Make → List Triple → List Step → Type 0
Course k s [] = Unit {0}
Course k s (step ∷ steps) = Answered k s step × Course k (recorded (event_of step.request step.outcome) s) steps
