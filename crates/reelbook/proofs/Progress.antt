-- Shows how a loop over the steps goes on: what is done so far is a right course and brings the account to the set so far. Assumes nothing.
use Rattle.std.proofs.Common.{◌≡◌, ℕ, zero, suc, ◌+◌, ◌<◌, ◌≤◌, List, [], ◌∷◌, ◌++◌, length, get_or, take, set, Option, Result, sym, refl, ap, ◌∙◌, subst, append_assoc, append-nil, arith}
use Rattle.std.proofs.lemmas.List.{take_all, take_more_set}
use Rattle.rdf.specs.declared.refusal.Refusal.{Refusal}
use Rattle.rdf.specs.declared.triple.Triple.{Triple}
use Rattle.graph.specs.Histories.{History, account, opened, then_called}
use Rattle.graph.specs.Makes.{Make}
use Rattle.reelbook.specs.Requests.{Answered, Course, event_of, requests, since}
use Rattle.reelbook.specs.declared.request.Effect.{Effect}
use Rattle.reelbook.specs.declared.request.Step.{Step}

since_push : (h : History) (steps : List Step) (step : Step) → since h (steps ++ step ∷ []) ≡ then_called (since h steps) (event_of step.request step.outcome)
since_push h [] step = refl
since_push h (x ∷ xs) step = since_push (then_called h (event_of x.request x.outcome)) xs step

-- an outcome written beside its request leaves the requests as they are
requests_set : (steps : List Step) (i : ℕ) (d step : Step) → step.request ≡ (get_or steps i d).request → i < length steps → requests (set steps i step) ≡ requests steps
requests_set [] i d step e lt = absurd (omega arith)
requests_set (x ∷ xs) zero d step e lt = ap (λ v. v ∷ requests xs) e
requests_set (x ∷ xs) (suc i) d step e lt = ap (λ v. x.request ∷ v) (requests_set xs i d step e (omega arith))

-- i steps are done on a graph of the make k: they began at the set `start`, as `before`; they are `after` now, and the set is s
pub record Progress (k : Make) (start : List Triple) (before after : List Step) (i : ℕ) (s : List Triple) : Type 0 where
  pub asked_same : requests after ≡ requests before
  pub course : (rest : List Step) → Course k s rest → Course k start (take i after ++ rest)
  pub history : (h : History) → account h ≡ start → account (since h (take i after)) ≡ s

pub progress_none : (k : Make) (s : List Triple) (steps : List Step) → Progress k s steps steps 0 s
progress_none k s steps = record { asked_same = refl; course = λ rest c. c; history = λ h e. e }

module _ (k : Make) (start : List Triple) (before after : List Step) (i : ℕ) (s : List Triple) (progress : Progress k start before after i s) where
  pub progress_more : (d : Step) (r : Option (Result Effect Refusal)) (t : List Triple) → i < length after → Answered k s (record { request = (get_or after i d).request; outcome = r }) → ((h : History) → account h ≡ s → account (then_called h (event_of (get_or after i d).request r)) ≡ t) → Progress k start before (set after i (record { request = (get_or after i d).request; outcome = r })) (i + 1) t
  progress_more d r t lt answered history =
      let step : Step = record { request = (get_or after i d).request; outcome = r } in
      let front = take_more_set after i step lt in
      record {
        asked_same = requests_set after i d step refl lt ∙ progress.asked_same;
        course =
            λ rest c.
            subst (Course k start) (sym (ap (λ v. v ++ rest) front ∙ append_assoc (take i after) (step ∷ []) rest))
            (progress.course (step ∷ rest) (answered, subst (λ v. Course k v rest) (sym (history (opened k s) refl)) c));
        history =
            λ h e.
            ap (λ v. account (since h v)) front ∙ ap account (since_push h (take i after) step)
            ∙ history (since h (take i after)) (progress.history h e);
      }

  pub course_all : length after ≤ i → Course k start after
  course_all all = subst (Course k start) (append-nil (take i after) ∙ take_all i after all) (progress.course [] tt)

  pub history_all : length after ≤ i → (h : History) → account h ≡ start → account (since h after) ≡ s
  history_all all h e = subst (λ v. account (since h v) ≡ s) (take_all i after all) (progress.history h e)
