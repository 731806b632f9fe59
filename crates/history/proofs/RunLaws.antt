-- A log of calls, one call after another: what a run comes to for the account, the make, the answers and the memories of a course.
use Rattle.std.proofs.Common.{◌≡◌, ℕ, ◌+◌, ◌<◌, ◌≤◌, Bool, false, cond, ◌&&◌, List, [], ◌∷◌, ◌++◌, map, length, get_or, take, set, Some, Ok, Err, Result, sym, refl, ap, ◌∙◌, subst, ap₂, subst₂}
use Rattle.std.proofs.lemmas.Bool.{true≢false}
use Rattle.std.proofs.lemmas.List.{take_all, take_more_set, map-set, set-get_or, get_or-map}
use Rattle.rdf.specs.declared.refusal.Refusal.{Refusal}
use Rattle.rdf.specs.declared.row.Row.{Row}
use Rattle.rdf.specs.declared.triple.Triple.{Triple}
use Rattle.graph.specs.Changes.{Change, adding, removing, accepted, changed, has_effect}
use Rattle.graph.specs.Makes.{Make, Ruled}
use Rattle.graph.specs.Histories.{change_called, make_of, recorded}
use Rattle.history.specs.declared.memory.Memory.{Memory}
use Rattle.history.specs.declared.step.Call.{Call}
use Rattle.history.specs.declared.step.Call.TheVariants.{Next, Add, Remove, Free, Ask}
use Rattle.history.specs.declared.step.Step.{Step}
use Rattle.history.specs.Courses.{Course, then_called, since, Reply, was_accepted, event_of, history_of, account_of}
use Rattle.history.specs.Replies.{changed_by, alters_set, is_change, reading_then, rows_then, Replied, Leaves, reading_since, rows_since}
use Rattle.history.specs.Runs.{Changes, Moves, Carries, Continues, Runs}

-- an answer beside a call leaves the calls as they are
pub same_calls : (log : List Step) (n : ℕ) (x d : Step) → n < length log → x.call ≡ (get_or log n d).call → map (λ y. y.call) (set log n x) ≡ map (λ y. y.call) log
same_calls log n x d inside e =
    let call_of : Step → Call = λ y. y.call in
    map-set call_of log n x
    ∙ ap (set (map call_of log) n) (e ∙ sym (get_or-map call_of log n d d.call inside))
    ∙ set-get_or (map call_of log) n d.call

-- calls leave a graph's make as it is
pub make_since : (c : Course) (xs : List Step) → make_of (history_of (since c xs)) ≡ make_of (history_of c)
make_since c [] = refl
make_since c (x ∷ xs) = make_since (then_called c x) xs

-- a change is told as accepted if it was
accepted_told : (r : Result (Unit {0}) Refusal) (a : Reply) → a ≡ Some (changed_by r) → was_accepted a ≡ accepted r
accepted_told (Ok u) a e = ap was_accepted e
accepted_told (Err f) a e = ap was_accepted e

module _ {G : Type 0} (make : G → Make) (triples : G → List Triple) (room : G → ℕ) (full : G → Change → Bool) (frame unaltered : G → G → Type 0) (i j : ℕ) where
  abbrev ChangeOf : Change → G → Reply → G → Type 0
  ChangeOf c g a k = Changes make triples room full frame unaltered c g a k

  abbrev Carry : Call → G → Memory → Reply → G → Memory → Type 0
  Carry c g m a k n = Carries make triples room full frame unaltered i j c g m a k n

  abbrev Run : G → Memory → List Step → G → Memory → Type 0
  Run g m xs k n = Runs make triples room full frame unaltered i j g m xs k n

  runs_push : (g h k : G) (m l n : Memory) (xs : List Step) (x : Step) → Run g m xs h l → Carry x.call h l x.answer k n → Run g m (xs ++ x ∷ []) k n
  runs_push g h k m l n [] x r c = (k, n, subst₂ (λ y z. Carry x.call y z x.answer k n) r.0 r.1 c, (refl, refl))
  runs_push g h k m l n (y ∷ ys) x r c = (r.0, r.1, r.2, runs_push r.0 h k r.1 l n ys x r.3 c)

  -- one call more, carried out in memory of the same sizes
  pub run_more :
      (g h k : G) (m l n : Memory) (log : List Step) (p : ℕ) (x : Step) → p < length log → Run g m (take p log) h l
      → (s t : ℕ) → s ≡ i → t ≡ j → Carries make triples room full frame unaltered s t x.call h l x.answer k n
      → Run g m (take (p + 1) (set log p x)) k n
  run_more g h k m l n log p x inside r s t e f c =
      let sized = subst₂ (λ s t. Carries make triples room full frame unaltered s t x.call h l x.answer k n) e f c in
      subst (λ xs. Run g m xs k n) (sym (take_more_set log p x inside)) (runs_push g h k m l n (take p log) x r sized)

  -- once all calls are carried out, that is the run of the log
  pub run_all : (g k : G) (m n : Memory) (log : List Step) (p : ℕ) → length log ≤ p → Run g m (take p log) k n → Run g m log k n
  run_all g k m n log p end r = subst (λ xs. Run g m xs k n) (take_all p log end) r

  change_set : (c : Change) (g : G) (a : Reply) (k : G) → ChangeOf c g a k → triples k ≡ recorded (change_called c (was_accepted a)) (triples g)
  change_set c g a k x = x.applied.set ∙ ap (λ b. cond b (changed c (triples g)) (triples g)) (sym (accepted_told x.result a x.told))

  -- one call more is one event more in the account
  moved_set : (c : Call) (g : G) (a : Reply) (k : G) → Moves make triples room full frame unaltered c g a k → triples k ≡ recorded (event_of c a) (triples g)
  moved_set (Next t) g a k x = ap triples x
  moved_set (Add t) g a k x = change_set (adding t) g a k x
  moved_set (Remove t) g a k x = change_set (removing t) g a k x
  moved_set Free g a k x = ap triples x
  moved_set (Ask q) g a k x = ap triples x

  runs_account : (g k : G) (m n : Memory) (xs : List Step) → Run g m xs k n → (c : Course) → account_of c ≡ triples g → account_of (since c xs) ≡ triples k
  runs_account g k m n [] r c e = e ∙ ap triples (sym r.0)
  runs_account g k m n (x ∷ xs) r c e =
      runs_account r.0 k r.1 n xs r.3 (then_called c x)
      (ap (recorded (event_of x.call x.answer)) e ∙ sym (moved_set x.call g x.answer r.0 r.2.moved))

  moved_make : (c : Call) (g : G) (a : Reply) (k : G) → Moves make triples room full frame unaltered c g a k → make k ≡ make g
  moved_make (Next t) g a k x = ap make x
  moved_make (Add t) g a k x = x.same_make
  moved_make (Remove t) g a k x = x.same_make
  moved_make Free g a k x = ap make x
  moved_make (Ask q) g a k x = ap make x

  pub runs_make : (g k : G) (m n : Memory) (xs : List Step) → Run g m xs k n → make k ≡ make g
  runs_make g k m n [] r = ap make r.0
  runs_make g k m n (x ∷ xs) r = runs_make r.0 k r.1 n xs r.3 ∙ moved_make x.call g x.answer r.0 r.2.moved

  moved_frame : ((g : G) → frame g g) → (c : Call) (g : G) (a : Reply) (k : G) → Moves make triples room full frame unaltered c g a k → frame g k
  moved_frame still (Next t) g a k x = subst (frame g) (sym x) (still g)
  moved_frame still (Add t) g a k x = x.framed
  moved_frame still (Remove t) g a k x = x.framed
  moved_frame still Free g a k x = subst (frame g) (sym x) (still g)
  moved_frame still (Ask q) g a k x = subst (frame g) (sym x) (still g)

  -- what no call alters, no run alters
  pub runs_frame : ((g : G) → frame g g) → ((g h k : G) → frame g h → frame h k → frame g k) → (g k : G) (m n : Memory) (xs : List Step) → Run g m xs k n → frame g k
  runs_frame still onward g k m n [] r = subst (frame g) (sym r.0) (still g)
  runs_frame still onward g k m n (x ∷ xs) r =
      onward g r.0 k (moved_frame still x.call g x.answer r.0 r.2.moved) (runs_frame still onward r.0 k r.1 n xs r.3)

  change_places : (c : Change) (g : G) (a : Reply) (k : G) → ChangeOf c g a k → (was_accepted a && has_effect c (triples g)) ≡ false → room k ≡ room g
  change_places c g a k x e = x.applied.places (ap (λ b. b && has_effect c (triples g)) (sym (accepted_told x.result a x.told)) ∙ e)

  moved_places : (c : Call) (g : G) (a : Reply) (k : G) → Moves make triples room full frame unaltered c g a k → alters_set c a (triples g) ≡ false → room k ≡ room g
  moved_places (Next t) g a k x e = ap room x
  moved_places (Add t) g a k x e = change_places (adding t) g a k x e
  moved_places (Remove t) g a k x e = change_places (removing t) g a k x e
  moved_places Free g a k x e = ap room x
  moved_places (Ask q) g a k x e = ap room x

  moved_conditions : (c : Call) (g : G) (a : Reply) (k : G) → Moves make triples room full frame unaltered c g a k → is_change c ≡ false → full k ≡ full g
  moved_conditions (Next t) g a k x e = ap full x
  moved_conditions (Add t) g a k x e = absurd (true≢false e)
  moved_conditions (Remove t) g a k x e = absurd (true≢false e)
  moved_conditions Free g a k x e = ap full x
  moved_conditions (Ask q) g a k x e = ap full x

  -- each answer of a run is the one that the account at that call says
  runs_leaves : ((g : G) → Ruled (make g) (triples g) (room g) (full g)) → (g k : G) (m n : Memory) (xs : List Step) → Run g m xs k n → (c : Course) → account_of c ≡ triples g → make_of (history_of c) ≡ make g → Leaves i j c (room g) (full g) → Leaves i j (since c xs) (room k) (full k)
  runs_leaves ruled g k m n [] r c e f t = subst (λ y. Leaves i j c (room y) (full y)) (sym r.0) t
  runs_leaves ruled g k m n (x ∷ xs) r c e f t =
      let h = r.0 in
      let step = r.2 in
      let set = moved_set x.call g x.answer h step.moved in
      let made = moved_make x.call g x.answer h step.moved in
      let replied : Replied i j (make g) (triples g) (room g) (full g) x (room h) (full h) = record {
        answered = step.answered;
        numbered = step.numbered;
        ruled = subst₂ (λ y s. Ruled y s (room h) (full h)) made set (ruled h);
        places = moved_places x.call g x.answer h step.moved;
        conditions = moved_conditions x.call g x.answer h step.moved;
      } in
      runs_leaves ruled h k r.1 n xs r.3 (then_called c x)
      (ap (recorded (event_of x.call x.answer)) e ∙ sym set)
      (f ∙ sym made)
      (room g, full g, t, subst₂ (λ y s. Replied i j y s (room g) (full g) x (room h) (full h)) (sym f) (sym e) replied)

  -- the memories of a run are those of the course with its calls
  runs_reading : (g k : G) (m n : Memory) (xs : List Step) → Run g m xs k n → (c : Course) (before : List Triple) → account_of c ≡ triples g → reading_since i j c before ≡ m.reading.now → reading_since i j (since c xs) before ≡ n.reading.now
  runs_reading g k m n [] r c before e f = f ∙ ap (λ y. y.reading.now) (sym r.1)
  runs_reading g k m n (x ∷ xs) r c before e f =
      runs_reading r.0 k r.1 n xs r.3 (then_called c x) before
      (ap (recorded (event_of x.call x.answer)) e ∙ sym (moved_set x.call g x.answer r.0 r.2.moved))
      (ap₂ (λ s y. reading_then i j s x.call y) e f ∙ sym r.2.read)

  runs_rows : (g k : G) (m n : Memory) (xs : List Step) → Run g m xs k n → (c : Course) (before : List Row) → account_of c ≡ triples g → rows_since i j c before ≡ m.rows.now → rows_since i j (since c xs) before ≡ n.rows.now
  runs_rows g k m n [] r c before e f = f ∙ ap (λ y. y.rows.now) (sym r.1)
  runs_rows g k m n (x ∷ xs) r c before e f =
      runs_rows r.0 k r.1 n xs r.3 (then_called c x) before
      (ap (recorded (event_of x.call x.answer)) e ∙ sym (moved_set x.call g x.answer r.0 r.2.moved))
      (ap₂ (λ s y. rows_then i j s x.call y) e f ∙ sym r.2.worked)

  pub runs_course : ((g : G) → Ruled (make g) (triples g) (room g) (full g)) → (g k : G) (m n : Memory) (xs : List Step) → Run g m xs k n → (c : Course) → account_of c ≡ triples g → Continues make triples room full i j c g m xs k n
  runs_course ruled g k m n xs r c e =
      record {
        account = runs_account g k m n xs r c e;
        answers = runs_leaves ruled g k m n xs r c e;
        reading = λ before. runs_reading g k m n xs r c before e;
        rows = λ before. runs_rows g k m n xs r c before e;
      }
