-- A log in two parts, of which the first is written through a slice, and then the rest: how the log is made of what was written.
use Rattle.std.proofs.Common.{◌≡◌, ℕ, ◌-◌, ◌≤◌, min, List, ◌++◌, map, length, take, drop, sym, ap, ◌∙◌, subst, ap₂, arith}
use native.Mathlib.Nat.{min-le_right}
use borrow.Rule.Slice.PartMut.{put_mid}
use Rattle.std.proofs.lemmas.List.{take_at, drop_at, take_all, drop_all, length-append, length-drop, length-take-le, append-nil, take-append-drop, map-append}
use Rattle.history.specs.declared.step.Call.{Call}
use Rattle.history.specs.declared.step.Step.{Step}
use Rattle.history.proofs.MemoryLaws.{first_taken, others_left}

-- the calls of a log, without their answers
abbrev pub calls_of : List Step → List Call
calls_of log = map (λ x. x.call) log

module _ (split n : ℕ) (log first second : List Step) where
  -- the log with its first part written
  abbrev half : List Step
  half = first ++ drop n log

  -- the part that is written next, as it was
  abbrev rest : List Step
  rest = take (length half - n) (drop n half)

  -- the log with both parts written
  abbrev written : List Step
  written = put_mid n (length half - n) half second

  pub record Parts : Type 0 where
    pub front : first ≡ take split written
    pub back : second ≡ drop split written
    pub front_before : take n log ≡ take split log
    pub back_before : rest ≡ drop split log
    pub same_calls : calls_of first ≡ calls_of (take n log) → calls_of second ≡ calls_of rest → calls_of written ≡ calls_of log

  pub in_parts : n ≡ min split (length log) → length first ≡ length (take n log) → length second ≡ length rest → Parts
  in_parts e p q =
      let inside : n ≤ length log = subst (λ k. k ≤ length log) (sym e) (min-le_right split (length log)) in
      let size_first : length first ≡ n = p ∙ length-take-le n log inside in
      let size_half = length-drop n half in
      let middle : rest ≡ drop n log = take_all (length half - n) (drop n half) (omega (arith, size_half)) ∙ drop_at first (drop n log) n size_first in
      let whole : written ≡ first ++ second =
      ap₂ ◌++◌ (take_at first (drop n log) n size_first)
      (ap (λ l. second ++ l) (drop_all (length half - n) (drop n half) (omega (arith, size_half))) ∙ append-nil second) in
      let size_second : length second ≡ length log - n = q ∙ ap length middle ∙ length-drop n log in
      let all = length-append first second in
      let size : length (first ++ second) ≡ length log = omega (arith, all, size_first, size_second, inside) in
      let cut : n ≡ min split (length (first ++ second)) = e ∙ ap (min split) (sym size) in
      record {
        front = sym (ap (take split) whole ∙ sym (first_taken (first ++ second) split n cut) ∙ take_at first second n size_first);
        back = sym (ap (drop split) whole ∙ sym (others_left (first ++ second) split n cut) ∙ drop_at first second n size_first);
        front_before = first_taken log split n e;
        back_before = middle ∙ others_left log split n e;
        same_calls = λ x y.
            ap calls_of whole ∙ map-append (λ z. z.call) first second ∙ ap₂ ◌++◌ x (y ∙ ap calls_of middle)
            ∙ sym (map-append (λ z. z.call) (take n log) (drop n log)) ∙ ap calls_of (take-append-drop n log);
      }
