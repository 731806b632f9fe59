-- What a log of calls and a question come to: the answers, and what they leave in the memories that they were lent. Assumes nothing.
-- In docs/RULES.md: Same account, same answers.
use Rattle.std.specs.Prelude.{◌≡◌, List, map, length, Some, Result}
use Rattle.rdf.specs.declared.refusal.Refusal.{Refusal}
use Rattle.rdf.specs.declared.row.Row.{Row}
use Rattle.rdf.specs.declared.triple.Triple.{Triple}
use Rattle.query.specs.declared.table.Entry.{Entry}
use Rattle.semantics.specs.declared.strategy.Strategy.{Strategy}
use Rattle.semantics.specs.declared.strategy.Strategy.TheVariants.{BottomUp, TopDown}
use Rattle.semantics.specs.declared.worked.Worked.{Worked}
use Rattle.semantics.specs.Promise.{Promise}
use Rattle.semantics.specs.Questions.{answer, refusal_number}
use Rattle.engine.specs.Solving.{Asked}
use Rattle.history.specs.declared.compare.Answers.{Answers}
use Rattle.history.specs.declared.memory.Memory.{Memory}
use Rattle.history.specs.declared.step.Step.{Step}
use Rattle.history.specs.Courses.{Course}
use Rattle.history.specs.Memories.{SamePlaces}
use Rattle.history.specs.Replies.{Truthful, number_of, reading_since, rows_since}

-- a log that was carried out in the course c: it has the same calls, each answered by the rules, and the memory m, which it was lent, is
-- then m_then
pub record Logged (c : Course) (log log_then : List Step) (m m_then : Memory) : Type 0 where
  pub calls : map (λ x. x.call) log_then ≡ map (λ x. x.call) log
  pub answers : Truthful (length m.reading.now) (length m.rows.now) c
  pub same : SamePlaces m m_then
  pub reading : m_then.reading.now ≡ reading_since (length m.reading.now) (length m.rows.now) c m.reading.now
  pub rows : m_then.rows.now ≡ rows_since (length m.reading.now) (length m.rows.now) c m.rows.now

-- a question: over the set g, with the memory m before it and m_then after it, it returned r
pub record Outcome (strategy : Strategy) (g : List Triple) (entries : List Entry) (values : List Row) (start : Row) (m m_then : Memory) (r : Result Worked Refusal) : Type 0 where
  pub asked : Asked strategy g entries values start m.reading.now m_then.reading.now m.rows.now m_then.rows.now r
  pub same : SamePlaces m m_then
  pub numbered : number_of (Some r) ≡ refusal_number (answer strategy g entries values start (length m.reading.now) (length m.rows.now))

-- one question, top down over the set g and bottom up over the set k, each with a memory of its own: m and w before it, m_then and w_then
-- after it. Both answer by the rules; where the sets are one and the memories have the same sizes, they keep the promise
pub record Agreed (g k : List Triple) (entries : List Entry) (values : List Row) (start : Row) (m m_then w w_then : Memory) (r : Answers) : Type 0 where
  pub left : Outcome TopDown g entries values start m m_then r.top_down
  pub right : Outcome BottomUp k entries values start w w_then r.bottom_up
  pub promise :
      g ≡ k → length m.reading.now ≡ length w.reading.now → length m.rows.now ≡ length w.rows.now
      → Promise g entries values start (length m.reading.now) (length m.rows.now) r.top_down r.bottom_up m_then.rows.now w_then.rows.now
