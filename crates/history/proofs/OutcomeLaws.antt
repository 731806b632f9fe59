-- Two questions whose answers are by the rules keep the promise.
use Rattle.std.proofs.Common.{◌≡◌, true, List, length, Result, sym, ap, ◌∙◌, ap₂, subst₂}
use Rattle.order.specs.Lists.{every}
use Rattle.rdf.specs.declared.refusal.Refusal.{Refusal}
use Rattle.rdf.specs.declared.row.Row.{Row}
use Rattle.rdf.specs.declared.triple.Triple.{Triple}
use Rattle.rdf.specs.Triples.{is_triple}
use Rattle.query.specs.declared.table.Entry.{Entry}
use Rattle.semantics.specs.declared.strategy.Strategy.TheVariants.{BottomUp, TopDown}
use Rattle.semantics.specs.declared.worked.Worked.{Worked}
use Rattle.semantics.specs.Questions.{answer, reply, rows_after}
use Rattle.semantics.specs.Promise.{Promise}
use Rattle.semantics.proofs.Promised.{promise_kept}
use Rattle.engine.specs.Solving.{Asked}

module _ (entries : List Entry) (values : List Row) (start : Row) where
  pub promised :
      (g h : List Triple) (m m_then : List Triple) (w w_then : List Row) (n n_then : List Triple) (v v_then : List Row) (down up : Result Worked Refusal)
      → every is_triple g ≡ true
      → Asked TopDown g entries values start m m_then w w_then down → Asked BottomUp h entries values start n n_then v v_then up
      → g ≡ h → length m ≡ length n → length w ≡ length v
      → Promise g entries values start (length m) (length w) down up w_then v_then
  promised g h m m_then w w_then n n_then v v_then down up lawful d u e p q =
      let told = ap₂ (λ s i. answer BottomUp s entries values start i (length v)) (sym e) (sym p) in
      subst₂ (λ r l. Promise g entries values start (length m) (length w) down r w_then l) (sym (u.answered ∙ ap reply told)) (sym (u.rows_are ∙ ap (λ a. rows_after a v) told))
      (subst₂ (λ r l. Promise g entries values start (length m) (length w) r (reply (answer BottomUp g entries values start (length m) (length v))) l (rows_after (answer BottomUp g entries values start (length m) (length v)) v))
      (sym d.answered) (sym d.rows_are) (promise_kept g lawful entries values start (length m) w v q))
