use Rattle.std.proofs.Common.{◌<◌, ◌≤◌, length, None, refl, ◌∙◌, arith}
use Rattle.rdf.specs.Triples.{no_triple}
use Rattle.history.specs.declared.step.Call.TheVariants.{Next}
use Rattle.history.specs.declared.step.Step.{Step}
use Rattle.history.proofs.MemoryLaws.{same_on}
use Rattle.history.proofs.RunLaws.{same_calls, run_more, run_all, runs_course, runs_make, runs_frame}
use Rattle.history.proofs.run.run.Goals as goal

abbrev blank : Step
blank = record { call = Next no_triple; answer = None }

pub loop-step-preserved : goal.loop-step-preserved
loop-step-preserved g c =
    let x = g.G.Graph in
    let e = g.G.EditableGraph in
    let log = c.loop-step.log in
    let i = c.loop-step.step-index in
    let same = c.loop-step.invariant.1 in
    let inside : i < length log = omega (arith, c.loop-step.auto.log) in (
      same_calls log i _ blank inside refl ∙ c.loop-step.invariant.0,
      same_on _ _ _ same c.carry_out.ensures.same,
      run_more x.make x.triples x.room x.full e.frame e.unaltered _ _ _ _ _ _ _ _ log i _ inside c.loop-step.invariant.2
          _ _ same.reading_size same.row_size c.carry_out.ensures,
    )

pub returns-clause-framed : goal.returns-clause-framed
returns-clause-framed g c =
    let x = g.G.Graph in
    let e = g.G.EditableGraph in
    let end : length c.loop-step.log ≤ c.loop-step.step-index = omega (arith, c.loop-step.auto.log) in
    runs_frame x.make x.triples x.room x.full e.frame e.unaltered _ _ e.still e.onward _ _ _ _ c.loop-step.log
    (run_all x.make x.triples x.room x.full e.frame e.unaltered _ _ _ _ _ _ _ _ end c.loop-step.invariant.2)

pub returns-clause-make : goal.returns-clause-make
returns-clause-make g c =
    let x = g.G.Graph in
    let e = g.G.EditableGraph in
    let end : length c.loop-step.log ≤ c.loop-step.step-index = omega (arith, c.loop-step.auto.log) in
    runs_make x.make x.triples x.room x.full e.frame e.unaltered _ _ _ _ _ _ c.loop-step.log
    (run_all x.make x.triples x.room x.full e.frame e.unaltered _ _ _ _ _ _ _ _ end c.loop-step.invariant.2)

pub returns-clause-course : goal.returns-clause-course
returns-clause-course g c =
    let x = g.G.Graph in
    let e = g.G.EditableGraph in
    let end : length c.loop-step.log ≤ c.loop-step.step-index = omega (arith, c.loop-step.auto.log) in
    runs_course x.make x.triples x.room x.full e.frame e.unaltered _ _ x.ruled _ _ _ _ c.loop-step.log
    (run_all x.make x.triples x.room x.full e.frame e.unaltered _ _ _ _ _ _ _ _ end c.loop-step.invariant.2)
