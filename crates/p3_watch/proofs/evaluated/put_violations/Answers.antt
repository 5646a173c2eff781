use Rattle.std.proofs.Common.{◌≡◌, ◌∙◌, Some, ap, arith, subst, sym}
use Rattle.std.specs.Option.{option_copied}
use Rattle.std.specs.Prelude.{slice_get}
use Rattle.p3_base.specs.Outside.{IsPartlyPut, IsPut}
use Rattle.p3_task.specs.Metrics.{violated}
use Rattle.p3_task.specs.PreferenceNames.{ordered_names}
use Rattle.p3_reports.specs.Parts.{violated_line}
use Rattle.p3_reports.proofs.PutLemmas.{on_err}
use Rattle.p3_watch.specs.Violations.{violated_entry}
use Rattle.p3_watch.proofs.EvaluatedLemmas.{partly_at, put_at}
use Rattle.p3_watch.proofs.evaluated.put_violations.Goals as goal

pub returns-in_err-put_part-clause-partly : goal.returns-in_err-put_part-clause-partly
returns-in_err-put_part-clause-partly g c =
    let T = c.args.checked.now.task in
    let word = c.in-Some.name.now in
    let found : slice_get (ordered_names T) c.loop-number.number ≡ Some word = sym c.name.ensures ∙ ap option_copied c.in-Some.is in
    on_err c.from_residual.result (λ plan are.
    let count : c.violations.result ≡ violated T plan word = c.violations.ensures T c.requires plan are word found in
    let same : violated_line c.bytes.result.now c.violations.result ≡ violated_entry T plan word = λ i. violated_line (c.bytes.ensures.bytes i) (count i) in
    partly_at (violated_entry T plan) (ordered_names T) c.loop-number.number word _ _ _ found (c.loop-number.invariant.put plan are)
    (subst (λ text. IsPartlyPut text (g.S.Sink.seen c.loop-number.out).written (g.S.Sink.seen c.put_part.new.out).written) same c.in_err-put_part.ensures.partly))

pub loop-number-preserved : goal.loop-number-preserved
loop-number-preserved g c =
    let T = c.args.checked.now.task in
    let word = c.in-Some.name.now in
    let found : slice_get (ordered_names T) c.loop-number.number ≡ Some word = sym c.name.ensures ∙ ap option_copied c.in-Some.is in
    let before = c.loop-number.invariant.faults_grow in
    let after = c.in_ok-put_part.ensures.faults_grow in
    record {
      put = λ plan are.
          let count : c.violations.result ≡ violated T plan word = c.violations.ensures T c.requires plan are word found in
          let same : violated_line c.bytes.result.now c.violations.result ≡ violated_entry T plan word = λ i. violated_line (c.bytes.ensures.bytes i) (count i) in
          put_at (violated_entry T plan) (ordered_names T) c.loop-number.number word _ _ _ found (c.loop-number.invariant.put plan are)
          (subst (λ text. IsPut text (g.S.Sink.seen c.loop-number.out).written (g.S.Sink.seen c.put_part.new.out).written) same c.in_ok-put_part.ensures.ok);
      faults_grow = omega (arith, before, after);
    }
