use Rattle.std.proofs.Common.{◌≤◌, take}
use Rattle.p3_base.specs.Outside.{IsPut}
use Rattle.p3_accounts.specs.Vocabularies.{vocabulary}
use Rattle.p3_unmet.specs.Sources.{texts}
use Rattle.p3_meanings.specs.Steps.{step_lines}
use Rattle.p3_meanings.proofs.steps.put_steps.Given as goal

-- those before it are put
abbrev pub invariant-loop-step : goal.invariant-loop-step
invariant-loop-step g l = record {
  put : IsPut (step_lines (vocabulary l.telling.terms.now) (texts l.telling.sources.now) l.checked.task (take l.step-index l.steps)) (g.S.Sink.seen l.fn.out).written (g.S.Sink.seen l.out).written;
  faults_grow : (g.S.Sink.seen l.fn.out).faults ≤ (g.S.Sink.seen l.out).faults;
}
