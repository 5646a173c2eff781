use Rattle.std.proofs.Common.{◌≡◌, take}
use Rattle.std.specs.Prelude.{flat_map}
use Rattle.p3_steps.specs.Candidates.{taken_behind}
use Rattle.p3_steps.proofs.choices.widened.Given as goal

-- the choices passed have those behind them
abbrev pub invariant-loop-choice : goal.invariant-loop-choice
invariant-loop-choice l = l.wider.items ≡ flat_map (taken_behind l.test.numbers.now l.test.statics.now l.test.goal.now l.before l.objects) (take l.choice-index l.kept)
