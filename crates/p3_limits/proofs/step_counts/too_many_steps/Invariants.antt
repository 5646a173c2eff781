use Rattle.std.proofs.Common.{◌≡◌, drop}
use Rattle.p3_task.specs.Sides.{step_count_limit}
use Rattle.p3_limits.specs.Excess.{refused_step}
use Rattle.p3_limits.proofs.step_counts.too_many_steps.Given as goal

-- the actions that are left decide
abbrev pub invariant-loop-place : goal.invariant-loop-place
invariant-loop-place l = refused_step l.numbers l.side l.left (drop l.place l.actions) (drop l.place l.numbered) ≡ refused_step l.numbers l.side step_count_limit l.actions l.numbered
