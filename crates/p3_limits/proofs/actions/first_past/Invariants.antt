use Rattle.std.proofs.Common.{◌≡◌, drop}
use Rattle.p3_task.specs.Sides.{InDomain, role_of}
use Rattle.p3_limits.specs.Bounds as bounds
use Rattle.p3_limits.proofs.actions.first_past.Given as goal

-- the actions that are left decide
abbrev pub invariant-loop-place : goal.invariant-loop-place
invariant-loop-place l =
    bounds.first_past l.task.task l.task.numbered.numbers l.weights l.measure (role_of l.task.side InDomain) (drop l.place l.actions) (drop l.place l.numbered)
    ≡ bounds.first_past l.task.task l.task.numbered.numbers l.weights l.measure (role_of l.task.side InDomain) l.actions l.numbered
