use Rattle.std.proofs.Common.{◌≡◌, take}
use Rattle.p3_compile.specs.Guarding.{HasGuards}
use Rattle.p3_compile.proofs.guarding.guards.Given as goal

-- the monitors before the next one have their guards
abbrev pub invariant-loop-place : goal.invariant-loop-place
invariant-loop-place l = record {
  has : HasGuards l.fn.regressed.effects (take l.next l.monitors) l.guards.items;
  effects : l.regressed.effects ≡ l.fn.regressed.effects;
}
