use Rattle.std.proofs.Common.{◌≡◌, drop}
use Rattle.p3_limits.specs.Excess as excess
use Rattle.p3_limits.proofs.large.noted_actions.Given as goal

-- the actions that are left add the rest
abbrev pub invariant-loop-place : goal.invariant-loop-place
invariant-loop-place l = excess.noted_actions l.numbers l.side (drop l.place l.actions) (drop l.place l.numbered) l.found ≡ excess.noted_actions l.numbers l.side l.actions l.numbered l.fn.start
