use Rattle.std.proofs.Common.{◌≡◌, ◌++◌, take}
use Rattle.p3_explain.proofs.explaining.append.Given as goal

abbrev pub invariant-loop-reason : goal.invariant-loop-reason
invariant-loop-reason l = l.reasons ≡ l.fn.reasons ++ take l.reason-index l.more
