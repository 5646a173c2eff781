use Rattle.std.proofs.Common.{take}
use Rattle.p3_endphase.specs.Ends.{HasSettling}
use Rattle.p3_endphase.proofs.phase.push_settling.Given as goal

-- the actions of the instances so far stand there
abbrev pub invariant-loop-number : goal.invariant-loop-number
invariant-loop-number l = HasSettling l.first_atom (take l.number l.instances) l.fn.actions l.actions
