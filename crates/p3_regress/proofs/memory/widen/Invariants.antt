use Rattle.std.proofs.Common.{◌≡◌, ℕ, ◌+◌, ◌-◌, vec_len}
use Rattle.p3_regress.specs.Memory.{answer_of}
use Rattle.p3_regress.proofs.memory.widen.Given as goal

-- the answers stay
abbrev pub invariant-loop-answers : goal.invariant-loop-answers
invariant-loop-answers l = (other : ℕ) → answer_of l.answers.items other ≡ answer_of l.fn.answers.items other

abbrev pub decreases-loop-answers : goal.decreases-loop-answers
decreases-loop-answers l = l.number + 1 - vec_len l.answers
