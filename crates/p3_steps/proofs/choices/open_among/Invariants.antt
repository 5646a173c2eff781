use Rattle.std.proofs.Common.{◌≡◌, take}
use Rattle.p3_steps.specs.Candidates.{open_among}
use Rattle.p3_steps.proofs.choices.open_among.Given as goal

-- the numbers passed have their candidates
abbrev pub invariant-loop-number : goal.invariant-loop-number
invariant-loop-number l = l.kept.items ≡ open_among l.numbers l.statics l.ranges l.goal l.first (take l.number-index l.those)
