use Rattle.p3_cli.specs.Streaming.{HasWrittenEnds}
use Rattle.p3_cli.proofs.streaming.push_ends.Given as goal

-- the actions of the instances passed are written
abbrev pub invariant-loop-number : goal.invariant-loop-number
invariant-loop-number l = HasWrittenEnds l.begun l.number l.fn.text l.text
