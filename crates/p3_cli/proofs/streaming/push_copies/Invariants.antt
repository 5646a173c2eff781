use Rattle.std.proofs.Common.{map, take}
use Rattle.p3_compile.specs.Parts.{copied_action}
use Rattle.p3_cli.specs.Streaming.{HasWritten}
use Rattle.p3_cli.proofs.streaming.push_copies.Given as goal

-- the actions of the copies passed are written
abbrev pub invariant-loop-copy : goal.invariant-loop-copy
invariant-loop-copy l = HasWritten (map (copied_action l.step.number l.step.go) (take l.copy-index l.step.copies)) l.fn.text l.text
