use Rattle.std.proofs.Common.{◌≡◌, ◌++◌, take, drop}
use Rattle.p3_task.specs.Decimals.{at_point}
use Rattle.p3_syntax.proofs.tree.numerals.at_point.Given as goal

-- no point has been passed
abbrev pub invariant-loop-index : goal.invariant-loop-index
invariant-loop-index l = record {
  before : (at_point l.word).0 ≡ take l.index l.word ++ (at_point (drop l.index l.word)).0;
  behind : (at_point l.word).1 ≡ (at_point (drop l.index l.word)).1;
}
