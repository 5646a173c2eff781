use Rattle.std.proofs.Common.{◌≡◌, ◌++◌, take}
use Rattle.p3_writer.specs.CopyText.{digits_of}
use Rattle.p3_writer.proofs.copy_text.push_digits.Given as goal

-- the digits passed are written
abbrev pub invariant-loop-one : goal.invariant-loop-one
invariant-loop-one l = l.out.items ≡ l.fn.out.items ++ digits_of (take l.one-index l.violated)
