use Rattle.std.proofs.Common.{◌≡◌, ◌<◌, ◌^◌, fold, drop}
use Rattle.p3_syntax.specs.Trees.{with_digit}
use Rattle.p3_syntax.proofs.tree.numerals.with_digits.Given as goal

-- the digits left go on from the number so far
abbrev pub invariant-loop-digit : goal.invariant-loop-digit
invariant-loop-digit l = record {
  whole : fold with_digit l.value (drop l.digit-index l.digits) ≡ fold with_digit l.start l.digits;
  fits : l.value < 2 ^ 64;
}
