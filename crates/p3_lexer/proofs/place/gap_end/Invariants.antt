use Rattle.std.proofs.Common.{◌≡◌, ◌≤◌, ◌+◌, ◌-◌, false, drop, length}
use Rattle.p3_lexer.specs.Lexing.{gap_len}
use Rattle.p3_lexer.proofs.place.gap_end.Given as goal

-- blanks and whole comments were passed
abbrev pub invariant-loop-place : goal.invariant-loop-place
invariant-loop-place l = record {
  within : l.place ≤ length l.text;
  gap : l.place + gap_len false (drop l.place l.text) ≡ l.at + gap_len false (drop l.at l.text);
}

abbrev pub decreases-loop-place : goal.decreases-loop-place
decreases-loop-place l = length l.text - l.place
