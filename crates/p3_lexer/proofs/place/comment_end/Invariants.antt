use Rattle.std.proofs.Common.{◌≡◌, ◌+◌, true, drop}
use Rattle.p3_lexer.specs.Lexing.{gap_len}
use Rattle.p3_lexer.proofs.place.comment_end.Given as goal

-- no line feed was passed
abbrev pub invariant-loop-place : goal.invariant-loop-place
invariant-loop-place l = l.place + gap_len true (drop l.place l.text) ≡ l.at + gap_len true (drop l.at l.text)
