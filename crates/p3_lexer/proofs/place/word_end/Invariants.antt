use Rattle.std.proofs.Common.{◌≡◌, ◌+◌, drop}
use Rattle.std.specs.List.{prefix_len}
use Rattle.p3_task.specs.Tokens.{is_of_word}
use Rattle.p3_lexer.proofs.place.word_end.Given as goal

-- each byte passed is of a word
abbrev pub invariant-loop-place : goal.invariant-loop-place
invariant-loop-place l = l.place + prefix_len is_of_word (drop l.place l.text) ≡ l.at + prefix_len is_of_word (drop l.at l.text)
