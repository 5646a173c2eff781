use Rattle.std.proofs.Common.{◌≡◌, ◌≤◌, drop, length}
use Rattle.p3_types.specs.Finds.{IsStretch}
use Rattle.p3_lexer.specs.StepWords.{words_left}
use Rattle.p3_types.proofs.words.choice_of_words.Given as goal

abbrev pub invariant-loop-place : goal.invariant-loop-place
invariant-loop-place l = record {
  stretch : IsStretch l.numbers l.ranges (words_left l.initial.lexer) l.place l.stretch;
  taken : l.place ≤ length (words_left l.initial.lexer);
  words : words_left l.lexer ≡ drop l.place (words_left l.initial.lexer);
}
