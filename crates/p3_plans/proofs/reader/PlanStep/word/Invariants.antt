use Rattle.std.proofs.Common.{◌≡◌, drop}
use Rattle.p3_lexer.specs.StepWords.{words_left}
use Rattle.p3_plans.proofs.reader.PlanStep.word.Given as goal

-- so many words are passed
abbrev pub invariant-loop-passed : goal.invariant-loop-passed
invariant-loop-passed l = record {
  source : l.lexer.source ≡ l.initial.lexer.source;
  words : words_left l.lexer ≡ drop l._passed (words_left l.initial.lexer);
}
