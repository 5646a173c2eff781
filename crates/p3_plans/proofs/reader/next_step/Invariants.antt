use Rattle.std.proofs.Common.{◌≡◌, ◌≤◌, ◌-◌, length}
use Rattle.p3_lexer.specs.Lexing as lexing
use Rattle.p3_task.specs.PlanTexts.{Outside}
use Rattle.p3_plans.specs.Befores.{the_before, begin_of}
use Rattle.p3_plans.specs.Steps.{parts}
use Rattle.p3_plans.proofs.StepLemmas.{IsBegunAt}
use Rattle.p3_plans.proofs.reader.next_step.Given as goal

-- the tokens left give, behind what was read, what they all give
abbrev pub invariant-loop-word : goal.invariant-loop-word
invariant-loop-word l = record {
  source : l.lexer.source ≡ l.text;
  leads : parts l.text (the_before l.before) (begin_of l.before) (lexing.left l.lexer) ≡ parts l.text (Outside l.given) 0 (lexing.left l.initial.lexer);
  begins : begin_of l.before ≤ l.lexer.at;
  gap : IsBegunAt l.text l.initial.lexer.at l.lexer.at l.before;
}

abbrev pub decreases-loop-word : goal.decreases-loop-word
decreases-loop-word l = length l.text - l.lexer.at
