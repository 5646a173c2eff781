use Rattle.std.proofs.Common.{◌≡◌, ◌-◌, length}
use Rattle.p3_lexer.specs.Lexing.{left}
use Rattle.p3_task.specs.Tokens.{tokens_of}
use Rattle.p3_task.specs.Watching.{second_step}
use Rattle.p3_plans.specs.Lines.{second_by}
use Rattle.p3_plans.proofs.line.second_step.Given as goal

-- the tokens left have the `(` that all have
abbrev pub invariant-loop-text : goal.invariant-loop-text
invariant-loop-text l = record {
  source : l.lexer.source ≡ l.line;
  same : second_by l.closed (left l.lexer).tokens ≡ second_step (tokens_of l.line).tokens;
}

abbrev pub decreases-loop-text : goal.decreases-loop-text
decreases-loop-text l = length l.line - l.lexer.at
