use Rattle.std.proofs.Common.{◌≡◌, ◌-◌, length}
use Rattle.p3_lexer.specs.Lexing.{left}
use Rattle.p3_plans.proofs.DraftLemmas.{IsRead}
use Rattle.p3_plans.proofs.read.read_plan.Given as goal

abbrev pub invariant-loop-word : goal.invariant-loop-word
invariant-loop-word l = record {
  source : l.lexer.source ≡ l.text;
  read : IsRead l.text l.draft (left l.lexer);
}

abbrev pub decreases-loop-word : goal.decreases-loop-word
decreases-loop-word l = length l.text - l.lexer.at
