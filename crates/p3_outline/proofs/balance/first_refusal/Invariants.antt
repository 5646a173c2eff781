use Rattle.std.proofs.Common.{◌≡◌, ◌≤◌, ◌-◌, length}
use Rattle.p3_lexer.specs.Lexing.{left}
use Rattle.p3_outline.specs.Balances.{depth, found_in, balance_refusal}
use Rattle.p3_outline.proofs.balance.first_refusal.Given as goal

-- what is left has the first offence of the text
abbrev pub invariant-loop-word : goal.invariant-loop-word
invariant-loop-word l = record {
  source : l.lexer.source ≡ l.text;
  deep : depth l.scan ≤ l.lexer.at;
  leads : found_in l.role l.limit (length l.text) l.scan (left l.lexer) ≡ balance_refusal l.role l.limit l.text;
}

abbrev pub decreases-loop-word : goal.decreases-loop-word
decreases-loop-word l = length l.text - l.lexer.at
