-- Rules between propositions, and the sets of propositions that keep them.
use Rattle.std.specs.Prelude.{ℕ, nat_lt, Bool, not, ◌&&◌, ◌||◌}
use Rattle.p3_formula.specs.Forms.{State, is_set}
use Rattle.p3_reach.specs.declared.rules.Rule.{Rule}

-- the propositions of the rule are below the count
abbrev pub is_rule_below : ℕ → Rule → Bool
is_rule_below count rule = nat_lt rule.first count && nat_lt rule.second count && nat_lt rule.gives count

-- where the set has both premises, it has the conclusion
abbrev pub keeps_rule : State → Rule → Bool
keeps_rule set rule = not (is_set set rule.first && is_set set rule.second) || is_set set rule.gives
