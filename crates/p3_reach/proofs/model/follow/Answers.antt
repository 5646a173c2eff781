use Rattle.std.proofs.Common.{◌≡◌, ◌∙◌, ◌+◌, ◌<◌, length, take, get_or, sym, subst, arith}
use Rattle.std.proofs.lemmas.Bool.{and_left, and_right, and_from}
use Rattle.std.proofs.lemmas.List.{get_or_default}
use Rattle.p3_formula.specs.Forms.{is_set}
use Rattle.p3_reach.specs.Derived.{Follows}
use Rattle.p3_reach.specs.declared.rules.Rule.{Rule}
use Rattle.p3_reach.proofs.DerivedLaws.{follows_idle, follows_more, gives_within}
use Rattle.p3_reach.proofs.model.follow.Goals as goal
use Rattle.p3_reach.proofs.model.follow.Goals.{then-get+then-get-2+in_ok-add, else-get, else-get-via-then-get+else-get-2, else-get-via-else-get}

pub loop-rule-preserved : goal.loop-rule-preserved
loop-rule-preserved c =
    let rules = c.args.rules.now in
    let at = c.loop-rule.rule-index in
    let old = c.args.found.now in
    let found = c.loop-rule.found in
    let zero : Rule = record { first = 0; second = 0; gives = 0 } in
    let rule = get_or rules at zero in
    let is : rule ≡ get_or rules at rule = get_or_default rules at zero rule c.loop-rule-test.true in
    let idle = follows_idle rules old found at rule c.loop-rule-test.true is c.loop-rule.invariant in
    let more = follows_more rules old found at rule c.loop-rule-test.true is c.loop-rule.invariant in
    let inside : rule.gives < length found.held = let size = c.loop-rule.invariant.size in let below = gives_within rules at zero (length old.held) c.loop-rule-test.true c.requires.within in omega (arith, size, below) in
    elim c.if-get.branch [
      | then-get+then-get-2+in_ok-add w ↦ subst (Follows (take (at + 1) rules) old) (sym w.found-is)
          (more w.add.new.self (and_from (is_set found.held rule.first) (is_set found.held rule.second) (sym c.get.ensures ∙ w.if-get.true) (sym w.get-then-get.ensures ∙ w.if-get-2.true)) inside w.in_ok-add.ensures)
      | else-get w ↦ subst (Follows (take (at + 1) rules) old) (sym w.found-is) (idle (elim w.else-get.branch [
        | else-get-via-then-get+else-get-2 w' ↦ and_right (is_set found.held rule.first) (is_set found.held rule.second) (sym w'.get-then-get.ensures ∙ w'.if-get-2.false)
        | else-get-via-else-get w' ↦ and_left (is_set found.held rule.first) (is_set found.held rule.second) (sym c.get.ensures ∙ w'.if-get.false)
      ]))
    ]
