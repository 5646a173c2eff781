use Rattle.std.proofs.Common.{◌≡◌, ◌∙◌, ◌+◌, ◌<◌, true, length, take, get_or, sym, ap, subst, arith}
use Rattle.std.proofs.lemmas.List.{get_or_default, length-set}
use Rattle.std.specs.List.{list_all}
use Rattle.p3_reach.specs.Derived.{AreFiled}
use Rattle.p3_reach.specs.Rules.{is_rule_below}
use Rattle.p3_reach.specs.declared.rules.Rule.{Rule}
use Rattle.p3_reach.proofs.DerivedLaws.{filed_more, premises_within}
use Rattle.p3_reach.proofs.model.filed.Goals as goal

pub loop-rule-preserved : goal.loop-rule-preserved
loop-rule-preserved c =
    let theory = c.args.theory.now in
    let rules = c.items-rule-items.result.now in
    let same : rules ≡ theory.rules = c.items-rule-items.ensures in
    let at = c.loop-rule.rule-index in
    let within : at < length rules = c.loop-rule-test.true in
    let zero : Rule = record { first = 0; second = 0; gives = 0 } in
    let rule = get_or rules at zero in
    let files = c.loop-rule.files.items in
    let mid = c.file.new.files.items in
    let new = c.file-in-loop-rule.new.files.items in
    let size = c.loop-rule.invariant.size in
    let premises = premises_within rules at zero (length theory.facts) within (subst (λ list. list_all (is_rule_below (length theory.facts)) list ≡ true) (sym same) theory.within) in
    let first_in : rule.first < length files = let here = premises.0 in omega (arith, size, here) in
    let second_in : rule.second < length files = let here = premises.1 in omega (arith, size, here) in
    record {
      size = ap length c.in_ok-file-2.ensures ∙ length-set mid _ _ ∙ ap length c.in_ok-file.ensures ∙ length-set files _ _ ∙ size;
      filed = subst (λ list. AreFiled (take (at + 1) list) new) same
          (filed_more rules at rule within (get_or_default rules at zero rule within) files mid new first_in second_in c.in_ok-file.ensures c.in_ok-file-2.ensures
          (subst (λ list. AreFiled (take at list) files) (sym same) c.loop-rule.invariant.filed));
    }
