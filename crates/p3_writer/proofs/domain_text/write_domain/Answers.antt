use Rattle.std.proofs.Common.{◌≡◌, ◌∙◌, true, List, subst}
use Rattle.std.specs.List.{list_all}
use Rattle.p3_formula.specs.declared.target.TargetAction.{TargetAction}
use Rattle.p3_writer.specs.DomainText.{HasAllActions, first_text, with_actions}
use Rattle.p3_writer.specs.Layout.{is_small}
use Rattle.p3_writer.proofs.domain_text.write_domain.Goals as goal

pub returns : goal.returns
returns c =
    let target = c.args.target.now in
    let all : HasAllActions target c.push.new.self = record {
      is = c.in_ok-push.ensures.layout ∙ (λ i. with_actions (c.in_ok-domain.ensures i) (c.items-2.ensures i)) ∙ (λ i. with_actions (first_text (c.items.ensures i)) target.actions);
      small = subst (λ (actions : List TargetAction). list_all is_small actions ≡ true) c.items-2.ensures c.in_ok-push.ensures.small;
    } in
    record {
      layout = c.finish.ensures.layout target all;
      text = c.finish.ensures.text target all (record { sized = c.requires.sized; predicates = c.requires.predicates; actions = c.requires.actions; spelled = c.requires.spelled });
    }
