use Rattle.p3_formula.specs.Weighted.{weighted_cost}
use Rattle.p3_precprefs.specs.Questions.{IsEnd}
use Rattle.std.proofs.Common.{◌∙◌, ◌+◌, ◌++◌, ◌∷◌, [], ap, subst}
use Rattle.p3_precprefs.proofs.questions.chain.Goals as goal

pub returns : goal.returns
returns c =
    let step = c.args.step.now in
    let asked = c.in_ok-count.ensures.pushed in
    record {
      begin = c.in_ok-begin_action.field-0;
      answers = asked.answers;
      ending = c.in_ok-ending.ending;
      are = c.in_ok-push-2.ensures.ok ∙ ap (λ list. list ++ c.in_ok-ending.ending ∷ []) asked.are
          ∙ ap (λ list. (list ++ asked.answers) ++ c.in_ok-ending.ending ∷ []) (c.in_ok-push.ensures.ok ∙ ap (λ list. list ++ c.in_ok-begin_action.field-0 ∷ []) c.new-actions.ensures);
      begins = c.in_ok-begin_action.ensures;
      asks = asked.asks;
      ends = subst (λ count. IsEnd c.args.go (c.args.first + count) c.args.current step.number c.args.effects.now (weighted_cost c.args.weights.now step) c.in_ok-ending.ending) c.in_ok-count.ensures.count
          (subst (λ cost. IsEnd c.args.go (c.args.first + c.in_ok-count.count) c.args.current step.number c.args.effects.now cost c.in_ok-ending.ending) c.weighted_cost-cost.ensures c.in_ok-ending.ensures);
    }
