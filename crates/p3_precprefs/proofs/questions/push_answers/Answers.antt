use Rattle.std.proofs.Common.{◌∙◌, ◌++◌, ◌∷◌, [], ap, append_assoc}
use Rattle.p3_precprefs.proofs.questions.push_answers.Goals as goal

pub returns : goal.returns
returns c = record {
  agree = c.in_ok-agree.agree;
  deny = c.in_ok-deny.deny;
  are = c.in_ok-push-2.ensures.ok ∙ ap (λ list. list ++ c.in_ok-deny.deny ∷ []) c.in_ok-push.ensures.ok ∙ append_assoc c.args.actions.now (c.in_ok-agree.agree ∷ []) (c.in_ok-deny.deny ∷ []);
  agrees = c.in_ok-agree.ensures;
  denies = c.in_ok-deny.ensures;
}
