use Rattle.std.proofs.Common.{◌∙◌, ◌+◌, ◌++◌, ◌∷◌, [], sym, subst}
use Rattle.p3_formula.specs.Guards.{IsGuardedForm, turned}
use Rattle.p3_base.specs.Copies.{answer_name}
use Rattle.p3_precprefs.specs.Questions.{IsAnswer}
use Rattle.p3_precprefs.proofs.LinkLaws.{linked}
use Rattle.p3_precprefs.proofs.questions.answer_action.Goals as goal

pub returns : goal.returns
returns c =
    let at = c.args.at.now in
    let atom = at.first + at.place in
    let next = at.first + (at.place + 1) in
    subst (IsAnswer at.first at.current at.number at.place c.args.holds c.args.body.now c.args.cost) (sym c.link.ensures)
    (linked (answer_name c.args.holds at.number at.place) c.in_ok-name.name (atom ∷ at.current ∷ []) c.args.body.now c.in_ok-condition.condition c.in_ok-pre.pre c.args.holds
    (turned (atom ∷ []) (next ∷ [])) c.in_ok-effects.effects c.args.cost
    c.in_ok-name.ensures c.in_ok-condition.ensures (c.in_ok-effects.ensures ∙ (λ i. c.new.ensures i ++ turned (c.as_slice-2.ensures i) (c.as_slice-3.ensures i)))
    (subst (λ guards. IsGuardedForm guards c.in_ok-condition.condition c.in_ok-pre.pre) c.as_slice.ensures c.in_ok-pre.ensures))
