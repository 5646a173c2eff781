use Rattle.std.proofs.Common.{◌∙◌, ◌++◌, ◌∷◌, [], true, refl, sym, subst}
use Rattle.p3_formula.specs.declared.form.Form.TheVariants.{True}
use Rattle.p3_formula.specs.Guards.{IsGuardedForm, turned}
use Rattle.p3_base.specs.Copies.{end_name}
use Rattle.p3_precprefs.specs.Questions.{IsEnd}
use Rattle.p3_precprefs.proofs.LinkLaws.{linked}
use Rattle.p3_precprefs.proofs.questions.end_action.Goals as goal

pub returns : goal.returns
returns c =
    let guards = c.args.last ∷ c.args.current ∷ [] in
    let go = c.args.go in
    subst (IsEnd go c.args.last c.args.current c.args.number c.args.effects.now c.args.cost) (sym c.link.ensures)
    (linked (end_name c.args.number) c.in_ok-name.name guards True True c.in_ok-pre.pre true (c.args.effects.now ++ turned guards (go ∷ [])) c.in_ok-effects-2.effects c.args.cost
    c.in_ok-name.ensures refl (c.in_ok-effects-2.ensures ∙ (λ i. c.in_ok-effects.ensures i ++ turned (c.as_slice-2.ensures i) (c.as_slice-3.ensures i)))
    (subst (λ list. IsGuardedForm list True c.in_ok-pre.pre) c.as_slice.ensures c.in_ok-pre.ensures))
