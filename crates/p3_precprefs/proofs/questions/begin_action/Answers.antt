use Rattle.std.proofs.Common.{◌∙◌, ◌++◌, ◌∷◌, [], true, refl, sym, subst}
use Rattle.p3_base.specs.Copies.{copy_prefix}
use Rattle.p3_formula.specs.Guards.{IsGuardedForm, turned}
use Rattle.p3_precprefs.specs.Questions.{IsBegin}
use Rattle.p3_precprefs.proofs.LinkLaws.{linked}
use Rattle.p3_precprefs.proofs.questions.begin_action.Goals as goal

pub returns : goal.returns
returns c =
    let go = c.args.go in
    let on = c.args.first ∷ c.args.current ∷ [] in
    subst (IsBegin go c.args.first c.args.current c.args.step.now) (sym c.link.ensures)
    (linked (copy_prefix c.args.step.now.number) c.in_ok-name.name (go ∷ []) c.args.step.now.pre c.args.step.now.pre c.in_ok-pre.pre true (turned (go ∷ []) on) c.in_ok-effects.effects 0
    c.in_ok-name.ensures refl (c.in_ok-effects.ensures ∙ (λ i. c.new.ensures i ++ turned (c.as_slice-2.ensures i) (c.as_slice-3.ensures i)))
    (subst (λ guards. IsGuardedForm guards c.args.step.now.pre c.in_ok-pre.pre) c.as_slice.ensures c.in_ok-pre.ensures))
