use Rattle.std.proofs.Common.{◌≡◌, ◌⊎◌, false, sym, ap, subst, inl, inr}
use Rattle.p3_formula.specs.Lasting.{stays_broken}
use Rattle.p3_formula.specs.declared.form.Form.{Form}
use Rattle.p3_formula.specs.GroundModal.{GroundModal}
use Rattle.p3_base.specs.declared.operator.Operator.TheVariants.{AtEnd, Always, Sometime, AtMostOnce, SometimeAfter, SometimeBefore}
use Rattle.p3_monitors.specs.Guards.{IsGuarding}
use Rattle.p3_monitors.proofs.GuardLaws as laws
use Rattle.p3_monitors.proofs.monitoring.guard.Goals as goal

pub returns-in-Always-clause-guarding : goal.returns-in-Always-clause-guarding
returns-in-Always-clause-guarding c =
    let form = c.in-Always.form in
    let step = c.args.regressed.now.effects in
    laws.guards_operator c.args.base step c.args.modal.now (Always form) c.turned.result c.in-Always.is c.requires.below (λ later made below. laws.always_guard c.args.base step form later made below) c.turned.ensures.made

pub returns-in_ok-turned-in-AtMostOnce-clause-guarding : goal.returns-in_ok-turned-in-AtMostOnce-clause-guarding
returns-in_ok-turned-in-AtMostOnce-clause-guarding c =
    let form = c.in-AtMostOnce.form in
    let step = c.args.regressed.now.effects in
    let later = c.in_ok-turned-in-AtMostOnce in
    laws.guards_operator c.args.base step c.args.modal.now (AtMostOnce form) c.not_back.result c.in-AtMostOnce.is c.requires.below
    (λ guard same below. subst (IsGuarding c.args.base (AtMostOnce form) step) (sym same) (laws.at_most_once_guard c.args.base step form later.field-0 later.ensures.made below)) c.not_back.ensures

pub returns-in_ok-turned-in-SometimeBefore-clause-guarding : goal.returns-in_ok-turned-in-SometimeBefore-clause-guarding
returns-in_ok-turned-in-SometimeBefore-clause-guarding c =
    let first = c.in-SometimeBefore.first in
    let second = c.in-SometimeBefore.field-1 in
    let step = c.args.regressed.now.effects in
    let later = c.in_ok-turned-in-SometimeBefore in
    laws.guards_operator c.args.base step c.args.modal.now (SometimeBefore first second) c.not_early.result c.in-SometimeBefore.is c.requires.below
    (λ guard same below. subst (IsGuarding c.args.base (SometimeBefore first second) step) (sym same) (laws.sometime_before_guard c.args.base step first second later.field-0 later.ensures.made below)) c.not_early.ensures

mends : {modal : GroundModal} → ((f : Form) × (modal ≡ AtEnd f)) ⊎ (((f : Form) × (modal ≡ Sometime f)) ⊎ ((f : Form) × (g : Form) × (modal ≡ SometimeAfter f g))) → stays_broken modal ≡ false
mends (inl (f, is)) = ap stays_broken is
mends (inr (inl (f, is))) = ap stays_broken is
mends (inr (inr (f, g, is))) = ap stays_broken is

pub returns-in-AtEnd-clause-guarding : goal.returns-in-AtEnd-clause-guarding
returns-in-AtEnd-clause-guarding c = laws.unguarded c.args.base c.args.regressed.now.effects c.args.modal.now (mends c.in-AtEnd.is)
