use Rattle.std.proofs.Common.{subst, sym}
use Rattle.p3_formula.specs.Modals.{IsModalBelow}
use Rattle.p3_base.specs.declared.operator.Operator.TheVariants.{AtEnd, Always, Sometime, AtMostOnce, SometimeAfter, SometimeBefore}
use Rattle.p3_monitors.specs.Updates.{IsUpdate, always, sometime, at_most_once, sometime_after, sometime_before}
use Rattle.p3_monitors.proofs.UpdateLaws as laws
use Rattle.p3_monitors.proofs.monitoring.updates.Goals as goal

pub returns-in-AtEnd-clause-update : goal.returns-in-AtEnd-clause-update
returns-in-AtEnd-clause-update c =
    let form = c.in-AtEnd.field-0 in
    let step = c.args.regressed.now.effects in
    let below = subst (IsModalBelow c.args.base) c.in-AtEnd.is c.requires.below in
    subst (λ m. IsUpdate c.args.base m step c.new.result) (sym c.in-AtEnd.is)
    (subst (IsUpdate c.args.base (AtEnd form) step) (sym c.new.ensures) (laws.at_end_update c.args.base step form below))

pub returns-in_ok-turned-in-Always-clause-update : goal.returns-in_ok-turned-in-Always-clause-update
returns-in_ok-turned-in-Always-clause-update c =
    let form = c.in-Always.form in
    let step = c.args.regressed.now.effects in
    let later = c.in_ok-turned-in-Always in
    laws.updated c.args.base step (always c.args.base later.field-0) c.args.modal.now (Always form) c.always.result c.in-Always.is c.requires.below
    (laws.always_update c.args.base step form later.field-0 later.ensures.made) c.always.ensures

pub returns-in_ok-turned-in-Sometime-clause-update : goal.returns-in_ok-turned-in-Sometime-clause-update
returns-in_ok-turned-in-Sometime-clause-update c =
    let form = c.in-Sometime.form in
    let step = c.args.regressed.now.effects in
    let later = c.in_ok-turned-in-Sometime in
    laws.updated c.args.base step (sometime c.args.base later.field-0) c.args.modal.now (Sometime form) c.sometime.result c.in-Sometime.is c.requires.below
    (laws.sometime_update c.args.base step form later.field-0 later.ensures.made) c.sometime.ensures

pub returns-in_ok-turned-in-AtMostOnce-clause-update : goal.returns-in_ok-turned-in-AtMostOnce-clause-update
returns-in_ok-turned-in-AtMostOnce-clause-update c =
    let form = c.in-AtMostOnce.form in
    let step = c.args.regressed.now.effects in
    let later = c.in_ok-turned-in-AtMostOnce in
    laws.updated c.args.base step (at_most_once c.args.base form later.field-0) c.args.modal.now (AtMostOnce form) c.at_most_once.result c.in-AtMostOnce.is c.requires.below
    (laws.at_most_once_update c.args.base step form later.field-0 later.ensures.made) c.at_most_once.ensures

pub returns-in_ok-met-in-SometimeAfter-clause-update : goal.returns-in_ok-met-in-SometimeAfter-clause-update
returns-in_ok-met-in-SometimeAfter-clause-update c =
    let step = c.args.regressed.now.effects in
    let both = c.in_ok-met-in-SometimeAfter in
    laws.updated c.args.base step (sometime_after c.args.base both.met both.awaited) c.args.modal.now (SometimeAfter c.in-SometimeAfter.first c.in-SometimeAfter.second) c.sometime_after.result c.in-SometimeAfter.is c.requires.below
    (laws.sometime_after_update c.args.base step c.in-SometimeAfter.first c.in-SometimeAfter.second both.met both.awaited both.ensures.met both.ensures.awaited) c.sometime_after.ensures

pub returns-in_ok-first-in-SometimeBefore-clause-update : goal.returns-in_ok-first-in-SometimeBefore-clause-update
returns-in_ok-first-in-SometimeBefore-clause-update c =
    let step = c.args.regressed.now.effects in
    let both = c.in_ok-first-in-SometimeBefore in
    laws.updated c.args.base step (sometime_before c.args.base both.first both.second) c.args.modal.now (SometimeBefore c.in-SometimeBefore.first c.in-SometimeBefore.second) c.sometime_before.result c.in-SometimeBefore.is c.requires.below
    (laws.sometime_before_update c.args.base step c.in-SometimeBefore.first c.in-SometimeBefore.second both.first both.second both.ensures.first both.ensures.second) c.sometime_before.ensures
