use Rattle.std.proofs.Common.{◌∙◌, ◌++◌, ap}
use Rattle.p3_compile.specs.Guarding.{guarded_by}
use Rattle.p3_compile.proofs.UpdateLists.{made_of}
use Rattle.p3_compile.proofs.changes.guarded_step.Goals as goal

pub returns-clause-pre : goal.returns-clause-pre
returns-clause-pre c =
    let guards = c.in_ok-riders.riders.guards.items in
    record {
      guards = guards;
      has = c.in_ok-riders.ensures.guards;
      is = c.in_ok-pre.ensures ∙ ap (λ pre. guarded_by pre guards) c.replace-hard.ensures.value;
    }

pub returns-clause-changes : goal.returns-clause-changes
returns-clause-changes c =
    let updates = c.in_ok-riders.riders.updates.items in
    made_of c.args.step.now.effects c.args.frame.now.monitors updates c.in_ok-effects.effects c.in_ok-riders.ensures.updates
    (c.in_ok-effects.ensures ∙ ap (λ own. own ++ updates) c.replace-own.ensures.value)

pub returns-clause-left : goal.returns-clause-left
returns-clause-left c =
    let step = c.args.step.now in
    let effects = c.replace-own.ensures.after ∙ c.new.ensures in
    λ i. record { number = step.number; pre = c.replace-hard.ensures.after i; prefs = step.prefs; effects = effects i; cost = step.cost }
