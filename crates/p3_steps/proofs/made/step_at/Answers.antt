use Rattle.std.proofs.Common.{rules, ◌≡◌, ◌∙◌, [], refl, subst}
use Rattle.p3_numbers.specs.Goals.{preferences}
use Rattle.p3_steps.specs.Costs.{cost_of}
use Rattle.p3_expansion.specs.Preferences.{PreferencesStand, preference_atoms}
use Rattle.p3_expansion.specs.Walks.{Pushes}
use Rattle.p3_steps.specs.Steps.{planned_step}
use Rattle.p3_steps.proofs.StepLemmas.{makes-step}
use Rattle.p3_steps.proofs.made.step_at.Goals as goal

pub returns : goal.returns
returns c =
    let N = c.args.task.now.numbers in
    let S = c.args.statics.now in
    let slots = c.args.slots.now in
    let pre = c.args.action.now.pre in
    let empty : c.from-prefs.result ≡ [] = search rules in
    makes-step c.args.task.now S c.args.costs.now.places (planned_step c.args.action.now c.args.first c.args.choice) slots c.requires.slots
    c.args.work.now c.hard_form.new.work c.push_preferences.new.work c.changes.new.work c.in_ok-pre.pre c.push_preferences.new.made c.in_ok-effects.effects _ c.in_ok-pre.ensures
    (
    subst (λ before. Pushes (PreferencesStand N S) (preference_atoms N slots pre) c.hard_form.new.work c.push_preferences.new.work (preferences N slots pre) before c.push_preferences.new.made)
    empty c.in_ok-push_preferences.ensures
    )
    c.in_ok-effects.ensures refl refl refl refl (c.in_ok-cost.ensures ∙ (λ i. cost_of c.args.costs.now.places (c.requires.values i) slots c.args.action.now.effect))
