use Rattle.std.proofs.Common.{◌≡◌, ◌∙◌, ◌++◌, map, sym, ap, subst}
use Rattle.std.specs.List.{AllZip}
use Rattle.p3_task.specs.Metrics.{step_prefs}
use Rattle.p3_task.specs.Slots.{words_of}
use Rattle.p3_task.proofs.OnceLemmas.{Some-injective}
use Rattle.p3_scenes.specs.Bound.{IsBoundPref}
use Rattle.p3_scenes.specs.Lent.{lent_words}
use Rattle.p3_scenes.specs.Scenes.{action_scenes, state_scenes}
use Rattle.p3_scenes.specs.Seen.{seen_pref}
use Rattle.p3_scenes.proofs.StepLaws.{step-scenes-bound}
use Rattle.p3_scenes.proofs.task.preference_scenes.Goals as goal

pub returns : goal.returns
returns c own is =
    let T = c.args.task.now in
    let X = c.args.numbered.now in
    let same : c.in-Some.action.now ≡ is.action = Some-injective c.in-Some.action.now is.action (c.in-Some.ensures.value ∙ is.at) in
    let words : lent_words c.as_slice.result.now ≡ words_of is.action.params = ap lent_words c.as_slice.ensures.value ∙ c.in_ok-scope.ensures ∙ ap words_of c.items.ensures ∙ (λ i. words_of (same i).params) in
    let whole : map seen_pref c.push_preferences.new.found ≡ action_scenes X.numbers is.action c.args.step.now.objects = c.in_ok-push_preferences.ensures
    ∙ (λ i. map seen_pref (c.new-found.ensures i) ++ state_scenes X.numbers (same i).pre.body (words i) (c.items-objects.ensures i)) in
    subst (AllZip (IsBoundPref X.numbers) (step_prefs T own)) (sym whole) (step-scenes-bound T X c.requires.well_formed c.requires.numbered own c.args.step.now is)
