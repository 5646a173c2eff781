use Rattle.std.proofs.Common.{rules, ◌≡◌, ◌∙◌, None, Some, List, [], ◌∷◌, ◌++◌, map, sym, ap, subst}
use Rattle.std.specs.Prelude.{flat_map, OnOk}
use Rattle.std.specs.Option.{option_copied}
use Rattle.std.proofs.lemmas.List.{append-nil, map-append}
use Rattle.p3_task.specs.Slots.{words_of}
use Rattle.p3_task.specs.declared.goal.PreGoal.TheViews.{the_lemmas}
use Rattle.p3_numbers.specs.Conditions.{condition_of}
use Rattle.p3_numbers.specs.Goals.{goal_of, numbered_name}
use Rattle.p3_numbers.specs.Places.{ranges_of}
use Rattle.p3_numbers.specs.Slots.{Slots, bound}
use Rattle.p3_numbers.specs.declared.goal.NumberedPreference.{NumberedPreference}
use Rattle.p3_scenes.specs.Lent.{lent_words}
use Rattle.p3_scenes.specs.Scenes.{StateScene, state_scene_of, state_scenes}
use Rattle.p3_scenes.specs.Seen.{seen_pref}
use Rattle.p3_resolve.proofs.GoalLemmas.{goal_of-Both, goal_of-Each, goal_of-Soft}
use Rattle.p3_scenes.proofs.EachChoice.{found-all, found-more, slots-stay}
use Rattle.p3_scenes.proofs.SceneLemmas.{state_scenes-Plain, state_scenes-Both, state_scenes-Each, state_scenes-Soft}
use Rattle.p3_scenes.proofs.preference.+preferences.Goals as goal

pub push_preferences-push_parts-requires : goal.push_preferences-push_parts-requires
push_preferences-push_parts-requires t c =
    let N = c.args.numbers.now in
    let scope = lent_words c.args.scope.now in (
      search (rules, the_lemmas),
      c.goals_in-others.ensures _ (c.requires ∙ ap (λ tree. goal_of N tree scope) c.in-Both.is ∙ goal_of-Both N scope c.in-Both.parts)
          ∙ ap (map (λ part. goal_of N part scope)) (sym c.items.ensures),
    )

pub push_preferences-push_bodies-requires : goal.push_preferences-push_bodies-requires
push_preferences-push_bodies-requires t c =
    let N = c.args.numbers.now in
    let scope = lent_words c.args.scope.now in
    let words : lent_words c.as_slice.result.now ≡ scope ++ words_of c.in-Each.variables = ap lent_words c.as_slice.ensures.value ∙ c.in_ok-inner-in-Each.ensures ∙ ap (λ list. scope ++ words_of list) c.items-in-Each.ensures in (
      search (rules, the_lemmas),
      c.goal_body_in-other.ensures _ _ (c.requires ∙ ap (λ tree. goal_of N tree scope) c.in-Each.is ∙ goal_of-Each N scope c.in-Each.variables c.in-Each.body)
          ∙ (λ i. goal_of N (sym c.get.ensures i) (sym words i)),
    )

pub push_preferences-unreachable-requires : goal.push_preferences-unreachable-requires
push_preferences-unreachable-requires t c =
    let N = c.args.numbers.now in
    let scope = lent_words c.args.scope.now in
    let there = c.preference_in.ensures _ (c.requires ∙ ap (λ tree. goal_of N tree scope) c.in-Soft.is ∙ goal_of-Soft N scope c.in-Soft.preference) in
    let absent : option_copied c.preference_in.result ≡ None = ap option_copied c.in_default.is in
    absurd (cc)

pub push_preferences-returns-in-Plain : goal.push_preferences-returns-in-Plain
push_preferences-returns-in-Plain t c =
    let N = c.args.numbers.now in
    let scope = lent_words c.args.scope.now in
    let slots = c.args.slots.now in
    sym (append-nil (map seen_pref c.args.found.now))
    ∙ ap (λ more. map seen_pref c.args.found.now ++ more) (sym (ap (λ tree. state_scenes N tree scope slots) c.in-Plain.is ∙ state_scenes-Plain N scope slots c.in-Plain.field-0))

pub push_preferences-returns-in-Both : goal.push_preferences-returns-in-Both
push_preferences-returns-in-Both t c =
    let N = c.args.numbers.now in
    let scope = lent_words c.args.scope.now in
    let slots = c.args.slots.now in
    subst (λ more. OnOk c.push_parts.result (map seen_pref c.push_parts.new.found ≡ map seen_pref c.args.found.now ++ more))
    (ap (flat_map (λ part. state_scenes N part scope slots)) c.items.ensures
    ∙ sym (ap (λ tree. state_scenes N tree scope slots) c.in-Both.is ∙ state_scenes-Both N scope slots c.in-Both.parts))
    c.push_parts.ensures

pub push_preferences-returns-in_ok-inner-in-Each : goal.push_preferences-returns-in_ok-inner-in-Each
push_preferences-returns-in_ok-inner-in-Each t c =
    let N = c.args.numbers.now in
    let scope = lent_words c.args.scope.now in
    let slots = c.args.slots.now in
    let words : lent_words c.as_slice.result.now ≡ scope ++ words_of c.in-Each.variables = ap lent_words c.as_slice.ensures.value ∙ c.in_ok-inner-in-Each.ensures ∙ ap (λ list. scope ++ words_of list) c.items-in-Each.ensures in
    let ranges : c.goal_ranges_in-ranges.result.now ≡ ranges_of N c.in-Each.variables = c.goal_ranges_in-ranges.ensures _ _ (c.requires ∙ ap (λ tree. goal_of N tree scope) c.in-Each.is ∙ goal_of-Each N scope c.in-Each.variables c.in-Each.body) in
    subst (λ more. OnOk c.push_bodies.result (map seen_pref c.push_bodies.new.found ≡ map seen_pref c.args.found.now ++ more))
    ((λ i. flat_map (state_scenes N (c.get.ensures i) (words i)) (bound N slots (ranges i)))
    ∙ sym (ap (λ tree. state_scenes N tree scope slots) c.in-Each.is ∙ state_scenes-Each N scope slots c.in-Each.variables c.in-Each.body))
    c.push_bodies.ensures

pub push_preferences-returns-in_ok-push-in-Soft : goal.push_preferences-returns-in_ok-push-in-Soft
push_preferences-returns-in_ok-push-in-Soft t c =
    let N = c.args.numbers.now in
    let scope = lent_words c.args.scope.now in
    let slots = c.args.slots.now in
    let pref = c.in-Soft.preference in
    let other : NumberedPreference = record { at = pref.at; name = numbered_name N pref.name; body = condition_of N pref.body scope } in
    let there : Some c.in-Some.other.now ≡ Some other = c.in-Some.ensures _ (c.requires ∙ ap (λ tree. goal_of N tree scope) c.in-Soft.is ∙ goal_of-Soft N scope pref) in
    let same : c.in-Some.other.now ≡ other = cc in
    ap (map seen_pref) c.in_ok-push-in-Soft.ensures.ok ∙ map-append seen_pref c.args.found.now (c.in_ok-scene-in-Soft.scene ∷ [])
    ∙ ap (λ more. map seen_pref c.args.found.now ++ more)
    (ap (λ (one : StateScene). one ∷ []) (c.in_ok-scene-in-Soft.ensures ∙ (λ i. state_scene_of (c.get-in-Soft.ensures i) (same i).body scope slots))
    ∙ sym (ap (λ tree. state_scenes N tree scope slots) c.in-Soft.is ∙ state_scenes-Soft N scope slots pref))

pub push_bodies-loop-choice-preserved : goal.push_bodies-loop-choice-preserved
push_bodies-loop-choice-preserved t c =
    let N = c.args.numbers.now in
    let slots = c.args.slots.now in
    let ranges = c.args.ranges.now in
    let of : Slots → List StateScene = state_scenes c.args.numbers.now c.args.body.now (lent_words c.args.scope.now) in
    record {
      outer = slots-stay N slots ranges _ _ c.in_ok-place_choice.ensures c.loop-choice.invariant.outer;
      found =
          found-more N slots ranges of c.in_ok-count.ensures _ _ (map seen_pref c.args.found.now) (map seen_pref c.loop-choice.found) (map seen_pref c.push_preferences.new.found) c.loop-choice-test.true
          c.in_ok-place_choice.ensures c.loop-choice.invariant.outer c.as_slice.ensures.value c.loop-choice.invariant.found c.in_ok-push_preferences.ensures;
    }

pub push_bodies-returns : goal.push_bodies-returns
push_bodies-returns t c =
    let of : Slots → List StateScene = state_scenes c.args.numbers.now c.args.body.now (lent_words c.args.scope.now) in
    found-all c.args.numbers.now c.args.slots.now c.args.ranges.now of c.in_ok-count.ensures (map seen_pref c.args.found.now) (map seen_pref c.loop-choice.found) c.loop-choice-test.false c.loop-choice.invariant.found
