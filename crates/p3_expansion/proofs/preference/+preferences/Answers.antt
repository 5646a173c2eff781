use Rattle.std.proofs.Common.{◌≡◌, ◌∙◌, ◌<◌, ◌≤◌, [], ◌++◌, length, take, sym, ap, subst}
use Rattle.std.proofs.Math.Seq.{take-append_seam, take-length}
use Rattle.std.specs.Prelude.{flat_map}
use Rattle.p3_numbers.specs.Goals.{preferences}
use Rattle.p3_numbers.specs.Slots.{bound}
use Rattle.p3_numbers.proofs.GoalLemmas.{preferences-Both, preferences-Each}
use Rattle.p3_numbers.specs.Choices.{choice, choice_count}
use Rattle.p3_expansion.specs.Preferences.{PreferencesStand, preference_atoms}
use Rattle.p3_expansion.proofs.ChoiceLemmas.{length-bound, bound-at}
use Rattle.p3_expansion.proofs.PreferenceLemmas.{preferences-Plain, atoms-Plain, atoms-Both, atoms-Each}
use Rattle.p3_expansion.proofs.WalkLemmas.{pushes-none, pushes-by, pushes-part, pushes-all}
use Rattle.p3_expansion.proofs.preference.+preferences.Goals as goal

pub push_preferences-returns-in-Plain : goal.push_preferences-returns-in-Plain
push_preferences-returns-in-Plain t c =
    let N = c.args.numbers.now in
    let slots = c.args.slots.now in
    pushes-by (PreferencesStand N c.args.statics.now) (preference_atoms N slots c.args.goal.now) [] c.args.work.now c.args.work.now (preferences N slots c.args.goal.now) [] c.args.made.now c.args.made.now
    (ap (preference_atoms N slots) c.in-Plain.is ∙ atoms-Plain N slots c.in-Plain.field-0) (ap (preferences N slots) c.in-Plain.is ∙ preferences-Plain N slots c.in-Plain.field-0)
    (pushes-none (PreferencesStand N c.args.statics.now) [] c.args.work.now c.args.made.now)

pub push_preferences-returns-in_ok-push_parts-in-Both : goal.push_preferences-returns-in_ok-push_parts-in-Both
push_preferences-returns-in_ok-push_parts-in-Both t c =
    let N = c.args.numbers.now in
    let slots = c.args.slots.now in
    let items = c.items.result.now in
    pushes-by (PreferencesStand N c.args.statics.now) (preference_atoms N slots c.args.goal.now) (flat_map (preference_atoms N slots) items) c.args.work.now c.push_parts.new.work (preferences N slots c.args.goal.now) (flat_map (preferences N slots) items) c.args.made.now c.push_parts.new.made
    (ap (preference_atoms N slots) c.in-Both.is ∙ atoms-Both N slots c.in-Both.parts ∙ ap (flat_map (preference_atoms N slots)) (sym c.items.ensures))
    (ap (preferences N slots) c.in-Both.is ∙ preferences-Both N slots c.in-Both.parts ∙ ap (flat_map (preferences N slots)) (sym c.items.ensures)) c.in_ok-push_parts-in-Both.ensures

pub push_preferences-returns-in_ok-push_bodies-in-Each : goal.push_preferences-returns-in_ok-push_bodies-in-Each
push_preferences-returns-in_ok-push_bodies-in-Each t c =
    let N = c.args.numbers.now in
    let slots = c.args.slots.now in
    let ranges = c.items-ranges.result.now in
    let body = c.get-body.result.now in
    pushes-by (PreferencesStand N c.args.statics.now) (preference_atoms N slots c.args.goal.now) (flat_map (λ inner. preference_atoms N inner body) (bound N slots ranges)) c.args.work.now c.push_bodies.new.work (preferences N slots c.args.goal.now) (flat_map (λ inner. preferences N inner body) (bound N slots ranges)) c.args.made.now c.push_bodies.new.made
    (ap (preference_atoms N slots) c.in-Each.is ∙ atoms-Each N slots c.in-Each.ranges c.in-Each.body ∙ (λ i. flat_map (λ inner. preference_atoms N inner (sym c.get-body.ensures i)) (bound N slots (sym c.items-ranges.ensures i))))
    (ap (preferences N slots) c.in-Each.is ∙ preferences-Each N slots c.in-Each.ranges c.in-Each.body ∙ (λ i. flat_map (λ inner. preferences N inner (sym c.get-body.ensures i)) (bound N slots (sym c.items-ranges.ensures i)))) c.in_ok-push_bodies-in-Each.ensures

pub push_parts-loop-part-init : goal.push_parts-loop-part-init
push_parts-loop-part-init t c = pushes-none (PreferencesStand c.args.numbers.now c.args.statics.now) (flat_map (preference_atoms c.args.numbers.now c.args.slots.now) c.args.parts.now) c.args.work.now c.args.made.now

pub push_parts-loop-part-preserved : goal.push_parts-loop-part-preserved
push_parts-loop-part-preserved t c =
    let N = c.args.numbers.now in
    let slots = c.args.slots.now in
    pushes-part (PreferencesStand N c.args.statics.now) (preferences N slots) (preference_atoms N slots) c.args.parts.now c.args.work.now c.loop-part.work c.push_preferences.new.work c.args.made.now c.loop-part.made c.push_preferences.new.made c.loop-part.part-index c.part-item.result
    c.loop-part-test.true c.part-item.is c.loop-part.invariant c.in_ok-push_preferences.ensures

pub push_bodies-loop-choice-init : goal.push_bodies-loop-choice-init
push_bodies-loop-choice-init t c = record {
  outer = ap (take (length c.args.slots.now)) c.in_ok-inner.ensures.items ∙ take-length c.args.slots.now;
  pushes = pushes-none (PreferencesStand c.args.numbers.now c.args.statics.now) (flat_map (λ inner. preference_atoms c.args.numbers.now inner c.args.body.now) (bound c.args.numbers.now c.args.slots.now c.args.ranges.now)) c.args.work.now c.args.made.now;
}

pub push_bodies-loop-choice-preserved : goal.push_bodies-loop-choice-preserved
push_bodies-loop-choice-preserved t c =
    let N = c.args.numbers.now in
    let slots = c.args.slots.now in
    let ranges = c.args.ranges.now in
    let k = c.loop-choice.choice in
    let within : k < choice_count N ranges = subst (λ n. k < n) c.in_ok-count.ensures c.loop-choice-test.true in
    let inside : k < length (bound N slots ranges) = subst (λ n. k < n) (sym (length-bound N slots ranges)) within in
    let placed : c.place_choice.new.slots.items ≡ slots ++ choice N ranges k = c.in_ok-place_choice.ensures ∙ ap (λ front. front ++ choice N ranges k) c.loop-choice.invariant.outer in
    record {
      outer = ap (take (length slots)) placed ∙ take-append_seam slots (choice N ranges k);
      pushes =
          pushes-part (PreferencesStand N c.args.statics.now) (λ inner. preferences N inner c.args.body.now) (λ inner. preference_atoms N inner c.args.body.now) (bound N slots ranges) c.args.work.now c.loop-choice.work c.push_preferences.new.work c.args.made.now c.loop-choice.made c.push_preferences.new.made k c.as_slice.result.now
          inside (bound-at N slots ranges c.as_slice.result.now k within (c.as_slice.ensures.value ∙ placed)) c.loop-choice.invariant.pushes c.in_ok-push_preferences.ensures;
    }

pub push_bodies-returns : goal.push_bodies-returns
push_bodies-returns t c =
    let N = c.args.numbers.now in
    let slots = c.args.slots.now in
    let ranges = c.args.ranges.now in
    pushes-all (PreferencesStand N c.args.statics.now) (λ inner. preferences N inner c.args.body.now) (λ inner. preference_atoms N inner c.args.body.now) (bound N slots ranges) c.args.work.now c.loop-choice.work c.args.made.now c.loop-choice.made c.loop-choice.choice
    (subst (λ n. n ≤ c.loop-choice.choice) (c.in_ok-count.ensures ∙ sym (length-bound N slots ranges)) c.loop-choice-test.false) c.loop-choice.invariant.pushes
