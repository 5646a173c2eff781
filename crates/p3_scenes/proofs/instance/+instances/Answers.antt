use Rattle.std.proofs.Common.{rules, ◌≡◌, ◌∙◌, true, List, [], ◌∷◌, ◌++◌, map, sym, ap, subst}
use Rattle.std.specs.Prelude.{flat_map, OnOk}
use Rattle.std.proofs.lemmas.List.{append-nil, map-append}
use Rattle.p3_task.specs.Slots.{words_of}
use Rattle.p3_task.specs.declared.constraint.Constraint.TheViews.{the_lemmas}
use Rattle.p3_numbers.specs.Constraints.{constraint_of}
use Rattle.p3_numbers.specs.Places.{ranges_of}
use Rattle.p3_numbers.specs.Slots.{Slots, bound}
use Rattle.p3_scenes.specs.Lent.{lent_words}
use Rattle.p3_scenes.specs.Scenes.{SoftScene, soft_scene_of, soft_scenes}
use Rattle.p3_scenes.specs.Seen.{seen_soft}
use Rattle.p3_resolve.proofs.ConstraintLemmas.{constraint_of-Both, constraint_of-Each, constraint_of-Soft}
use Rattle.p3_scenes.proofs.EachChoice.{found-all, found-more, slots-stay}
use Rattle.p3_scenes.proofs.SceneLemmas.{soft_scenes-Both, soft_scenes-Each, soft_scenes-Single, soft_scenes-Soft}
use Rattle.p3_scenes.proofs.instance.+instances.Goals as goal

pub push_instances-push_parts-requires : goal.push_instances-push_parts-requires
push_instances-push_parts-requires t c =
    let N = c.args.half.now.numbers.now in
    let scope = lent_words c.args.scope.now in (
      search (rules, the_lemmas),
      c.constraints_in-others.ensures _ (c.requires ∙ ap (λ tree. constraint_of N tree scope) c.in-Both.is ∙ constraint_of-Both N scope c.in-Both.parts)
          ∙ ap (map (λ part. constraint_of N part scope)) (sym c.items.ensures),
    )

pub push_instances-push_bodies-requires : goal.push_instances-push_bodies-requires
push_instances-push_bodies-requires t c =
    let N = c.args.half.now.numbers.now in
    let scope = lent_words c.args.scope.now in
    let words : lent_words c.as_slice.result.now ≡ scope ++ words_of c.in-Each.variables = ap lent_words c.as_slice.ensures.value ∙ c.in_ok-inner-in-Each.ensures ∙ ap (λ list. scope ++ words_of list) c.items-in-Each.ensures in (
      search (rules, the_lemmas),
      c.body_in-other.ensures.each _ _ (c.requires ∙ ap (λ tree. constraint_of N tree scope) c.in-Each.is ∙ constraint_of-Each N scope c.in-Each.variables c.in-Each.body)
          ∙ (λ i. constraint_of N (sym c.get.ensures i) (sym words i)),
    )

pub push_instances-returns-in-Both : goal.push_instances-returns-in-Both
push_instances-returns-in-Both t c =
    let N = c.args.half.now.numbers.now in
    let role = c.args.half.now.role in
    let scope = lent_words c.args.scope.now in
    let slots = c.args.slots.now in
    subst (λ more. OnOk c.push_parts.result (map seen_soft c.push_parts.new.found ≡ map seen_soft c.args.found.now ++ more))
    (ap (flat_map (λ part. soft_scenes N role part scope slots)) c.items.ensures
    ∙ sym (ap (λ tree. soft_scenes N role tree scope slots) c.in-Both.is ∙ soft_scenes-Both N role scope slots c.in-Both.parts))
    c.push_parts.ensures

pub push_instances-returns-in_ok-inner-in-Each : goal.push_instances-returns-in_ok-inner-in-Each
push_instances-returns-in_ok-inner-in-Each t c =
    let N = c.args.half.now.numbers.now in
    let role = c.args.half.now.role in
    let scope = lent_words c.args.scope.now in
    let slots = c.args.slots.now in
    let words : lent_words c.as_slice.result.now ≡ scope ++ words_of c.in-Each.variables = ap lent_words c.as_slice.ensures.value ∙ c.in_ok-inner-in-Each.ensures ∙ ap (λ list. scope ++ words_of list) c.items-in-Each.ensures in
    let ranges : c.ranges_in-ranges.result.now ≡ ranges_of N c.in-Each.variables = c.ranges_in-ranges.ensures _ _ (c.requires ∙ ap (λ tree. constraint_of N tree scope) c.in-Each.is ∙ constraint_of-Each N scope c.in-Each.variables c.in-Each.body) in
    subst (λ more. OnOk c.push_bodies.result (map seen_soft c.push_bodies.new.found ≡ map seen_soft c.args.found.now ++ more))
    ((λ i. flat_map (soft_scenes N role (c.get.ensures i) (words i)) (bound N slots (ranges i)))
    ∙ sym (ap (λ tree. soft_scenes N role tree scope slots) c.in-Each.is ∙ soft_scenes-Each N role scope slots c.in-Each.variables c.in-Each.body))
    c.push_bodies.ensures

pub push_bodies-loop-choice-preserved : goal.push_bodies-loop-choice-preserved
push_bodies-loop-choice-preserved t c =
    let N = c.args.half.now.numbers.now in
    let slots = c.args.slots.now in
    let ranges = c.args.ranges.now in
    let of : Slots → List SoftScene = soft_scenes c.args.half.now.numbers.now c.args.half.now.role c.args.body.now (lent_words c.args.scope.now) in
    record {
      outer = slots-stay N slots ranges _ _ c.in_ok-place_choice.ensures c.loop-choice.invariant.outer;
      found =
          found-more N slots ranges of c.in_ok-count.ensures _ _ (map seen_soft c.args.found.now) (map seen_soft c.loop-choice.found) (map seen_soft c.push_instances.new.found) c.loop-choice-test.true
          c.in_ok-place_choice.ensures c.loop-choice.invariant.outer c.as_slice.ensures.value c.loop-choice.invariant.found c.in_ok-push_instances.ensures;
    }

pub push_bodies-returns : goal.push_bodies-returns
push_bodies-returns t c =
    let of : Slots → List SoftScene = soft_scenes c.args.half.now.numbers.now c.args.half.now.role c.args.body.now (lent_words c.args.scope.now) in
    found-all c.args.half.now.numbers.now c.args.slots.now c.args.ranges.now of c.in_ok-count.ensures (map seen_soft c.args.found.now) (map seen_soft c.loop-choice.found) c.loop-choice-test.false c.loop-choice.invariant.found

pub push_instances-returns-in-Single : goal.push_instances-returns-in-Single
push_instances-returns-in-Single t c =
    let N = c.args.half.now.numbers.now in
    let role = c.args.half.now.role in
    let scope = lent_words c.args.scope.now in
    let slots = c.args.slots.now in
    sym (append-nil (map seen_soft c.args.found.now))
    ∙ ap (λ more. map seen_soft c.args.found.now ++ more) (sym (ap (λ tree. soft_scenes N role tree scope slots) c.in-Single.is ∙ soft_scenes-Single N role scope slots c.in-Single.field-0))

pub push_instances-instance_scene-requires : goal.push_instances-instance_scene-requires
push_instances-instance_scene-requires t c =
    let N = c.args.half.now.numbers.now in
    let scope = lent_words c.args.scope.now in
    c.body_in-other-in-Soft.ensures.soft _ _ _ (c.requires ∙ ap (λ tree. constraint_of N tree scope) c.in-Soft.is ∙ constraint_of-Soft N scope c.in-Soft.at c.in-Soft.name c.in-Soft.body)
    ∙ ap (λ body. constraint_of N body scope) (sym c.get-body.ensures)

pub push_instances-returns-in_ok-push-in-Soft : goal.push_instances-returns-in_ok-push-in-Soft
push_instances-returns-in_ok-push-in-Soft t c =
    let N = c.args.half.now.numbers.now in
    let role = c.args.half.now.role in
    let scope = lent_words c.args.scope.now in
    let slots = c.args.slots.now in
    let at = c.in-Soft.at in
    let name = c.in-Soft.name in
    ap (map seen_soft) c.in_ok-push-in-Soft.ensures.ok ∙ map-append seen_soft c.args.found.now (c.in_ok-scene-in-Soft.scene ∷ [])
    ∙ ap (λ more. map seen_soft c.args.found.now ++ more)
    (ap (λ (one : SoftScene). one ∷ []) (c.in_ok-scene-in-Soft.ensures ∙ (λ i. soft_scene_of N role at name (c.get-body.ensures i) scope slots))
    ∙ sym (ap (λ tree. soft_scenes N role tree scope slots) c.in-Soft.is ∙ soft_scenes-Soft N role scope slots at name c.in-Soft.body))
