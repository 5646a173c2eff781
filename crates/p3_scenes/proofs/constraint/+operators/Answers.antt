use Rattle.std.proofs.Common.{rules, ◌≡◌, ◌∙◌, Bool, None, Some, List, [], ◌∷◌, ◌++◌, if◌then◌else◌, map, sym, ap, subst}
use Rattle.std.specs.Prelude.{flat_map, OnOk}
use Rattle.std.specs.Option.{option_copied}
use Rattle.std.proofs.lemmas.List.{append-nil, map-append}
use Rattle.p3_task.specs.Slots.{words_of}
use Rattle.p3_task.specs.declared.constraint.Constraint.TheViews.{the_lemmas}
use Rattle.p3_numbers.specs.Constraints.{constraint_of, modal_of}
use Rattle.p3_numbers.specs.Places.{ranges_of}
use Rattle.p3_numbers.specs.Slots.{Slots, bound}
use Rattle.p3_scenes.specs.Lent.{lent_words}
use Rattle.p3_scenes.specs.Scenes.{Scene, scene_of, scenes}
use Rattle.p3_scenes.specs.Seen.{seen}
use Rattle.p3_resolve.proofs.ConstraintLemmas.{constraint_of-Both, constraint_of-Each, constraint_of-Single, constraint_of-Soft}
use Rattle.p3_scenes.proofs.EachChoice.{found-all, found-more, slots-stay}
use Rattle.p3_scenes.proofs.SceneLemmas.{scenes-Both, scenes-Each, scenes-Single, scenes-Soft}
use Rattle.p3_scenes.proofs.constraint.+operators.Goals as goal

pub push_operators-push_parts-requires : goal.push_operators-push_parts-requires
push_operators-push_parts-requires t c =
    let N = c.args.half.now.numbers.now in
    let scope = lent_words c.args.scope.now in (
      search (rules, the_lemmas),
      c.constraints_in-others.ensures _ (c.requires ∙ ap (λ tree. constraint_of N tree scope) c.in-Both.is ∙ constraint_of-Both N scope c.in-Both.parts)
          ∙ ap (map (λ part. constraint_of N part scope)) (sym c.items.ensures),
    )

pub push_operators-push_bodies-requires : goal.push_operators-push_bodies-requires
push_operators-push_bodies-requires t c =
    let N = c.args.half.now.numbers.now in
    let scope = lent_words c.args.scope.now in
    let words : lent_words c.as_slice-inner.result.now ≡ scope ++ words_of c.in-Each.variables = ap lent_words c.as_slice-inner.ensures.value ∙ c.in_ok-inner-in-Each.ensures ∙ ap (λ list. scope ++ words_of list) c.items-in-Each.ensures in (
      search (rules, the_lemmas),
      c.body_in-other.ensures.each _ _ (c.requires ∙ ap (λ tree. constraint_of N tree scope) c.in-Each.is ∙ constraint_of-Each N scope c.in-Each.variables c.in-Each.body)
          ∙ (λ i. constraint_of N (sym c.get.ensures i) (sym words i)),
    )

pub push_operators-unreachable-requires : goal.push_operators-unreachable-requires
push_operators-unreachable-requires t c =
    let N = c.args.half.now.numbers.now in
    let scope = lent_words c.args.scope.now in
    let there : option_copied c.modal_in.result ≡ Some (modal_of N c.in-Single.modal scope) = c.modal_in.ensures _ (c.requires ∙ ap (λ tree. constraint_of N tree scope) c.in-Single.is ∙ constraint_of-Single N scope c.in-Single.modal) in
    let absent : option_copied c.modal_in.result ≡ None = ap option_copied c.in_default.is in
    absurd (cc)

pub push_operators-push_operators-requires : goal.push_operators-push_operators-requires
push_operators-push_operators-requires t c =
    let N = c.args.half.now.numbers.now in
    let scope = lent_words c.args.scope.now in (
      search (rules, the_lemmas),
      c.body_in-other-then-within.ensures.soft _ _ _ (c.requires ∙ ap (λ tree. constraint_of N tree scope) c.in-Soft.is ∙ constraint_of-Soft N scope c.in-Soft.at c.in-Soft.name c.in-Soft.body)
          ∙ ap (λ body. constraint_of N body scope) (sym c.get-body.ensures),
    )

pub push_operators-returns-in-Both : goal.push_operators-returns-in-Both
push_operators-returns-in-Both t c =
    let N = c.args.half.now.numbers.now in
    let role = c.args.half.now.role in
    let scope = lent_words c.args.scope.now in
    let slots = c.args.slots.now in
    subst (λ more. OnOk c.push_parts.result (map seen c.push_parts.new.found ≡ map seen c.args.found.now ++ more))
    (ap (flat_map (λ part. scenes N role c.args.within part scope slots)) c.items.ensures
    ∙ sym (ap (λ tree. scenes N role c.args.within tree scope slots) c.in-Both.is ∙ scenes-Both N role c.args.within scope slots c.in-Both.parts))
    c.push_parts.ensures

pub push_operators-returns-in_ok-inner-in-Each : goal.push_operators-returns-in_ok-inner-in-Each
push_operators-returns-in_ok-inner-in-Each t c =
    let N = c.args.half.now.numbers.now in
    let role = c.args.half.now.role in
    let scope = lent_words c.args.scope.now in
    let slots = c.args.slots.now in
    let words : lent_words c.as_slice-inner.result.now ≡ scope ++ words_of c.in-Each.variables = ap lent_words c.as_slice-inner.ensures.value ∙ c.in_ok-inner-in-Each.ensures ∙ ap (λ list. scope ++ words_of list) c.items-in-Each.ensures in
    let ranges : c.ranges_in-ranges.result.now ≡ ranges_of N c.in-Each.variables = c.ranges_in-ranges.ensures _ _ (c.requires ∙ ap (λ tree. constraint_of N tree scope) c.in-Each.is ∙ constraint_of-Each N scope c.in-Each.variables c.in-Each.body) in
    subst (λ more. OnOk c.push_bodies.result (map seen c.push_bodies.new.found ≡ map seen c.args.found.now ++ more))
    ((λ i. flat_map (scenes N role c.args.within (c.get.ensures i) (words i)) (bound N slots (ranges i)))
    ∙ sym (ap (λ tree. scenes N role c.args.within tree scope slots) c.in-Each.is ∙ scenes-Each N role c.args.within scope slots c.in-Each.variables c.in-Each.body))
    c.push_bodies.ensures

pub push_bodies-loop-choice-preserved : goal.push_bodies-loop-choice-preserved
push_bodies-loop-choice-preserved t c =
    let N = c.args.half.now.numbers.now in
    let slots = c.args.slots.now in
    let ranges = c.args.ranges.now in
    let of : Slots → List Scene = scenes c.args.half.now.numbers.now c.args.half.now.role c.args.within c.args.body.now (lent_words c.args.scope.now) in
    record {
      outer = slots-stay N slots ranges _ _ c.in_ok-place_choice.ensures c.loop-choice.invariant.outer;
      found =
          found-more N slots ranges of c.in_ok-count.ensures _ _ (map seen c.args.found.now) (map seen c.loop-choice.found) (map seen c.push_operators.new.found) c.loop-choice-test.true
          c.in_ok-place_choice.ensures c.loop-choice.invariant.outer c.as_slice.ensures.value c.loop-choice.invariant.found c.in_ok-push_operators.ensures;
    }

pub push_bodies-returns : goal.push_bodies-returns
push_bodies-returns t c =
    let of : Slots → List Scene = scenes c.args.half.now.numbers.now c.args.half.now.role c.args.within c.args.body.now (lent_words c.args.scope.now) in
    found-all c.args.half.now.numbers.now c.args.slots.now c.args.ranges.now of c.in_ok-count.ensures (map seen c.args.found.now) (map seen c.loop-choice.found) c.loop-choice-test.false c.loop-choice.invariant.found

pub push_operators-returns-then-within : goal.push_operators-returns-then-within
push_operators-returns-then-within t c =
    let N = c.args.half.now.numbers.now in
    let role = c.args.half.now.role in
    let scope = lent_words c.args.scope.now in
    let slots = c.args.slots.now in
    subst (λ more. OnOk c.push_operators.result (map seen c.push_operators.new.found ≡ map seen c.args.found.now ++ more))
    (ap (λ body. scenes N role c.args.within body scope slots) c.get-body.ensures
    ∙ sym (ap (λ tree. scenes N role c.args.within tree scope slots) c.in-Soft.is ∙ scenes-Soft N role c.args.within scope slots c.in-Soft.at c.in-Soft.name c.in-Soft.body
    ∙ ap (λ (inside : Bool). if inside then scenes N role c.args.within c.in-Soft.body scope slots else []) c.if-within.true))
    c.push_operators.ensures

pub push_operators-returns-else-within : goal.push_operators-returns-else-within
push_operators-returns-else-within t c =
    let N = c.args.half.now.numbers.now in
    let role = c.args.half.now.role in
    let scope = lent_words c.args.scope.now in
    let slots = c.args.slots.now in
    sym (append-nil (map seen c.args.found.now))
    ∙ ap (λ more. map seen c.args.found.now ++ more)
    (sym (ap (λ tree. scenes N role c.args.within tree scope slots) c.in-Soft.is ∙ scenes-Soft N role c.args.within scope slots c.in-Soft.at c.in-Soft.name c.in-Soft.body
    ∙ ap (λ (inside : Bool). if inside then scenes N role c.args.within c.in-Soft.body scope slots else []) c.if-within.false))

pub push_operators-returns-in_ok-push-in-Single : goal.push_operators-returns-in_ok-push-in-Single
push_operators-returns-in_ok-push-in-Single t c =
    let N = c.args.half.now.numbers.now in
    let role = c.args.half.now.role in
    let scope = lent_words c.args.scope.now in
    let slots = c.args.slots.now in
    let modal = c.in-Single.modal in
    let there : Some c.in-Some.other.now ≡ Some (modal_of N modal scope) = c.in-Some.ensures _ (c.requires ∙ ap (λ tree. constraint_of N tree scope) c.in-Single.is ∙ constraint_of-Single N scope modal) in
    let same : c.in-Some.other.now ≡ modal_of N modal scope = cc in
    ap (map seen) c.in_ok-push-in-Single.ensures.ok ∙ map-append seen c.args.found.now (c.in_ok-scene-in-Single.scene ∷ [])
    ∙ ap (λ more. map seen c.args.found.now ++ more)
    (ap (λ (one : Scene). one ∷ []) (c.in_ok-scene-in-Single.ensures ∙ (λ i. scene_of role modal (same i) scope slots))
    ∙ sym (ap (λ tree. scenes N role c.args.within tree scope slots) c.in-Single.is ∙ scenes-Single N role c.args.within scope slots modal))
