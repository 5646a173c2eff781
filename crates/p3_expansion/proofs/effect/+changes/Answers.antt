use Rattle.std.proofs.Common.{◌≡◌, ◌∙◌, ◌<◌, ◌≤◌, true, false, ◌&&◌, [], ◌∷◌, ◌++◌, length, take, refl, sym, ap, subst}
use Rattle.std.proofs.Math.Seq.{take-append_seam, take-length}
use Rattle.std.specs.Prelude.{flat_map}
use Rattle.p3_numbers.specs.Slots.{bound}
use Rattle.p3_expansion.specs.Atoms.{atom_at}
use Rattle.p3_numbers.specs.Choices.{choice, choice_count}
use Rattle.p3_expansion.specs.Changes.{effect_atoms, both, conditions_meaning, guarded_literals}
use Rattle.p3_expansion.specs.Meanings.{condition_atoms, condition_meaning}
use Rattle.p3_expansion.proofs.ChoiceLemmas.{length-bound, bound-at}
use Rattle.p3_expansion.proofs.EffectLemmas.{atoms-Add, atoms-Del, atoms-All, atoms-Each, atoms-If, guarded-Add, guarded-Del, guarded-Cost, guarded-All, guarded-Each, guarded-If, under-by, under-none, under-literal, under-never, under-narrow, under-part, under-all}
use Rattle.p3_expansion.proofs.FormParts.{value-is}
use Rattle.p3_expansion.proofs.effect.+changes.Goals as goal

pub push_changes-returns-in_ok-push_change-in-Add : goal.push_changes-returns-in_ok-push_change-in-Add
push_changes-returns-in_ok-push_change-in-Add t c =
    let N = c.args.numbers.now in
    let slots = c.args.slots.now in
    let free = c.args.guard.now.is_free in
    let predicate = c.in-Add.predicate in
    let atom = atom_at slots predicate c.items.result.now in
    under-by N c.args.statics.now c.args.guard.now (effect_atoms N slots c.args.effect.now) (atom ∷ []) c.args.work.now c.push_change.new.work
    (λ above. guarded_literals N above free slots c.args.effect.now) (λ above. record { add = true; atom = atom; takes_place = both above (conditions_meaning N []); is_free = free && true } ∷ []) c.args.made.now c.push_change.new.made
    (ap (effect_atoms N slots) c.in-Add.is ∙ atoms-Add N slots predicate c.in-Add.args ∙ ap (λ args. atom_at slots predicate args ∷ []) (sym c.items.ensures))
    (λ above. ap (guarded_literals N above free slots) c.in-Add.is ∙ guarded-Add N slots above free predicate c.in-Add.args ∙ ap (λ args. record { add = true; atom = atom_at slots predicate args; takes_place = both above (conditions_meaning N []); is_free = free && true } ∷ []) (sym c.items.ensures))
    (under-literal N c.args.statics.now c.args.guard.now true atom c.args.work.now c.push_change.new.work c.args.made.now c.push_change.new.made c.in_ok-copy-in-Add.copy c.in_ok-copy-in-Add.ensures c.in_ok-push_change-in-Add.ensures)

pub push_changes-returns-in_ok-push_change-in-Del : goal.push_changes-returns-in_ok-push_change-in-Del
push_changes-returns-in_ok-push_change-in-Del t c =
    let N = c.args.numbers.now in
    let slots = c.args.slots.now in
    let free = c.args.guard.now.is_free in
    let predicate = c.in-Del.predicate in
    let atom = atom_at slots predicate c.items-in-Del.result.now in
    under-by N c.args.statics.now c.args.guard.now (effect_atoms N slots c.args.effect.now) (atom ∷ []) c.args.work.now c.push_change-in-Del.new.work
    (λ above. guarded_literals N above free slots c.args.effect.now) (λ above. record { add = false; atom = atom; takes_place = both above (conditions_meaning N []); is_free = free && true } ∷ []) c.args.made.now c.push_change-in-Del.new.made
    (ap (effect_atoms N slots) c.in-Del.is ∙ atoms-Del N slots predicate c.in-Del.args ∙ ap (λ args. atom_at slots predicate args ∷ []) (sym c.items-in-Del.ensures))
    (λ above. ap (guarded_literals N above free slots) c.in-Del.is ∙ guarded-Del N slots above free predicate c.in-Del.args ∙ ap (λ args. record { add = false; atom = atom_at slots predicate args; takes_place = both above (conditions_meaning N []); is_free = free && true } ∷ []) (sym c.items-in-Del.ensures))
    (under-literal N c.args.statics.now c.args.guard.now false atom c.args.work.now c.push_change-in-Del.new.work c.args.made.now c.push_change-in-Del.new.made c.in_ok-copy-in-Del.copy c.in_ok-copy-in-Del.ensures c.in_ok-push_change-in-Del.ensures)

pub push_changes-returns-in_ok-push_all-in-All : goal.push_changes-returns-in_ok-push_all-in-All
push_changes-returns-in_ok-push_all-in-All t c =
    let N = c.args.numbers.now in
    let slots = c.args.slots.now in
    let free = c.args.guard.now.is_free in
    let items = c.items-in-All.result.now in
    under-by N c.args.statics.now c.args.guard.now (effect_atoms N slots c.args.effect.now) (flat_map (effect_atoms N slots) items) c.args.work.now c.push_all.new.work
    (λ above. guarded_literals N above free slots c.args.effect.now) (λ above. flat_map (guarded_literals N above free slots) items) c.args.made.now c.push_all.new.made
    (ap (effect_atoms N slots) c.in-All.is ∙ atoms-All N slots c.in-All.parts ∙ ap (flat_map (effect_atoms N slots)) (sym c.items-in-All.ensures))
    (λ above. ap (guarded_literals N above free slots) c.in-All.is ∙ guarded-All N slots above free c.in-All.parts ∙ ap (flat_map (guarded_literals N above free slots)) (sym c.items-in-All.ensures))
    c.in_ok-push_all-in-All.ensures

pub push_changes-returns-in_ok-push_each-in-Each : goal.push_changes-returns-in_ok-push_each-in-Each
push_changes-returns-in_ok-push_each-in-Each t c =
    let N = c.args.numbers.now in
    let slots = c.args.slots.now in
    let free = c.args.guard.now.is_free in
    let ranges = c.items-ranges.result.now in
    let body = c.get-body.result.now in
    under-by N c.args.statics.now c.args.guard.now (effect_atoms N slots c.args.effect.now) (flat_map (λ inner. effect_atoms N inner body) (bound N slots ranges)) c.args.work.now c.push_each.new.work
    (λ above. guarded_literals N above free slots c.args.effect.now) (λ above. flat_map (λ inner. guarded_literals N above free inner body) (bound N slots ranges)) c.args.made.now c.push_each.new.made
    (ap (effect_atoms N slots) c.in-Each.is ∙ atoms-Each N slots c.in-Each.ranges c.in-Each.body ∙ (λ i. flat_map (λ inner. effect_atoms N inner (sym c.get-body.ensures i)) (bound N slots (sym c.items-ranges.ensures i))))
    (λ above. ap (guarded_literals N above free slots) c.in-Each.is ∙ guarded-Each N slots above free c.in-Each.ranges c.in-Each.body ∙ (λ i. flat_map (λ inner. guarded_literals N above free inner (sym c.get-body.ensures i)) (bound N slots (sym c.items-ranges.ensures i))))
    c.in_ok-push_each-in-Each.ensures

pub push_changes-returns-in-Cost : goal.push_changes-returns-in-Cost
push_changes-returns-in-Cost t c =
    let N = c.args.numbers.now in
    let slots = c.args.slots.now in
    let free = c.args.guard.now.is_free in
    let reads = effect_atoms N slots c.args.effect.now in
    under-by N c.args.statics.now c.args.guard.now reads reads c.args.work.now c.args.work.now (λ above. guarded_literals N above free slots c.args.effect.now) (λ above. []) c.args.made.now c.args.made.now refl
    (λ above. ap (guarded_literals N above free slots) c.in-Cost.is ∙ guarded-Cost N slots above free c.in-Cost.field-0)
    (under-none N c.args.statics.now c.args.guard.now reads c.args.work.now c.args.made.now)

pub push_changes-returns-then-is_value : goal.push_changes-returns-then-is_value
push_changes-returns-then-is_value t c =
    let N = c.args.numbers.now in
    let S = c.args.statics.now in
    let slots = c.args.slots.now in
    let free = c.args.guard.now.is_free in
    let condition = c.in-If.condition in
    let body = c.in-If.body in
    under-by N S c.args.guard.now (effect_atoms N slots c.args.effect.now) (condition_atoms N slots condition ++ effect_atoms N slots body) c.args.work.now c.condition_form.new.work
    (λ above. guarded_literals N above free slots c.args.effect.now) (λ above. guarded_literals N (both above (condition_meaning N slots condition)) false slots body) c.args.made.now c.args.made.now
    (ap (effect_atoms N slots) c.in-If.is ∙ atoms-If N slots condition body)
    (λ above. ap (guarded_literals N above free slots) c.in-If.is ∙ guarded-If N slots above free condition body)
    (under-never N S slots c.args.guard.now c.in_ok-narrow-in-If.narrow condition body c.in_ok-condition-in-If.condition c.args.work.now c.condition_form.new.work c.in_ok-condition-in-If.ensures c.in_ok-narrow-in-If.ensures.joined c.in_ok-narrow-in-If.ensures.free
    c.args.made.now (value-is c.in_ok-narrow-in-If.narrow.form false (sym c.is_value.ensures ∙ c.if-is_value.true)))

pub push_changes-returns-in_ok-push_under-in-If : goal.push_changes-returns-in_ok-push_under-in-If
push_changes-returns-in_ok-push_under-in-If t c =
    let N = c.args.numbers.now in
    let S = c.args.statics.now in
    let slots = c.args.slots.now in
    let free = c.args.guard.now.is_free in
    let condition = c.in-If.condition in
    let body = c.get.result.now in
    under-by N S c.args.guard.now (effect_atoms N slots c.args.effect.now) (condition_atoms N slots condition ++ effect_atoms N slots body) c.args.work.now c.push_under.new.work
    (λ above. guarded_literals N above free slots c.args.effect.now) (λ above. guarded_literals N (both above (condition_meaning N slots condition)) false slots body) c.args.made.now c.push_under.new.made
    (ap (effect_atoms N slots) c.in-If.is ∙ atoms-If N slots condition c.in-If.body ∙ ap (λ body. condition_atoms N slots condition ++ effect_atoms N slots body) (sym c.get.ensures))
    (λ above. ap (guarded_literals N above free slots) c.in-If.is ∙ guarded-If N slots above free condition c.in-If.body ∙ ap (guarded_literals N (both above (condition_meaning N slots condition)) false slots) (sym c.get.ensures))
    (under-narrow N S slots c.args.guard.now c.in_ok-narrow-in-If.narrow condition body c.in_ok-condition-in-If.condition c.args.work.now c.condition_form.new.work c.in_ok-condition-in-If.ensures c.in_ok-narrow-in-If.ensures.joined c.in_ok-narrow-in-If.ensures.free
    c.push_under.new.work c.args.made.now c.push_under.new.made c.in_ok-push_under-in-If.ensures)

pub push_under-returns-in_ok-push_change-in-Add : goal.push_under-returns-in_ok-push_change-in-Add
push_under-returns-in_ok-push_change-in-Add t c =
    let N = c.args.numbers.now in
    let slots = c.args.slots.now in
    let free = c.args.guard.is_free in
    let predicate = c.in-Add.predicate in
    let atom = atom_at slots predicate c.items.result.now in
    under-by N c.args.statics.now c.args.guard (effect_atoms N slots c.args.effect.now) (atom ∷ []) c.args.work.now c.push_change.new.work
    (λ above. guarded_literals N above free slots c.args.effect.now) (λ above. record { add = true; atom = atom; takes_place = both above (conditions_meaning N []); is_free = free && true } ∷ []) c.args.made.now c.push_change.new.made
    (ap (effect_atoms N slots) c.in-Add.is ∙ atoms-Add N slots predicate c.in-Add.args ∙ ap (λ args. atom_at slots predicate args ∷ []) (sym c.items.ensures))
    (λ above. ap (guarded_literals N above free slots) c.in-Add.is ∙ guarded-Add N slots above free predicate c.in-Add.args ∙ ap (λ args. record { add = true; atom = atom_at slots predicate args; takes_place = both above (conditions_meaning N []); is_free = free && true } ∷ []) (sym c.items.ensures))
    (under-literal N c.args.statics.now c.args.guard true atom c.args.work.now c.push_change.new.work c.args.made.now c.push_change.new.made c.args.guard.form refl c.in_ok-push_change-in-Add.ensures)

pub push_under-returns-in_ok-push_change-in-Del : goal.push_under-returns-in_ok-push_change-in-Del
push_under-returns-in_ok-push_change-in-Del t c =
    let N = c.args.numbers.now in
    let slots = c.args.slots.now in
    let free = c.args.guard.is_free in
    let predicate = c.in-Del.predicate in
    let atom = atom_at slots predicate c.items-in-Del.result.now in
    under-by N c.args.statics.now c.args.guard (effect_atoms N slots c.args.effect.now) (atom ∷ []) c.args.work.now c.push_change-in-Del.new.work
    (λ above. guarded_literals N above free slots c.args.effect.now) (λ above. record { add = false; atom = atom; takes_place = both above (conditions_meaning N []); is_free = free && true } ∷ []) c.args.made.now c.push_change-in-Del.new.made
    (ap (effect_atoms N slots) c.in-Del.is ∙ atoms-Del N slots predicate c.in-Del.args ∙ ap (λ args. atom_at slots predicate args ∷ []) (sym c.items-in-Del.ensures))
    (λ above. ap (guarded_literals N above free slots) c.in-Del.is ∙ guarded-Del N slots above free predicate c.in-Del.args ∙ ap (λ args. record { add = false; atom = atom_at slots predicate args; takes_place = both above (conditions_meaning N []); is_free = free && true } ∷ []) (sym c.items-in-Del.ensures))
    (under-literal N c.args.statics.now c.args.guard false atom c.args.work.now c.push_change-in-Del.new.work c.args.made.now c.push_change-in-Del.new.made c.args.guard.form refl c.in_ok-push_change-in-Del.ensures)

pub push_all-loop-part-init : goal.push_all-loop-part-init
push_all-loop-part-init t c =
    under-none c.args.numbers.now c.args.statics.now c.args.guard.now (flat_map (effect_atoms c.args.numbers.now c.args.slots.now) c.args.parts.now) c.args.work.now c.args.made.now

pub push_all-loop-part-preserved : goal.push_all-loop-part-preserved
push_all-loop-part-preserved t c =
    let N = c.args.numbers.now in
    let slots = c.args.slots.now in
    under-part N c.args.statics.now c.args.guard.now (λ above. guarded_literals N above c.args.guard.now.is_free slots) (effect_atoms N slots) c.args.parts.now c.args.work.now c.loop-part.work c.push_changes.new.work c.args.made.now c.loop-part.made c.push_changes.new.made c.loop-part.part-index c.part-item.result
    c.loop-part-test.true c.part-item.is c.loop-part.invariant c.in_ok-push_changes.ensures

pub push_all-returns : goal.push_all-returns
push_all-returns t c =
    let N = c.args.numbers.now in
    let slots = c.args.slots.now in
    under-all N c.args.statics.now c.args.guard.now (λ above. guarded_literals N above c.args.guard.now.is_free slots) (effect_atoms N slots) c.args.parts.now c.args.work.now c.loop-part.work c.args.made.now c.loop-part.made c.loop-part.part-index c.loop-part-test.false c.loop-part.invariant

pub push_each-loop-choice-init : goal.push_each-loop-choice-init
push_each-loop-choice-init t c = record {
  outer = ap (take (length c.args.slots.now)) c.in_ok-inner.ensures.items ∙ take-length c.args.slots.now;
  under = under-none c.args.numbers.now c.args.statics.now c.args.guard.now (flat_map (λ inner. effect_atoms c.args.numbers.now inner c.args.body.now) (bound c.args.numbers.now c.args.slots.now c.args.ranges.now)) c.args.work.now c.args.made.now;
}

pub push_each-loop-choice-preserved : goal.push_each-loop-choice-preserved
push_each-loop-choice-preserved t c =
    let N = c.args.numbers.now in
    let slots = c.args.slots.now in
    let ranges = c.args.ranges.now in
    let k = c.loop-choice.choice in
    let within : k < choice_count N ranges = subst (λ n. k < n) c.in_ok-count.ensures c.loop-choice-test.true in
    let inside : k < length (bound N slots ranges) = subst (λ n. k < n) (sym (length-bound N slots ranges)) within in
    let placed : c.place_choice.new.slots.items ≡ slots ++ choice N ranges k = c.in_ok-place_choice.ensures ∙ ap (λ front. front ++ choice N ranges k) c.loop-choice.invariant.outer in
    record {
      outer = ap (take (length slots)) placed ∙ take-append_seam slots (choice N ranges k);
      under =
          under-part N c.args.statics.now c.args.guard.now (λ above inner. guarded_literals N above c.args.guard.now.is_free inner c.args.body.now) (λ inner. effect_atoms N inner c.args.body.now) (bound N slots ranges) c.args.work.now c.loop-choice.work c.push_changes.new.work c.args.made.now c.loop-choice.made c.push_changes.new.made k c.as_slice.result.now
          inside (bound-at N slots ranges c.as_slice.result.now k within (c.as_slice.ensures.value ∙ placed)) c.loop-choice.invariant.under c.in_ok-push_changes.ensures;
    }

pub push_each-returns : goal.push_each-returns
push_each-returns t c =
    let N = c.args.numbers.now in
    let slots = c.args.slots.now in
    let ranges = c.args.ranges.now in
    under-all N c.args.statics.now c.args.guard.now (λ above inner. guarded_literals N above c.args.guard.now.is_free inner c.args.body.now) (λ inner. effect_atoms N inner c.args.body.now) (bound N slots ranges) c.args.work.now c.loop-choice.work c.args.made.now c.loop-choice.made c.loop-choice.choice
    (subst (λ n. n ≤ c.loop-choice.choice) (c.in_ok-count.ensures ∙ sym (length-bound N slots ranges)) c.loop-choice-test.false) c.loop-choice.invariant.under
