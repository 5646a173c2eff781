use Rattle.std.proofs.Common.{◌≡◌, ◌∙◌, ◌<◌, ◌≤◌, [], ◌∷◌, ◌++◌, true, false, length, take, sym, ap, subst}
use Rattle.std.proofs.Math.Seq.{take-append_seam, take-length}
use Rattle.p3_formula.specs.Tidy.{is_tidy}
use Rattle.p3_numbers.specs.Slots.{bound}
use Rattle.p3_numbers.specs.Choices.{choice, choice_count}
use Rattle.p3_expansion.specs.Meanings.{joined, opposite, condition_meaning, combined, quantified, reads_of}
use Rattle.p3_expansion.proofs.ChoiceLemmas.{length-bound, bound-at}
use Rattle.p3_expansion.proofs.ExpansionLemmas.{makes-constant, makes-by, makes-turned, makes-first, makes-either, makes-finished, gathers-none, gathers-part, gathers-decided, gathers-all}
use Rattle.p3_expansion.proofs.FormParts.{value-is, negated-tidy}
use Rattle.p3_expansion.proofs.GrowthLemmas.{grows-refl}
use Rattle.p3_expansion.proofs.MeaningLemmas.{meaning-Equal, meaning-And, meaning-Or, meaning-Not, meaning-Imply, meaning-Exists, meaning-Forall}
use Rattle.p3_expansion.proofs.condition.+expand.Goals as goal

pub condition_form-returns-in_ok-gathered-in-And : goal.condition_form-returns-in_ok-gathered-in-And
condition_form-returns-in_ok-gathered-in-And t c =
    let N = c.args.numbers.now in
    let slots = c.args.slots.now in
    let items = c.items-in-And.result.now in
    makes-by N c.args.statics.now c.args.work.now c.gathered_parts.new.work c.finish.result (condition_meaning N slots c.args.condition.now) (joined true (combined N slots items))
    (ap (condition_meaning N slots) c.in-And.is ∙ meaning-And N slots c.in-And.parts ∙ ap (λ parts. joined true (combined N slots parts)) (sym c.items-in-And.ensures))
    (makes-finished N c.args.statics.now c.args.work.now c.gathered_parts.new.work true (combined N slots items) c.in_ok-gathered-in-And.gathered c.finish.result c.in_ok-gathered-in-And.ensures c.finish.ensures)

pub condition_form-returns-in_ok-gathered-in-Or : goal.condition_form-returns-in_ok-gathered-in-Or
condition_form-returns-in_ok-gathered-in-Or t c =
    let N = c.args.numbers.now in
    let slots = c.args.slots.now in
    let items = c.items-in-Or.result.now in
    makes-by N c.args.statics.now c.args.work.now c.gathered_parts-in-Or.new.work c.finish-in-Or.result (condition_meaning N slots c.args.condition.now) (joined false (combined N slots items))
    (ap (condition_meaning N slots) c.in-Or.is ∙ meaning-Or N slots c.in-Or.parts ∙ ap (λ parts. joined false (combined N slots parts)) (sym c.items-in-Or.ensures))
    (makes-finished N c.args.statics.now c.args.work.now c.gathered_parts-in-Or.new.work false (combined N slots items) c.in_ok-gathered-in-Or.gathered c.finish-in-Or.result c.in_ok-gathered-in-Or.ensures c.finish-in-Or.ensures)

pub condition_form-returns-in_ok-form-in-Not : goal.condition_form-returns-in_ok-form-in-Not
condition_form-returns-in_ok-form-in-Not t c =
    let N = c.args.numbers.now in
    let slots = c.args.slots.now in
    let part = c.get.result.now in
    makes-by N c.args.statics.now c.args.work.now c.condition_form.new.work c.in_ok-form-in-Not.form (condition_meaning N slots c.args.condition.now) (opposite (condition_meaning N slots part))
    (ap (condition_meaning N slots) c.in-Not.is ∙ meaning-Not N slots c.in-Not.part ∙ ap (λ part. opposite (condition_meaning N slots part)) (sym c.get.ensures))
    (makes-turned N c.args.statics.now c.args.work.now c.condition_form.new.work (condition_meaning N slots part) c.in_ok-part-in-Not.part c.in_ok-form-in-Not.form c.in_ok-part-in-Not.ensures c.in_ok-form-in-Not.ensures)

pub condition_form-returns-in-Equal : goal.condition_form-returns-in-Equal
condition_form-returns-in-Equal t c =
    let N = c.args.numbers.now in
    let slots = c.args.slots.now in
    makes-constant N c.args.statics.now c.args.work.now c.args.work.now (condition_meaning N slots c.args.condition.now) c.constant.result c.are_same.result (grows-refl [] c.args.work.now) c.constant.ensures
    (λ s settled. c.are_same.ensures ∙ sym (meaning-Equal N slots c.in-Equal.left c.in-Equal.right s) ∙ ap (λ one. (condition_meaning N slots one).test s) (sym c.in-Equal.is))

pub condition_form-returns-in_ok-gathered-in-Exists : goal.condition_form-returns-in_ok-gathered-in-Exists
condition_form-returns-in_ok-gathered-in-Exists t c =
    let N = c.args.numbers.now in
    let slots = c.args.slots.now in
    let ranges = c.items-ranges.result.now in
    let body = c.get-body.result.now in
    makes-by N c.args.statics.now c.args.work.now c.gathered_body.new.work c.finish-in-Exists.result (condition_meaning N slots c.args.condition.now) (joined false (quantified N slots ranges body))
    (ap (condition_meaning N slots) c.in-Exists.is ∙ meaning-Exists N slots c.in-Exists.ranges c.in-Exists.body ∙ (λ i. joined false (quantified N slots (sym c.items-ranges.ensures i) (sym c.get-body.ensures i))))
    (makes-finished N c.args.statics.now c.args.work.now c.gathered_body.new.work false (quantified N slots ranges body) c.in_ok-gathered-in-Exists.gathered c.finish-in-Exists.result c.in_ok-gathered-in-Exists.ensures c.finish-in-Exists.ensures)

pub condition_form-returns-in_ok-gathered-in-Forall : goal.condition_form-returns-in_ok-gathered-in-Forall
condition_form-returns-in_ok-gathered-in-Forall t c =
    let N = c.args.numbers.now in
    let slots = c.args.slots.now in
    let ranges = c.items-ranges-in-Forall.result.now in
    let body = c.get-body-in-Forall.result.now in
    makes-by N c.args.statics.now c.args.work.now c.gathered_body-in-Forall.new.work c.finish-in-Forall.result (condition_meaning N slots c.args.condition.now) (joined true (quantified N slots ranges body))
    (ap (condition_meaning N slots) c.in-Forall.is ∙ meaning-Forall N slots c.in-Forall.ranges c.in-Forall.body ∙ (λ i. joined true (quantified N slots (sym c.items-ranges-in-Forall.ensures i) (sym c.get-body-in-Forall.ensures i))))
    (makes-finished N c.args.statics.now c.args.work.now c.gathered_body-in-Forall.new.work true (quantified N slots ranges body) c.in_ok-gathered-in-Forall.gathered c.finish-in-Forall.result c.in_ok-gathered-in-Forall.ensures c.finish-in-Forall.ensures)

pub gathered_parts-loop-part-init : goal.gathered_parts-loop-part-init
gathered_parts-loop-part-init t c =
    gathers-none c.args.numbers.now c.args.statics.now (reads_of (combined c.args.numbers.now c.args.slots.now c.args.parts.now)) c.args.work.now c.args.every c.in_ok-gathered.gathered c.in_ok-gathered.ensures.every c.in_ok-gathered.ensures.parts c.in_ok-gathered.ensures.cut

pub gathered_parts-returns-then-gathered : goal.gathered_parts-returns-then-gathered
gathered_parts-returns-then-gathered t c =
    gathers-decided c.args.numbers.now c.args.statics.now (condition_meaning c.args.numbers.now c.args.slots.now) c.args.parts.now c.args.work.now c.loop-part.work c.args.every c.loop-part.gathered c.loop-part.part-index c.loop-part.invariant c.if-gathered.true

pub gathered_parts-loop-part-preserved : goal.gathered_parts-loop-part-preserved
gathered_parts-loop-part-preserved t c =
    gathers-part c.args.numbers.now c.args.statics.now (condition_meaning c.args.numbers.now c.args.slots.now) c.args.parts.now c.args.work.now c.loop-part.work c.condition_form.new.work c.args.every c.loop-part.gathered c.take.new.self c.loop-part.part-index c.part-item.result c.in_ok-made.made
    c.loop-part-test.true c.part-item.is c.loop-part.invariant c.in_ok-made.ensures c.in_ok-take.ensures.every c.in_ok-take.ensures.sound c.in_ok-take.ensures.joined

pub gathered_body-loop-choice-init : goal.gathered_body-loop-choice-init
gathered_body-loop-choice-init t c = record {
  outer = ap (take (length c.args.slots.now)) c.in_ok-inner.ensures.items ∙ take-length c.args.slots.now;
  gathers =
      gathers-none c.args.numbers.now c.args.statics.now (reads_of (quantified c.args.numbers.now c.args.slots.now c.args.ranges.now c.args.body.now)) c.args.work.now c.args.every c.new-gathered.result c.new-gathered.ensures.every c.new-gathered.ensures.parts c.new-gathered.ensures.cut;
}

pub gathered_body-returns-then-gathered : goal.gathered_body-returns-then-gathered
gathered_body-returns-then-gathered t c =
    gathers-decided c.args.numbers.now c.args.statics.now (λ inner. condition_meaning c.args.numbers.now inner c.args.body.now) (bound c.args.numbers.now c.args.slots.now c.args.ranges.now) c.args.work.now c.loop-choice.work c.args.every c.loop-choice.gathered c.loop-choice.choice c.loop-choice.invariant.gathers c.if-gathered.true

pub condition_form-returns-then-is_value : goal.condition_form-returns-then-is_value
condition_form-returns-then-is_value t c =
    let N = c.args.numbers.now in
    let S = c.args.statics.now in
    let slots = c.args.slots.now in
    let first = c.get-in-Imply.result.now in
    makes-by N S c.args.work.now c.condition_form-in-Imply.new.work c.in_ok-first-in-Imply-2.first (condition_meaning N slots c.args.condition.now) (joined false (opposite (condition_meaning N slots first) ∷ condition_meaning N slots c.in-Imply.second ∷ []))
    (ap (condition_meaning N slots) c.in-Imply.is ∙ meaning-Imply N slots c.in-Imply.first c.in-Imply.second ∙ ap (λ first. joined false (opposite (condition_meaning N slots first) ∷ condition_meaning N slots c.in-Imply.second ∷ [])) (sym c.get-in-Imply.ensures))
    (makes-first N S c.args.work.now c.condition_form-in-Imply.new.work (opposite (condition_meaning N slots first)) (condition_meaning N slots c.in-Imply.second) c.in_ok-first-in-Imply-2.first
    (makes-turned N S c.args.work.now c.condition_form-in-Imply.new.work (condition_meaning N slots first) c.in_ok-first-in-Imply.first c.in_ok-first-in-Imply-2.first c.in_ok-first-in-Imply.ensures c.in_ok-first-in-Imply-2.ensures)
    (value-is c.in_ok-first-in-Imply-2.first true (sym c.is_value.ensures ∙ c.if-is_value.true)))

pub condition_form-either-requires-clause-first : goal.condition_form-either-requires-clause-first
condition_form-either-requires-clause-first t c = ap is_tidy c.in_ok-first-in-Imply-2.ensures ∙ negated-tidy c.in_ok-first-in-Imply.first c.in_ok-first-in-Imply.ensures.tidy

pub condition_form-returns-in_ok-form-in-Imply : goal.condition_form-returns-in_ok-form-in-Imply
condition_form-returns-in_ok-form-in-Imply t c =
    let N = c.args.numbers.now in
    let S = c.args.statics.now in
    let slots = c.args.slots.now in
    let first = c.get-in-Imply.result.now in
    let second = c.get-in-Imply-2.result.now in
    makes-by N S c.args.work.now c.condition_form-in-Imply-2.new.work c.in_ok-form-in-Imply.form (condition_meaning N slots c.args.condition.now) (joined false (opposite (condition_meaning N slots first) ∷ condition_meaning N slots second ∷ []))
    (ap (condition_meaning N slots) c.in-Imply.is ∙ meaning-Imply N slots c.in-Imply.first c.in-Imply.second ∙ (λ i. joined false (opposite (condition_meaning N slots (sym c.get-in-Imply.ensures i)) ∷ condition_meaning N slots (sym c.get-in-Imply-2.ensures i) ∷ [])))
    (makes-either N S c.args.work.now c.condition_form-in-Imply.new.work c.condition_form-in-Imply-2.new.work (opposite (condition_meaning N slots first)) (condition_meaning N slots second) c.in_ok-first-in-Imply-2.first c.in_ok-second-in-Imply.second c.in_ok-form-in-Imply.form
    (makes-turned N S c.args.work.now c.condition_form-in-Imply.new.work (condition_meaning N slots first) c.in_ok-first-in-Imply.first c.in_ok-first-in-Imply-2.first c.in_ok-first-in-Imply.ensures c.in_ok-first-in-Imply-2.ensures)
    c.in_ok-second-in-Imply.ensures c.in_ok-form-in-Imply.ensures.joined c.in_ok-form-in-Imply.ensures.tidy)

pub gathered_body-loop-choice-preserved : goal.gathered_body-loop-choice-preserved
gathered_body-loop-choice-preserved t c =
    let N = c.args.numbers.now in
    let slots = c.args.slots.now in
    let ranges = c.args.ranges.now in
    let k = c.loop-choice.choice in
    let within : k < choice_count N ranges = subst (λ n. k < n) c.in_ok-count.ensures c.loop-choice-test.true in
    let inside : k < length (bound N slots ranges) = subst (λ n. k < n) (sym (length-bound N slots ranges)) within in
    let placed : c.place_choice.new.slots.items ≡ slots ++ choice N ranges k = c.in_ok-place_choice.ensures ∙ ap (λ front. front ++ choice N ranges k) c.loop-choice.invariant.outer in
    record {
      outer = ap (take (length slots)) placed ∙ take-append_seam slots (choice N ranges k);
      gathers =
          gathers-part N c.args.statics.now (λ inner. condition_meaning N inner c.args.body.now) (bound N slots ranges) c.args.work.now c.loop-choice.work c.condition_form.new.work c.args.every c.loop-choice.gathered c.take.new.self k c.as_slice.result.now c.in_ok-made.made
          inside (bound-at N slots ranges c.as_slice.result.now k within (c.as_slice.ensures.value ∙ placed)) c.loop-choice.invariant.gathers c.in_ok-made.ensures c.in_ok-take.ensures.every c.in_ok-take.ensures.sound c.in_ok-take.ensures.joined;
    }

pub gathered_body-returns : goal.gathered_body-returns
gathered_body-returns t c =
    let N = c.args.numbers.now in
    let slots = c.args.slots.now in
    let ranges = c.args.ranges.now in
    gathers-all N c.args.statics.now (λ inner. condition_meaning N inner c.args.body.now) (bound N slots ranges) c.args.work.now c.loop-choice.work c.args.every c.loop-choice.gathered c.loop-choice.choice
    (subst (λ n. n ≤ c.loop-choice.choice) (c.in_ok-count.ensures ∙ sym (length-bound N slots ranges)) c.loop-choice-test.false) c.loop-choice.invariant.gathers
