use Rattle.std.proofs.Common.{◌≡◌, ◌∙◌, ◌<◌, ◌≤◌, ◌++◌, [], true, length, take, refl, sym, ap, subst}
use Rattle.std.proofs.Math.Seq.{take-append_seam, take-length}
use Rattle.p3_formula.specs.declared.form.Form.TheVariants.{True}
use Rattle.p3_numbers.specs.Slots.{bound}
use Rattle.p3_numbers.specs.Choices.{choice, choice_count}
use Rattle.p3_expansion.specs.Hard.{hard_meaning, hard_parts, hard_bodies}
use Rattle.p3_expansion.specs.Meanings.{joined, condition_meaning, reads_of}
use Rattle.p3_expansion.proofs.ChoiceLemmas.{length-bound, bound-at}
use Rattle.p3_expansion.proofs.ExpansionLemmas.{makes-by, makes-constant, makes-finished, gathers-none, gathers-part, gathers-decided, gathers-all}
use Rattle.p3_expansion.proofs.GrowthLemmas.{grows-refl}
use Rattle.p3_expansion.proofs.HardLemmas.{hard-Plain, hard-Both, hard-Each, hard-Soft}
use Rattle.p3_expansion.proofs.goal.+hard.Goals as goal

pub hard_form-returns-in_ok-form-in-Plain : goal.hard_form-returns-in_ok-form-in-Plain
hard_form-returns-in_ok-form-in-Plain t c =
    let N = c.args.numbers.now in
    let slots = c.args.slots.now in
    makes-by N c.args.statics.now c.args.work.now c.condition_form.new.work c.in_ok-form-in-Plain.form (hard_meaning N slots c.args.goal.now) (condition_meaning N slots c.in-Plain.condition)
    (ap (hard_meaning N slots) c.in-Plain.is ∙ hard-Plain N slots c.in-Plain.condition) c.in_ok-form-in-Plain.ensures

pub hard_form-returns-in-Soft : goal.hard_form-returns-in-Soft
hard_form-returns-in-Soft t c =
    let N = c.args.numbers.now in
    let slots = c.args.slots.now in
    makes-constant N c.args.statics.now c.args.work.now c.args.work.now (hard_meaning N slots c.args.goal.now) True true (grows-refl [] c.args.work.now) refl
    (λ s settled. hard-Soft N slots c.in-Soft.field-0 s ∙ ap (λ tree. (hard_meaning N slots tree).test s) (sym c.in-Soft.is))

pub hard_form-returns-in_ok-gathered-in-Both : goal.hard_form-returns-in_ok-gathered-in-Both
hard_form-returns-in_ok-gathered-in-Both t c =
    let N = c.args.numbers.now in
    let slots = c.args.slots.now in
    let items = c.items.result.now in
    makes-by N c.args.statics.now c.args.work.now c.hard_parts.new.work c.finish.result (hard_meaning N slots c.args.goal.now) (joined true (hard_parts N slots items))
    (ap (hard_meaning N slots) c.in-Both.is ∙ hard-Both N slots c.in-Both.parts ∙ ap (λ parts. joined true (hard_parts N slots parts)) (sym c.items.ensures))
    (makes-finished N c.args.statics.now c.args.work.now c.hard_parts.new.work true (hard_parts N slots items) c.in_ok-gathered-in-Both.gathered c.finish.result c.in_ok-gathered-in-Both.ensures c.finish.ensures)

pub hard_form-returns-in_ok-gathered-in-Each : goal.hard_form-returns-in_ok-gathered-in-Each
hard_form-returns-in_ok-gathered-in-Each t c =
    let N = c.args.numbers.now in
    let slots = c.args.slots.now in
    let ranges = c.items-ranges.result.now in
    let body = c.get-body.result.now in
    makes-by N c.args.statics.now c.args.work.now c.hard_bodies.new.work c.finish-in-Each.result (hard_meaning N slots c.args.goal.now) (joined true (hard_bodies N slots ranges body))
    (ap (hard_meaning N slots) c.in-Each.is ∙ hard-Each N slots c.in-Each.ranges c.in-Each.body ∙ (λ i. joined true (hard_bodies N slots (sym c.items-ranges.ensures i) (sym c.get-body.ensures i))))
    (makes-finished N c.args.statics.now c.args.work.now c.hard_bodies.new.work true (hard_bodies N slots ranges body) c.in_ok-gathered-in-Each.gathered c.finish-in-Each.result c.in_ok-gathered-in-Each.ensures c.finish-in-Each.ensures)

pub hard_parts-loop-part-init : goal.hard_parts-loop-part-init
hard_parts-loop-part-init t c =
    gathers-none c.args.numbers.now c.args.statics.now (reads_of (hard_parts c.args.numbers.now c.args.slots.now c.args.parts.now)) c.args.work.now true c.in_ok-gathered.gathered c.in_ok-gathered.ensures.every c.in_ok-gathered.ensures.parts c.in_ok-gathered.ensures.cut

pub hard_parts-returns-then-gathered : goal.hard_parts-returns-then-gathered
hard_parts-returns-then-gathered t c =
    gathers-decided c.args.numbers.now c.args.statics.now (hard_meaning c.args.numbers.now c.args.slots.now) c.args.parts.now c.args.work.now c.loop-part.work true c.loop-part.gathered c.loop-part.part-index c.loop-part.invariant c.if-gathered.true

pub hard_parts-loop-part-preserved : goal.hard_parts-loop-part-preserved
hard_parts-loop-part-preserved t c =
    gathers-part c.args.numbers.now c.args.statics.now (hard_meaning c.args.numbers.now c.args.slots.now) c.args.parts.now c.args.work.now c.loop-part.work c.hard_form.new.work true c.loop-part.gathered c.take.new.self c.loop-part.part-index c.part-item.result c.in_ok-form.form
    c.loop-part-test.true c.part-item.is c.loop-part.invariant c.in_ok-form.ensures c.in_ok-take.ensures.every c.in_ok-take.ensures.sound c.in_ok-take.ensures.joined

pub hard_bodies-loop-choice-init : goal.hard_bodies-loop-choice-init
hard_bodies-loop-choice-init t c = record {
  outer = ap (take (length c.args.slots.now)) c.in_ok-inner.ensures.items ∙ take-length c.args.slots.now;
  gathers =
      gathers-none c.args.numbers.now c.args.statics.now (reads_of (hard_bodies c.args.numbers.now c.args.slots.now c.args.ranges.now c.args.body.now)) c.args.work.now true c.new-gathered.result c.new-gathered.ensures.every c.new-gathered.ensures.parts c.new-gathered.ensures.cut;
}

pub hard_bodies-returns-then-gathered : goal.hard_bodies-returns-then-gathered
hard_bodies-returns-then-gathered t c =
    gathers-decided c.args.numbers.now c.args.statics.now (λ inner. hard_meaning c.args.numbers.now inner c.args.body.now) (bound c.args.numbers.now c.args.slots.now c.args.ranges.now) c.args.work.now c.loop-choice.work true c.loop-choice.gathered c.loop-choice.choice c.loop-choice.invariant.gathers c.if-gathered.true

pub hard_bodies-loop-choice-preserved : goal.hard_bodies-loop-choice-preserved
hard_bodies-loop-choice-preserved t c =
    let N = c.args.numbers.now in
    let slots = c.args.slots.now in
    let ranges = c.args.ranges.now in
    let k = c.loop-choice.choice in
    let within : k < choice_count N ranges = subst (λ n. k < n) c.in_ok-count.ensures c.loop-choice-test.true in
    let inside : k < length (bound N slots ranges) = subst (λ n. k < n) (sym (length-bound N slots ranges)) within in
    let placed : c.place_choice.new.slots.items ≡ slots ++ choice N ranges k = c.in_ok-place_choice.ensures ∙ ap (λ front. front ++ choice N ranges k) c.loop-choice.invariant.outer in
    record {
      outer = ap (take (length slots)) placed ∙ take-append_seam slots (choice N ranges k);
      gathers =
          gathers-part N c.args.statics.now (λ inner. hard_meaning N inner c.args.body.now) (bound N slots ranges) c.args.work.now c.loop-choice.work c.hard_form.new.work true c.loop-choice.gathered c.take.new.self k c.as_slice.result.now c.in_ok-form.form
          inside (bound-at N slots ranges c.as_slice.result.now k within (c.as_slice.ensures.value ∙ placed)) c.loop-choice.invariant.gathers c.in_ok-form.ensures c.in_ok-take.ensures.every c.in_ok-take.ensures.sound c.in_ok-take.ensures.joined;
    }

pub hard_bodies-returns : goal.hard_bodies-returns
hard_bodies-returns t c =
    let N = c.args.numbers.now in
    let slots = c.args.slots.now in
    let ranges = c.args.ranges.now in
    gathers-all N c.args.statics.now (λ inner. hard_meaning N inner c.args.body.now) (bound N slots ranges) c.args.work.now c.loop-choice.work true c.loop-choice.gathered c.loop-choice.choice
    (subst (λ n. n ≤ c.loop-choice.choice) (c.in_ok-count.ensures ∙ sym (length-bound N slots ranges)) c.loop-choice-test.false) c.loop-choice.invariant.gathers
