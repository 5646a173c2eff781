use Rattle.std.proofs.Common.{◌≡◌, ◌∙◌, ◌+◌, ◌<◌, ◌≤◌, ◌++◌, true, map, length, take, sym, ap, subst}
use Rattle.std.specs.Prelude.{IfOk}
use Rattle.std.proofs.Math.Seq.{take-append_seam}
use Rattle.p3_numbers.specs.Slots.{Slots, bound}
use Rattle.p3_numbers.specs.Choices.{choice, choice_count}
use Rattle.p3_expansion.proofs.ChoiceLemmas.{length-bound, bound-at}
use Rattle.p3_reasons.specs.Outcomes.{Outcome, joined, hard_outcome}
use Rattle.p3_reasons.specs.Gathering.{outcome_of}
use Rattle.p3_reasons.proofs.GatheringLemmas.{Begun, begun-more, begun-settled, begun-all}
use Rattle.p3_reasons.proofs.OutcomeLemmas.{hard-Plain, hard-Both, hard-Each, hard-Soft}
use Rattle.p3_reasons.proofs.goal.+hard.Goals as goal

pub hard_finding-returns-in-Plain : goal.hard_finding-returns-in-Plain
hard_finding-returns-in-Plain g t c =
    let come = hard_outcome c.args.numbers.now (g.F.Facts.has_atom c.args.facts.now) c.args.slots.now in
    subst (λ whole. IfOk c.condition_finding.result (λ finding. outcome_of finding ≡ whole))
    (sym (ap come c.in-Plain.is ∙ hard-Plain c.args.numbers.now (g.F.Facts.has_atom c.args.facts.now) c.args.slots.now c.in-Plain.condition))
    c.condition_finding.ensures

pub hard_finding-returns-in-Both : goal.hard_finding-returns-in-Both
hard_finding-returns-in-Both g t c =
    let come = hard_outcome c.args.numbers.now (g.F.Facts.has_atom c.args.facts.now) c.args.slots.now in
    subst (λ whole. IfOk c.hard_parts_finding.result (λ finding. outcome_of finding ≡ whole))
    (ap (λ parts. joined true (map come parts)) c.items.ensures
    ∙ sym (ap come c.in-Both.is ∙ hard-Both c.args.numbers.now (g.F.Facts.has_atom c.args.facts.now) c.args.slots.now c.in-Both.parts))
    c.hard_parts_finding.ensures

pub hard_finding-returns-in-Each : goal.hard_finding-returns-in-Each
hard_finding-returns-in-Each g t c =
    let N = c.args.numbers.now in
    let test = g.F.Facts.has_atom c.args.facts.now in
    let slots = c.args.slots.now in
    subst (λ whole. IfOk c.hard_bodies_finding.result (λ finding. outcome_of finding ≡ whole))
    ((λ i. joined true (map (λ inner. hard_outcome N test inner (c.get-body.ensures i)) (bound N slots (c.items-ranges.ensures i))))
    ∙ sym (ap (hard_outcome N test slots) c.in-Each.is ∙ hard-Each N test slots c.in-Each.ranges c.in-Each.body))
    c.hard_bodies_finding.ensures

pub hard_finding-returns-in-Soft : goal.hard_finding-returns-in-Soft
hard_finding-returns-in-Soft g t c =
    let come = hard_outcome c.args.numbers.now (g.F.Facts.has_atom c.args.facts.now) c.args.slots.now in
    c.fixed.ensures ∙ sym (ap come c.in-Soft.is ∙ hard-Soft c.args.numbers.now (g.F.Facts.has_atom c.args.facts.now) c.args.slots.now c.in-Soft.field-0)

pub hard_parts_finding-returns-then-not-finding : goal.hard_parts_finding-returns-then-not-finding
hard_parts_finding-returns-then-not-finding g t c =
    begun-settled true (hard_outcome c.args.numbers.now (g.F.Facts.has_atom c.args.facts.now) c.args.slots.now) c.args.parts.now c.loop-part.part-index c.part-item.result c.loop-part.gathered c.in_ok-finding.finding
    c.loop-part-test.true c.part-item.is c.loop-part.invariant c.in_ok-finding.ensures c.if-not-finding.true

pub hard_parts_finding-loop-part-preserved : goal.hard_parts_finding-loop-part-preserved
hard_parts_finding-loop-part-preserved g t c =
    let come = hard_outcome c.args.numbers.now (g.F.Facts.has_atom c.args.facts.now) c.args.slots.now in
    subst (Begun true (map come (take (c.loop-part.part-index + 1) c.args.parts.now))) (sym c.in_ok-push.ensures.ok)
    (begun-more true come c.args.parts.now c.loop-part.part-index c.part-item.result c.loop-part.gathered c.in_ok-finding.finding
    c.loop-part-test.true c.part-item.is c.loop-part.invariant c.in_ok-finding.ensures c.if-not-finding.false)

pub hard_parts_finding-returns : goal.hard_parts_finding-returns
hard_parts_finding-returns g t c =
    begun-all true (hard_outcome c.args.numbers.now (g.F.Facts.has_atom c.args.facts.now) c.args.slots.now) c.args.parts.now c.loop-part.part-index c.loop-part.gathered c.loop-part-test.false c.loop-part.invariant

pub hard_bodies_finding-returns-then-not-finding : goal.hard_bodies_finding-returns-then-not-finding
hard_bodies_finding-returns-then-not-finding g t c =
    let N = c.args.numbers.now in
    let slots = c.args.slots.now in
    let ranges = c.args.ranges.now in
    let k = c.loop-choice.choice in
    let within : k < choice_count N ranges = subst (λ n. k < n) c.in_ok-count.ensures c.loop-choice-test.true in
    let placed : c.place_choice.new.slots.items ≡ slots ++ choice N ranges k = c.in_ok-place_choice.ensures ∙ ap (λ front. front ++ choice N ranges k) c.loop-choice.invariant.outer in
    let come : Slots → Outcome = λ inner. hard_outcome N (g.F.Facts.has_atom c.args.facts.now) inner c.args.body.now in
    begun-settled true come (bound N slots ranges) k c.place_choice.new.slots.items c.loop-choice.gathered c.in_ok-finding.finding (subst (λ n. k < n) (sym (length-bound N slots ranges)) within)
    (bound-at N slots ranges c.place_choice.new.slots.items k within placed) c.loop-choice.invariant.begun (c.in_ok-finding.ensures ∙ ap come c.as_slice.ensures.value) c.if-not-finding.true

pub hard_bodies_finding-loop-choice-preserved : goal.hard_bodies_finding-loop-choice-preserved
hard_bodies_finding-loop-choice-preserved g t c =
    let N = c.args.numbers.now in
    let slots = c.args.slots.now in
    let ranges = c.args.ranges.now in
    let k = c.loop-choice.choice in
    let within : k < choice_count N ranges = subst (λ n. k < n) c.in_ok-count.ensures c.loop-choice-test.true in
    let placed : c.place_choice.new.slots.items ≡ slots ++ choice N ranges k = c.in_ok-place_choice.ensures ∙ ap (λ front. front ++ choice N ranges k) c.loop-choice.invariant.outer in
    let come : Slots → Outcome = λ inner. hard_outcome N (g.F.Facts.has_atom c.args.facts.now) inner c.args.body.now in
    record {
      outer = ap (take (length slots)) placed ∙ take-append_seam slots (choice N ranges k);
      begun =
          subst (Begun true (map come (take (k + 1) (bound N slots ranges)))) (sym c.in_ok-push.ensures.ok)
          (begun-more true come (bound N slots ranges) k c.place_choice.new.slots.items c.loop-choice.gathered c.in_ok-finding.finding (subst (λ n. k < n) (sym (length-bound N slots ranges)) within)
          (bound-at N slots ranges c.place_choice.new.slots.items k within placed) c.loop-choice.invariant.begun (c.in_ok-finding.ensures ∙ ap come c.as_slice.ensures.value) c.if-not-finding.false);
    }

pub hard_bodies_finding-returns : goal.hard_bodies_finding-returns
hard_bodies_finding-returns g t c =
    let N = c.args.numbers.now in
    let slots = c.args.slots.now in
    let ranges = c.args.ranges.now in
    let k = c.loop-choice.choice in
    let past : length (bound N slots ranges) ≤ k = subst (λ n. n ≤ k) (c.in_ok-count.ensures ∙ sym (length-bound N slots ranges)) c.loop-choice-test.false in
    begun-all true (λ inner. hard_outcome N (g.F.Facts.has_atom c.args.facts.now) inner c.args.body.now) (bound N slots ranges) k c.loop-choice.gathered past c.loop-choice.invariant.begun
