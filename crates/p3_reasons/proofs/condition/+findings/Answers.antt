use Rattle.std.proofs.Common.{◌≡◌, ◌∙◌, ◌+◌, ◌<◌, ◌≤◌, [], ◌∷◌, ◌++◌, true, false, map, length, take, sym, ap, subst}
use Rattle.std.specs.Prelude.{IfOk}
use Rattle.std.proofs.Math.Seq.{take-append_seam}
use Rattle.p3_numbers.specs.Slots.{Slots, bound}
use Rattle.p3_numbers.specs.Choices.{choice, choice_count}
use Rattle.p3_expansion.proofs.ChoiceLemmas.{length-bound, bound-at}
use Rattle.p3_reasons.specs.Outcomes.{Outcome, joined, opposite, outcome}
use Rattle.p3_reasons.specs.Gathering.{outcome_of}
use Rattle.p3_reasons.proofs.GatheringLemmas.{Begun, begun-more, begun-settled, begun-all, first-joined, second-joined}
use Rattle.p3_reasons.proofs.OutcomeLemmas.{outcome-Equal, outcome-And, outcome-Or, outcome-Not, outcome-Imply, outcome-Exists, outcome-Forall}
use Rattle.p3_reasons.proofs.condition.+findings.Goals as goal

pub condition_finding-returns-in-Equal : goal.condition_finding-returns-in-Equal
condition_finding-returns-in-Equal g t c =
    let come = outcome c.args.numbers.now (g.F.Facts.has_atom c.args.facts.now) c.args.slots.now in
    c.fixed.ensures ∙ (λ i. record { holds = c.are_same.ensures i; atoms = [] })
    ∙ sym (ap come c.in-Equal.is ∙ outcome-Equal c.args.numbers.now (g.F.Facts.has_atom c.args.facts.now) c.args.slots.now c.in-Equal.left c.in-Equal.right)

pub condition_finding-returns-in-And : goal.condition_finding-returns-in-And
condition_finding-returns-in-And g t c =
    let come = outcome c.args.numbers.now (g.F.Facts.has_atom c.args.facts.now) c.args.slots.now in
    subst (λ whole. IfOk c.parts_finding.result (λ finding. outcome_of finding ≡ whole))
    (ap (λ parts. joined true (map come parts)) c.items-in-And.ensures
    ∙ sym (ap come c.in-And.is ∙ outcome-And c.args.numbers.now (g.F.Facts.has_atom c.args.facts.now) c.args.slots.now c.in-And.parts))
    c.parts_finding.ensures

pub condition_finding-returns-in-Or : goal.condition_finding-returns-in-Or
condition_finding-returns-in-Or g t c =
    let come = outcome c.args.numbers.now (g.F.Facts.has_atom c.args.facts.now) c.args.slots.now in
    subst (λ whole. IfOk c.parts_finding-in-Or.result (λ finding. outcome_of finding ≡ whole))
    (ap (λ parts. joined false (map come parts)) c.items-in-Or.ensures
    ∙ sym (ap come c.in-Or.is ∙ outcome-Or c.args.numbers.now (g.F.Facts.has_atom c.args.facts.now) c.args.slots.now c.in-Or.parts))
    c.parts_finding-in-Or.ensures

pub condition_finding-returns-in_ok-part-in-Not : goal.condition_finding-returns-in_ok-part-in-Not
condition_finding-returns-in_ok-part-in-Not g t c =
    let come = outcome c.args.numbers.now (g.F.Facts.has_atom c.args.facts.now) c.args.slots.now in
    c.turned.ensures ∙ ap opposite (c.in_ok-part-in-Not.ensures ∙ ap come c.get.ensures)
    ∙ sym (ap come c.in-Not.is ∙ outcome-Not c.args.numbers.now (g.F.Facts.has_atom c.args.facts.now) c.args.slots.now c.in-Not.part)

pub condition_finding-returns-then-first : goal.condition_finding-returns-then-first
condition_finding-returns-then-first g t c =
    let come = outcome c.args.numbers.now (g.F.Facts.has_atom c.args.facts.now) c.args.slots.now in
    let first : outcome_of c.turned-first.result ≡ opposite (come c.in-Imply.first) = c.turned-first.ensures ∙ ap opposite (c.in_ok-first-in-Imply.ensures ∙ ap come c.get-in-Imply.ensures) in
    first-joined (outcome_of c.turned-first.result) (come c.in-Imply.second) c.if-first.true
    ∙ ap (λ first. joined false (first ∷ come c.in-Imply.second ∷ [])) first
    ∙ sym (ap come c.in-Imply.is ∙ outcome-Imply c.args.numbers.now (g.F.Facts.has_atom c.args.facts.now) c.args.slots.now c.in-Imply.first c.in-Imply.second)

pub condition_finding-returns-then-second : goal.condition_finding-returns-then-second
condition_finding-returns-then-second g t c =
    let come = outcome c.args.numbers.now (g.F.Facts.has_atom c.args.facts.now) c.args.slots.now in
    let first : outcome_of c.turned-first.result ≡ opposite (come c.in-Imply.first) = c.turned-first.ensures ∙ ap opposite (c.in_ok-first-in-Imply.ensures ∙ ap come c.get-in-Imply.ensures) in
    let second : outcome_of c.in_ok-second-in-Imply.second ≡ come c.in-Imply.second = c.in_ok-second-in-Imply.ensures ∙ ap come c.get-in-Imply-2.ensures in
    second-joined (outcome_of c.turned-first.result) (outcome_of c.in_ok-second-in-Imply.second) c.if-first.false c.if-second.true
    ∙ (λ i. joined false (first i ∷ second i ∷ []))
    ∙ sym (ap come c.in-Imply.is ∙ outcome-Imply c.args.numbers.now (g.F.Facts.has_atom c.args.facts.now) c.args.slots.now c.in-Imply.first c.in-Imply.second)

pub condition_finding-returns-else-second : goal.condition_finding-returns-else-second
condition_finding-returns-else-second g t c =
    let come = outcome c.args.numbers.now (g.F.Facts.has_atom c.args.facts.now) c.args.slots.now in
    let first : outcome_of c.turned-first.result ≡ opposite (come c.in-Imply.first) = c.turned-first.ensures ∙ ap opposite (c.in_ok-first-in-Imply.ensures ∙ ap come c.get-in-Imply.ensures) in
    let second : outcome_of c.in_ok-second-in-Imply.second ≡ come c.in-Imply.second = c.in_ok-second-in-Imply.ensures ∙ ap come c.get-in-Imply-2.ensures in
    subst (λ whole. IfOk c.neither.result (λ finding. outcome_of finding ≡ whole))
    ((λ i. joined false (first i ∷ second i ∷ []))
    ∙ sym (ap come c.in-Imply.is ∙ outcome-Imply c.args.numbers.now (g.F.Facts.has_atom c.args.facts.now) c.args.slots.now c.in-Imply.first c.in-Imply.second))
    c.neither.ensures

pub condition_finding-returns-in-Exists : goal.condition_finding-returns-in-Exists
condition_finding-returns-in-Exists g t c =
    let N = c.args.numbers.now in
    let test = g.F.Facts.has_atom c.args.facts.now in
    let slots = c.args.slots.now in
    subst (λ whole. IfOk c.bodies_finding.result (λ finding. outcome_of finding ≡ whole))
    ((λ i. joined false (map (λ inner. outcome N test inner (c.get-body.ensures i)) (bound N slots (c.items-ranges.ensures i))))
    ∙ sym (ap (outcome N test slots) c.in-Exists.is ∙ outcome-Exists N test slots c.in-Exists.ranges c.in-Exists.body))
    c.bodies_finding.ensures

pub condition_finding-returns-in-Forall : goal.condition_finding-returns-in-Forall
condition_finding-returns-in-Forall g t c =
    let N = c.args.numbers.now in
    let test = g.F.Facts.has_atom c.args.facts.now in
    let slots = c.args.slots.now in
    subst (λ whole. IfOk c.bodies_finding-in-Forall.result (λ finding. outcome_of finding ≡ whole))
    ((λ i. joined true (map (λ inner. outcome N test inner (c.get-body-in-Forall.ensures i)) (bound N slots (c.items-ranges-in-Forall.ensures i))))
    ∙ sym (ap (outcome N test slots) c.in-Forall.is ∙ outcome-Forall N test slots c.in-Forall.ranges c.in-Forall.body))
    c.bodies_finding-in-Forall.ensures

pub parts_finding-returns-then-settles_alone : goal.parts_finding-returns-then-settles_alone
parts_finding-returns-then-settles_alone g t c =
    begun-settled c.args.every (outcome c.args.numbers.now (g.F.Facts.has_atom c.args.facts.now) c.args.slots.now) c.args.parts.now c.loop-part.part-index c.part-item.result c.loop-part.gathered c.in_ok-finding.finding
    c.loop-part-test.true c.part-item.is c.loop-part.invariant c.in_ok-finding.ensures (sym c.settles_alone.ensures ∙ c.if-settles_alone.true)

pub parts_finding-loop-part-preserved : goal.parts_finding-loop-part-preserved
parts_finding-loop-part-preserved g t c =
    let come = outcome c.args.numbers.now (g.F.Facts.has_atom c.args.facts.now) c.args.slots.now in
    subst (Begun c.args.every (map come (take (c.loop-part.part-index + 1) c.args.parts.now))) (sym c.in_ok-push.ensures.ok)
    (begun-more c.args.every come c.args.parts.now c.loop-part.part-index c.part-item.result c.loop-part.gathered c.in_ok-finding.finding
    c.loop-part-test.true c.part-item.is c.loop-part.invariant c.in_ok-finding.ensures (sym c.settles_alone.ensures ∙ c.if-settles_alone.false))

pub parts_finding-returns : goal.parts_finding-returns
parts_finding-returns g t c =
    begun-all c.args.every (outcome c.args.numbers.now (g.F.Facts.has_atom c.args.facts.now) c.args.slots.now) c.args.parts.now c.loop-part.part-index c.loop-part.gathered c.loop-part-test.false c.loop-part.invariant

pub bodies_finding-returns-then-settles_alone : goal.bodies_finding-returns-then-settles_alone
bodies_finding-returns-then-settles_alone g t c =
    let N = c.args.numbers.now in
    let slots = c.args.slots.now in
    let ranges = c.args.ranges.now in
    let k = c.loop-choice.choice in
    let within : k < choice_count N ranges = subst (λ n. k < n) c.in_ok-count.ensures c.loop-choice-test.true in
    let placed : c.place_choice.new.slots.items ≡ slots ++ choice N ranges k = c.in_ok-place_choice.ensures ∙ ap (λ front. front ++ choice N ranges k) c.loop-choice.invariant.outer in
    let come : Slots → Outcome = λ inner. outcome N (g.F.Facts.has_atom c.args.facts.now) inner c.args.body.now in
    begun-settled c.args.every come (bound N slots ranges) k c.place_choice.new.slots.items c.loop-choice.gathered c.in_ok-finding.finding (subst (λ n. k < n) (sym (length-bound N slots ranges)) within)
    (bound-at N slots ranges c.place_choice.new.slots.items k within placed) c.loop-choice.invariant.begun (c.in_ok-finding.ensures ∙ ap come c.as_slice.ensures.value) (sym c.settles_alone.ensures ∙ c.if-settles_alone.true)

pub bodies_finding-loop-choice-preserved : goal.bodies_finding-loop-choice-preserved
bodies_finding-loop-choice-preserved g t c =
    let N = c.args.numbers.now in
    let slots = c.args.slots.now in
    let ranges = c.args.ranges.now in
    let k = c.loop-choice.choice in
    let within : k < choice_count N ranges = subst (λ n. k < n) c.in_ok-count.ensures c.loop-choice-test.true in
    let placed : c.place_choice.new.slots.items ≡ slots ++ choice N ranges k = c.in_ok-place_choice.ensures ∙ ap (λ front. front ++ choice N ranges k) c.loop-choice.invariant.outer in
    let come : Slots → Outcome = λ inner. outcome N (g.F.Facts.has_atom c.args.facts.now) inner c.args.body.now in
    record {
      outer = ap (take (length slots)) placed ∙ take-append_seam slots (choice N ranges k);
      begun =
          subst (Begun c.args.every (map come (take (k + 1) (bound N slots ranges)))) (sym c.in_ok-push.ensures.ok)
          (begun-more c.args.every come (bound N slots ranges) k c.place_choice.new.slots.items c.loop-choice.gathered c.in_ok-finding.finding (subst (λ n. k < n) (sym (length-bound N slots ranges)) within)
          (bound-at N slots ranges c.place_choice.new.slots.items k within placed) c.loop-choice.invariant.begun (c.in_ok-finding.ensures ∙ ap come c.as_slice.ensures.value) (sym c.settles_alone.ensures ∙ c.if-settles_alone.false));
    }

pub bodies_finding-returns : goal.bodies_finding-returns
bodies_finding-returns g t c =
    let N = c.args.numbers.now in
    let slots = c.args.slots.now in
    let ranges = c.args.ranges.now in
    let k = c.loop-choice.choice in
    let past : length (bound N slots ranges) ≤ k = subst (λ n. n ≤ k) (c.in_ok-count.ensures ∙ sym (length-bound N slots ranges)) c.loop-choice-test.false in
    begun-all c.args.every (λ inner. outcome N (g.F.Facts.has_atom c.args.facts.now) inner c.args.body.now) (bound N slots ranges) k c.loop-choice.gathered past c.loop-choice.invariant.begun
