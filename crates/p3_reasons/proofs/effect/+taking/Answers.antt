use Rattle.std.proofs.Common.{◌≡◌, ◌∙◌, ◌<◌, ◌≤◌, ◌++◌, ◌∷◌, [], Bool, true, false, List, if◌then◌else◌, length, take, sym, ap, subst}
use Rattle.std.specs.Prelude.{flat_map, OnOk}
use Rattle.std.proofs.Math.Seq.{take-append_seam}
use Rattle.std.proofs.lemmas.List.{append-nil, take_all}
use Rattle.p3_numbers.specs.Slots.{Slots, bound}
use Rattle.p3_numbers.specs.Choices.{choice, choice_count}
use Rattle.p3_expansion.specs.Atoms.{atom_at}
use Rattle.p3_expansion.proofs.ChoiceLemmas.{length-bound, bound-at}
use Rattle.p3_reasons.specs.Effects.{taken}
use Rattle.p3_reasons.specs.Outcomes.{Outcome, outcome}
use Rattle.p3_reasons.specs.declared.decision.Literal.{Literal}
use Rattle.p3_reasons.proofs.EffectLemmas.{taken-Add, taken-Del, taken-All, taken-Each, taken-If, taken-Cost, taken-more}
use Rattle.p3_reasons.proofs.effect.+taking.Goals as goal

pub push_taken-returns-in-Add : goal.push_taken-returns-in-Add
push_taken-returns-in-Add g t c =
    let N = c.args.numbers.now in
    let test = g.F.Facts.has_atom c.args.facts.now in
    let slots = c.args.slots.now in
    subst (λ more. OnOk c.push_literal.result (c.push_literal.new.taken ≡ c.args.taken.now ++ more))
    ((λ i. record { atom = atom_at slots c.in-Add.predicate (c.items.ensures i); holds = true } ∷ []) ∙ sym (ap (taken N test slots) c.in-Add.is ∙ taken-Add N test slots c.in-Add.predicate c.in-Add.args))
    c.push_literal.ensures

pub push_taken-returns-in-Del : goal.push_taken-returns-in-Del
push_taken-returns-in-Del g t c =
    let N = c.args.numbers.now in
    let test = g.F.Facts.has_atom c.args.facts.now in
    let slots = c.args.slots.now in
    subst (λ more. OnOk c.push_literal-in-Del.result (c.push_literal-in-Del.new.taken ≡ c.args.taken.now ++ more))
    ((λ i. record { atom = atom_at slots c.in-Del.predicate (c.items-in-Del.ensures i); holds = false } ∷ []) ∙ sym (ap (taken N test slots) c.in-Del.is ∙ taken-Del N test slots c.in-Del.predicate c.in-Del.args))
    c.push_literal-in-Del.ensures

pub push_taken-returns-in-All : goal.push_taken-returns-in-All
push_taken-returns-in-All g t c =
    let N = c.args.numbers.now in
    let test = g.F.Facts.has_atom c.args.facts.now in
    let slots = c.args.slots.now in
    subst (λ more. OnOk c.push_all_taken.result (c.push_all_taken.new.taken ≡ c.args.taken.now ++ more))
    (ap (flat_map (taken N test slots)) c.items-in-All.ensures ∙ sym (ap (taken N test slots) c.in-All.is ∙ taken-All N test slots c.in-All.parts)) c.push_all_taken.ensures

pub push_taken-returns-in-Each : goal.push_taken-returns-in-Each
push_taken-returns-in-Each g t c =
    let N = c.args.numbers.now in
    let test = g.F.Facts.has_atom c.args.facts.now in
    let slots = c.args.slots.now in
    subst (λ more. OnOk c.push_each_taken.result (c.push_each_taken.new.taken ≡ c.args.taken.now ++ more))
    ((λ i. flat_map (λ inner. taken N test inner (c.get-body.ensures i)) (bound N slots (c.items-ranges.ensures i))) ∙ sym (ap (taken N test slots) c.in-Each.is ∙ taken-Each N test slots c.in-Each.ranges c.in-Each.body))
    c.push_each_taken.ensures

pub push_taken-returns-then-finding : goal.push_taken-returns-then-finding
push_taken-returns-then-finding g t c =
    let N = c.args.numbers.now in
    let test = g.F.Facts.has_atom c.args.facts.now in
    let slots = c.args.slots.now in
    let holds : (outcome N test slots c.in-If.condition).holds ≡ true = ap (λ (one : Outcome). one.holds) (sym c.in_ok-finding-in-If.ensures) ∙ c.if-finding.true in
    subst (λ more. OnOk c.push_taken.result (c.push_taken.new.taken ≡ c.args.taken.now ++ more))
    (ap (taken N test slots) c.get.ensures ∙ sym (ap (taken N test slots) c.in-If.is ∙ taken-If N test slots c.in-If.condition c.in-If.body ∙ ap (λ (one : Bool). if one then taken N test slots c.in-If.body else []) holds)) c.push_taken.ensures

pub push_taken-returns-else-finding : goal.push_taken-returns-else-finding
push_taken-returns-else-finding g t c =
    let N = c.args.numbers.now in
    let test = g.F.Facts.has_atom c.args.facts.now in
    let slots = c.args.slots.now in
    let fails : (outcome N test slots c.in-If.condition).holds ≡ false = ap (λ (one : Outcome). one.holds) (sym c.in_ok-finding-in-If.ensures) ∙ c.if-finding.false in
    sym (append-nil c.args.taken.now)
    ∙ ap (λ more. c.args.taken.now ++ more) (sym (ap (taken N test slots) c.in-If.is ∙ taken-If N test slots c.in-If.condition c.in-If.body ∙ ap (λ (one : Bool). if one then taken N test slots c.in-If.body else []) fails))

pub push_taken-returns-in-Cost : goal.push_taken-returns-in-Cost
push_taken-returns-in-Cost g t c =
    let N = c.args.numbers.now in
    let test = g.F.Facts.has_atom c.args.facts.now in
    let slots = c.args.slots.now in
    sym (append-nil c.args.taken.now) ∙ ap (λ more. c.args.taken.now ++ more) (sym (ap (taken N test slots) c.in-Cost.is ∙ taken-Cost N test slots c.in-Cost.field-0))

pub push_each_taken-loop-choice-preserved : goal.push_each_taken-loop-choice-preserved
push_each_taken-loop-choice-preserved g t c =
    let N = c.args.numbers.now in
    let slots = c.args.slots.now in
    let ranges = c.args.ranges.now in
    let k = c.loop-choice.choice in
    let within : k < choice_count N ranges = subst (λ n. k < n) c.in_ok-count.ensures c.loop-choice-test.true in
    let placed : c.place_choice.new.slots.items ≡ slots ++ choice N ranges k = c.in_ok-place_choice.ensures ∙ ap (λ front. front ++ choice N ranges k) c.loop-choice.invariant.outer in
    let take_of : Slots → List Literal = λ inner. taken N (g.F.Facts.has_atom c.args.facts.now) inner c.args.body.now in
    record {
      outer = ap (take (length slots)) placed ∙ take-append_seam slots (choice N ranges k);
      taken =
          taken-more take_of (bound N slots ranges) k c.place_choice.new.slots.items c.args.taken.now c.loop-choice.taken c.push_taken.new.taken (subst (λ n. k < n) (sym (length-bound N slots ranges)) within)
          (bound-at N slots ranges c.place_choice.new.slots.items k within placed) c.loop-choice.invariant.taken (c.in_ok-push_taken.ensures ∙ ap (λ inner. c.loop-choice.taken ++ take_of inner) c.as_slice.ensures.value);
    }

pub push_each_taken-returns : goal.push_each_taken-returns
push_each_taken-returns g t c =
    let N = c.args.numbers.now in
    let slots = c.args.slots.now in
    let ranges = c.args.ranges.now in
    let k = c.loop-choice.choice in
    let past : length (bound N slots ranges) ≤ k = subst (λ n. n ≤ k) (c.in_ok-count.ensures ∙ sym (length-bound N slots ranges)) c.loop-choice-test.false in
    let take_of : Slots → List Literal = λ inner. taken N (g.F.Facts.has_atom c.args.facts.now) inner c.args.body.now in
    c.loop-choice.invariant.taken ∙ ap (λ passed. c.args.taken.now ++ flat_map take_of passed) (take_all k (bound N slots ranges) past)
