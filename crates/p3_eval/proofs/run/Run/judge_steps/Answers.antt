use Rattle.std.proofs.Common.{◌≡◌, ◌<◌, ◌≤◌, List, ℕ, None, Some, get_or, length, subst}
use Rattle.p3_types.specs.declared.finding.Found.TheVariants.{Number}
use Rattle.p3_eval.specs.Judged.{TellsOfFound, ran_with}
use Rattle.p3_eval.proofs.JudgeLaws.{end_is_judged, fault_is_judged, has_room, has_room_behind, next_faults, next_number, none_done, one_more, rest_is_judged, still_together}
use Rattle.p3_eval.proofs.run.Run.judge_steps.Goals as goal

pub loop-number-init : goal.loop-number-init
loop-number-init c = none_done c.args.self.now c.args.steps.now.numbers.items c.requires

pub follow-requires : goal.follow-requires
follow-requires c =
    let at = c.loop-number.number-index in
    let within = subst (λ (list : List ℕ). at < length list) c.as_slice-number-items.ensures.value c.loop-number-test.true in
    has_room c.args.self.now c.loop-number.self c.args.steps.now.numbers.items at c.loop-number.invariant c.args.steps.now.rest c.args.steps.now.few within

pub loop-number-preserved : goal.loop-number-preserved
loop-number-preserved c =
    let at = c.loop-number.number-index in
    let within = subst (λ (list : List ℕ). at < length list) c.as_slice-number-items.ensures.value c.loop-number-test.true in
    let ran = subst (λ (list : List ℕ). c.follow.new.self ≡ ran_with c.loop-number.self (Number (get_or list at 0)) None) c.as_slice-number-items.ensures.value c.in_default.ensures.ran in
    one_more c.args.self.now c.loop-number.self c.args.steps.now.numbers.items at c.loop-number.invariant c.follow.new.self within ran

pub returns-in-Some-clause-judged : goal.returns-in-Some-clause-judged
returns-in-Some-clause-judged c T all left plan first =
    let before = c.args.self.now in
    let now = c.loop-number.self in
    let steps = c.args.steps.now in
    let at = c.loop-number.number-index in
    let is = c.loop-number.invariant in
    let within = subst (λ (list : List ℕ). at < length list) c.as_slice-number-items.ensures.value c.loop-number-test.true in
    let told = subst (λ (list : List ℕ). TellsOfFound now (Number (get_or list at 0)) (Some c.in-Some.fault)) c.as_slice-number-items.ensures.value c.in-Some.ensures.told in
    fault_is_judged T plan before c.follow.new.self c.in-Some.fault
    (next_faults T plan now _ (still_together before now steps.numbers.items at is T all left plan steps.rest first)
    (next_number before now steps.numbers.items at is T all left plan steps.rest first within) c.in-Some.fault told)

pub follow-requires-in-Some-rest : goal.follow-requires-in-Some-rest
follow-requires-in-Some-rest c =
    has_room_behind c.args.self.now c.loop-number.self c.args.steps.now.numbers.items c.loop-number.number-index c.loop-number.invariant c.args.steps.now.rest c.in-Some-rest.found c.in-Some-rest.is c.args.steps.now.few

pub returns-in-Some-rest-clause-judged : goal.returns-in-Some-rest-clause-judged
returns-in-Some-rest-clause-judged c T all left plan first =
    let past = subst (λ (list : List ℕ). length list ≤ c.loop-number.number-index) c.as_slice-number-items.ensures.value c.loop-number-test.false in
    rest_is_judged c.args.self.now c.loop-number.self c.args.steps.now.numbers.items c.loop-number.number-index c.loop-number.invariant T all left plan c.args.steps.now.rest first past
    c.in-Some-rest.found c.follow-in-Some-rest.result c.follow-in-Some-rest.new.self c.in-Some-rest.is c.follow-in-Some-rest.ensures.told

pub returns-in-None-clause-judged : goal.returns-in-None-clause-judged
returns-in-None-clause-judged c T all left plan first =
    let past = subst (λ (list : List ℕ). length list ≤ c.loop-number.number-index) c.as_slice-number-items.ensures.value c.loop-number-test.false in
    end_is_judged c.args.self.now c.loop-number.self c.args.steps.now.numbers.items c.loop-number.number-index c.loop-number.invariant T all left plan c.args.steps.now.rest first past
    c.judge.result c.in-None.is c.judge.ensures.fault
