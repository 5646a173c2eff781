use Rattle.std.proofs.Common.{◌∙◌, ◌<◌, ◌≤◌, List, ℕ, Some, get_or, length, sym, ap, subst}
use Rattle.p3_types.specs.declared.finding.Found.TheVariants.{Number}
use Rattle.p3_run.specs.Runs.{CanBeRun, Ran}
use Rattle.p3_eval.specs.Judged.{NamesMisfitOfFound, TellsOfFound}
use Rattle.p3_eval.proofs.JudgeLaws.{has_done, has_room, never_fits, next_number, next_rest, none_done, still_together}
use Rattle.p3_explain.proofs.FaultLaws.{step_faults}
use Rattle.p3_explain.proofs.WalkLaws.{weights_stay}
use Rattle.p3_explain.proofs.walking.walk.Goals as goal

pub loop-number-init : goal.loop-number-init
loop-number-init c = record { ran = none_done c.args.run.now c.args.steps.now.numbers.items c.requires.begun; marked = c.requires.marked }

pub walk_step-requires-clause-task : goal.walk_step-requires-clause-task
walk_step-requires-clause-task c = c.requires.task ∙ sym (ap (λ (ran : Ran). ran.task) c.loop-number.invariant.ran)

pub walk_step-requires-clause-can : goal.walk_step-requires-clause-can
walk_step-requires-clause-can c = subst (λ (ran : Ran). CanBeRun ran.task ran.weights) (sym c.loop-number.invariant.ran) c.requires.can

pub walk_step-requires-clause-room : goal.walk_step-requires-clause-room
walk_step-requires-clause-room c =
    let at = c.loop-number.number-index in
    let within = subst (λ (list : List ℕ). at < length list) c.as_slice-number-items.ensures.value c.loop-number-test.true in
    has_room c.args.run.now c.loop-number.run c.args.steps.now.numbers.items at c.loop-number.invariant.ran c.args.steps.now.rest c.args.steps.now.few within

pub returns-in-Some-clause-fail : goal.returns-in-Some-clause-fail
returns-in-Some-clause-fail c T all left plan first =
    let before = c.args.run.now in
    let now = c.loop-number.run in
    let steps = c.args.steps.now in
    let at = c.loop-number.number-index in
    let is = c.loop-number.invariant.ran in
    let same = c.as_slice-number-items.ensures.value in
    let within = subst (λ (list : List ℕ). at < length list) same c.loop-number-test.true in
    let tried = Number (get_or c.as_slice-number-items.result.now at 0) in
    let told = subst (λ (list : List ℕ). TellsOfFound now (Number (get_or list at 0)) (Some c.in-Some.fault)) same (subst (TellsOfFound now tried) c.in-Some.is c.in_ok-fault.ensures.told) in
    let names = subst (λ (list : List ℕ). NamesMisfitOfFound now (Number (get_or list at 0)) (Some c.in-Some.fault)) same (subst (NamesMisfitOfFound now tried) c.in-Some.is c.in_ok-fault.ensures.misfit) in
    step_faults T plan now _ (still_together before now steps.numbers.items at is T all left plan steps.rest first) (next_number before now steps.numbers.items at is T all left plan steps.rest first within) c.in-Some.fault told names

pub returns-in-Some-2-clause-fail : goal.returns-in-Some-2-clause-fail
returns-in-Some-2-clause-fail c T all left plan first =
    let before = c.args.run.now in
    let now = c.loop-number.run in
    let steps = c.args.steps.now in
    let at = c.loop-number.number-index in
    let is = c.loop-number.invariant.ran in
    let past = subst (λ (list : List ℕ). length list ≤ at) c.as_slice-number-items.ensures.value c.loop-number-test.false in
    let found = c.in-Some-rest.found in
    step_faults T plan now found (still_together before now steps.numbers.items at is T all left plan steps.rest first) (next_rest before now steps.numbers.items at is T all left plan steps.rest first past found c.in-Some-rest.is)
    c.in-Some-2.fault (subst (TellsOfFound now found) c.in-Some-2.is c.in_ok-fault-2.ensures.told) (subst (NamesMisfitOfFound now found) c.in-Some-2.is c.in_ok-fault-2.ensures.misfit)

pub returns-in_default-2-clause-done : goal.returns-in_default-2-clause-done
returns-in_default-2-clause-done c T all left plan first =
    let steps = c.args.steps.now in
    let at = c.loop-number.number-index in
    let past = subst (λ (list : List ℕ). length list ≤ at) c.as_slice-number-items.ensures.value c.loop-number-test.false in
    absurd (never_fits c.args.run.now c.loop-number.run steps.numbers.items at c.loop-number.invariant.ran T all left plan steps.rest first past c.in-Some-rest.found c.in-Some-rest.is
    (subst (TellsOfFound c.loop-number.run c.in-Some-rest.found) c.in_default-2.is c.in_ok-fault-2.ensures.told))

pub returns-in_default-rest-clause-done : goal.returns-in_default-rest-clause-done
returns-in_default-rest-clause-done c T all left plan first =
    let steps = c.args.steps.now in
    let at = c.loop-number.number-index in
    let past = subst (λ (list : List ℕ). length list ≤ at) c.as_slice-number-items.ensures.value c.loop-number-test.false in
    has_done c.args.run.now c.loop-number.run steps.numbers.items at c.loop-number.invariant.ran T all left plan steps.rest first past c.in_default-rest.is

pub returns-in_default-2-clause-weights : goal.returns-in_default-2-clause-weights
returns-in_default-2-clause-weights c =
    ap (λ (ran : Ran). ran.weights) c.in_ok-fault-2.ensures.ran
    ∙ weights_stay c.loop-number.run c.in-Some-rest.found _
    ∙ ap (λ (ran : Ran). ran.weights) c.loop-number.invariant.ran
