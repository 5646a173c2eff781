use Rattle.std.proofs.Common.{◌≡◌, ◌∙◌, ◌+◌, ◌<◌, ◌≤◌, List, ℕ, Some, length, map, take, sym, ap, subst, arith}
use Rattle.std.specs.Prelude.{IsTrue}
use Rattle.std.specs.List.{All, list_all}
use Rattle.p3_formula.specs.Forms.{IsBelow}
use Rattle.p3_formula.specs.GroundPlans.{step_of}
use Rattle.p3_formula.specs.Targets.{is_sized_change}
use Rattle.p3_formula.specs.declared.task.GroundStep.{GroundStep}
use Rattle.p3_formula.specs.Next.{after}
use Rattle.p3_formula.specs.declared.form.Change.{Change}
use Rattle.p3_formula.proofs.NextLaws.{length-after}
use Rattle.p3_run.specs.Changing.{found_in, touched}
use Rattle.p3_run.specs.Groups.{CanRenew, renewed_all}
use Rattle.p3_run.specs.Kept.{IsRunOf}
use Rattle.p3_run.specs.Runs.{Ran, most_steps}
use Rattle.p3_run.specs.Steps.{IsByNumber, HasBodyBelow, numbered_step}
use Rattle.p3_run.proofs.RunLaws.{pre_below, bodies_below, effects_sized, prefs_named, light_cost, small_cost}
use Rattle.p3_run.proofs.TellLaws.{bits, steps_by_number, room_for_prefs, room_for_changes, can_renew, cheap, one_more}
use Rattle.p3_run.proofs.running.GroundRun.step.Goals as goal

pub step_at-requires : goal.step_at-requires
step_at-requires c = subst IsByNumber (sym c.items.ensures) (steps_by_number _ _ _ _ _ _ _ _ _ _ c.self.invariant)

pub eval-requires : goal.eval-requires
eval-requires c =
    let inside = c.self.inside in
    let at : step_of inside.task.now c.args.number ≡ Some c.in-Some.step.now = sym (c.in-Some.ensures ∙ ap (λ (steps : List GroundStep). numbered_step steps c.args.number) c.items.ensures) in
    subst (λ (n : ℕ). IsBelow n c.in-Some.step.now.pre) (sym (bits _ _ _ _ _ _ _ _ _ _ c.self.invariant))
    (pre_below inside.task.now inside.weights.now c.self.invariant.can.can c.args.number c.in-Some.step.now at)

pub count_step-requires-clause-light : goal.count_step-requires-clause-light
count_step-requires-clause-light c =
    let inside = c.self.inside in
    let at : step_of inside.task.now c.args.number ≡ Some c.in-Some.step.now = sym (c.in-Some.ensures ∙ ap (λ (steps : List GroundStep). numbered_step steps c.args.number) c.items.ensures) in
    light_cost inside.task.now inside.weights.now c.self.invariant.can.can c.args.number c.in-Some.step.now at c.in-Some-cost.cost c.in-Some-cost.is

pub count_step-requires-clause-below : goal.count_step-requires-clause-below
count_step-requires-clause-below c =
    let inside = c.self.inside in
    let at : step_of inside.task.now c.args.number ≡ Some c.in-Some.step.now = sym (c.in-Some.ensures ∙ ap (λ (steps : List GroundStep). numbered_step steps c.args.number) c.items.ensures) in
    subst (λ (n : ℕ). All (HasBodyBelow n) c.in-Some.step.now.prefs) (sym (bits _ _ _ _ _ _ _ _ _ _ c.self.invariant))
    (bodies_below inside.task.now inside.weights.now c.self.invariant.can.can c.args.number c.in-Some.step.now at)

pub count_step-requires-clause-named : goal.count_step-requires-clause-named
count_step-requires-clause-named c =
    let inside = c.self.inside in
    let at : step_of inside.task.now c.args.number ≡ Some c.in-Some.step.now = sym (c.in-Some.ensures ∙ ap (λ (steps : List GroundStep). numbered_step steps c.args.number) c.items.ensures) in
    prefs_named inside.task.now inside.weights.now c.self.invariant.can.can c.args.number c.in-Some.step.now at

pub count_step-requires-clause-room : goal.count_step-requires-clause-room
count_step-requires-clause-room c =
    let inside = c.self.inside in
    let at : step_of inside.task.now c.args.number ≡ Some c.in-Some.step.now = sym (c.in-Some.ensures ∙ ap (λ (steps : List GroundStep). numbered_step steps c.args.number) c.items.ensures) in
    room_for_prefs _ _ _ _ _ _ _ _ _ _ c.self.invariant c.args.number c.in-Some.step.now at

pub change_state-requires-clause-room : goal.change_state-requires-clause-room
change_state-requires-clause-room c =
    let inside = c.self.inside in
    let at : step_of inside.task.now c.args.number ≡ Some c.in-Some.step.now = sym (c.in-Some.ensures ∙ ap (λ (steps : List GroundStep). numbered_step steps c.args.number) c.items.ensures) in
    subst (λ (effects : List Change). length effects ≤ length inside.found.items) (sym c.items-effects.ensures)
    (room_for_changes _ _ _ _ _ _ _ _ _ _ c.self.invariant c.args.number c.in-Some.step.now at)

pub change_state-requires-clause-sized : goal.change_state-requires-clause-sized
change_state-requires-clause-sized c =
    let inside = c.self.inside in
    let at : step_of inside.task.now c.args.number ≡ Some c.in-Some.step.now = sym (c.in-Some.ensures ∙ ap (λ (steps : List GroundStep). numbered_step steps c.args.number) c.items.ensures) in
    subst (λ (effects : List Change). IsTrue (list_all (is_sized_change (length inside.state)) effects)) (sym c.items-effects.ensures)
    (subst (λ (n : ℕ). IsTrue (list_all (is_sized_change n) c.in-Some.step.now.effects)) (sym (bits _ _ _ _ _ _ _ _ _ _ c.self.invariant))
    (effects_sized inside.task.now inside.weights.now c.self.invariant.can.can c.args.number c.in-Some.step.now at))

pub follow-requires-clause-can : goal.follow-requires-clause-can
follow-requires-clause-can c =
    let inside = c.self.inside in
    let long : length c.change_state.new.state ≡ inside.task.now.atoms =
    ap length c.change_state.ensures.state ∙ length-after inside.state c.items-effects.result.now ∙ bits _ _ _ _ _ _ _ _ _ _ c.self.invariant in
    subst (λ (by_name : List ℕ). CanRenew inside.task.now by_name c.change_state.new.state inside.groups.items inside.soft) (sym c.items-2.ensures)
    (can_renew _ _ _ _ _ _ _ _ _ _ c.self.invariant c.change_state.new.state long)

pub follow-requires-clause-sized : goal.follow-requires-clause-sized
follow-requires-clause-sized c =
    let inside = c.self.inside in
    let at : step_of inside.task.now c.args.number ≡ Some c.in-Some.step.now = sym (c.in-Some.ensures ∙ ap (λ (steps : List GroundStep). numbered_step steps c.args.number) c.items.ensures) in
    let long : length c.change_state.new.state ≡ inside.task.now.atoms =
    ap length c.change_state.ensures.state ∙ length-after inside.state c.items-effects.result.now ∙ bits _ _ _ _ _ _ _ _ _ _ c.self.invariant in
    subst (λ (effects : List Change). IsTrue (list_all (is_sized_change (length c.change_state.new.state)) effects)) (sym c.items-effects.ensures)
    (subst (λ (n : ℕ). IsTrue (list_all (is_sized_change n) c.in-Some.step.now.effects)) (sym long)
    (effects_sized inside.task.now inside.weights.now c.self.invariant.can.can c.args.number c.in-Some.step.now at))

pub overflow_add-self : goal.overflow_add-self
overflow_add-self c =
    let inside = c.self.inside in
    let at : step_of inside.task.now c.args.number ≡ Some c.in-Some.step.now = sym (c.in-Some.ensures ∙ ap (λ (steps : List GroundStep). numbered_step steps c.args.number) c.items.ensures) in
    let paid = cheap _ _ _ _ _ _ _ _ _ _ c.self.invariant in
    let price = small_cost inside.task.now inside.weights.now c.self.invariant.can.can c.args.number c.in-Some.step.now at c.in-Some-cost.cost c.in-Some-cost.is in
    omega (arith, paid, price)

pub invariant_of-self : goal.invariant_of-self
invariant_of-self c =
    let inside = c.self.inside in
    let at : step_of inside.task.now c.args.number ≡ Some c.in-Some.step.now = sym (c.in-Some.ensures ∙ ap (λ (steps : List GroundStep). numbered_step steps c.args.number) c.items.ensures) in
    let step = c.in-Some.step.now in
    let effects = c.items-effects.result.now in
    let later = c.change_state.new.state in
    let short : length inside.done < most_steps =
    let v = ap (λ (ran : Ran). length ran.plan) c.self.view_is in
    omega (arith, v, c.requires) in
    let are : take (length effects) c.as_slice-2.result.now ≡ map (found_in inside.state) effects = ap (take (length effects)) c.as_slice-2.ensures.value ∙ c.change_state.ensures.found in
    let followed : c.follow.new.groups.items ≡ renewed_all inside.task.now later inside.groups.items (touched inside.readers.items inside.state later step.effects) =
    c.follow.ensures.groups inside.state are
    ∙ (λ i. renewed_all inside.task.now later inside.groups.items (touched (c.as_slice.ensures.value i) inside.state later (c.items-effects.ensures i))) in
    subst (λ (plan : List ℕ). IsRunOf inside.task.now inside.weights.now inside.readers.items c.change_state.new.all.items plan later c.follow.new.groups.items c.follow.new.tally c.count_step.new.tally (inside.cost + c.in-Some-cost.cost)) (sym c.push.ensures)
    (one_more _ _ _ _ _ _ _ _ _ _ c.self.invariant c.args.number step at
    (sym c.eval.ensures ∙ c.if-not-eval.false) c.in-Some-cost.cost c.in-Some-cost.is short
    c.change_state.new.all.items later c.follow.new.groups.items c.follow.new.tally c.count_step.new.tally
    c.change_state.ensures.room (c.change_state.ensures.state ∙ ap (after inside.state) c.items-effects.ensures)
    followed
    (subst (λ (by_name : List ℕ). CanRenew inside.task.now by_name later c.follow.new.groups.items c.follow.new.tally) c.items-2.ensures c.follow.ensures.can)
    c.count_step.ensures)
