use Rattle.std.proofs.Common.{◌∙◌, ◌+◌, ◌<◌, ◌≤◌, length, sum_by, sym, ap, subst}
use Rattle.std.specs.Prelude.{is_some}
use Rattle.std.proofs.lemmas.Bool.{ltb-false}
use Rattle.p3_formula.specs.Conditions.{weight_bound}
use Rattle.p3_formula.specs.Weighted.{AreNamedBelow, weight_of, weighted_cost, width_of}
use Rattle.p3_formula.specs.declared.task.GroundStep.{GroundStep}
use Rattle.p3_simulation.specs.Assembled.{IsSplit}
use Rattle.p3_compile.specs.Parts.{copied_actions}
use Rattle.p3_compile.specs.Stepping.{hard_monitors}
use Rattle.p3_compile.proofs.EndLaws.{cut_before}
use Rattle.p3_compile.proofs.GuardLists.{is_guarded}
use Rattle.p3_compile.proofs.StepLists.{is_effects, narrow, wide, made_same, changed_below, pre_below}
use Rattle.p3_compile.proofs.TakenSteps.{split_of_bare}
use Rattle.p3_compile.proofs.stepping.costed_parts.Goals as goal

pub chain_actions-requires-clause-effects : goal.chain_actions-requires-clause-effects
chain_actions-requires-clause-effects c =
    let has = c.in_ok-effects.ensures.changes in
    (is_effects c.args.frame.now.go c.args.frame.now.monitors c.args.step.now c.requires.frame.before (changed_below c.args.frame.now.go c.args.step.now c.requires.ready.below) c.in_ok-effects.effects has).below

pub returns-then-has_many_weights : goal.returns-then-has_many_weights
returns-then-has_many_weights c =
    let has = c.in_ok-effects.ensures.changes in
    let is = is_effects c.args.frame.now.go c.args.frame.now.monitors c.args.step.now c.requires.frame.before (changed_below c.args.frame.now.go c.args.step.now c.requires.ready.below) c.in_ok-effects.effects has in
    let chain = c.in_ok-actions.ensures in
    wide c.args.frame.now c.args.weights.now c.args.step.now c.args.current.now c.chain_actions.new.current c.in_ok-effects.effects c.in_ok-actions.actions c.requires.cost (sym c.has_many_weights.ensures ∙ c.if-has_many_weights.true) is has chain.next chain.chain (chain.tidy c.in_ok-effects.ensures.tidy)

pub narrow_copies-requires-clause-cost : goal.narrow_copies-requires-clause-cost
narrow_copies-requires-clause-cost c = ap (λ (step : GroundStep). is_some step.cost) c.in_ok-made.ensures.left ∙ c.requires.cost

pub narrow_copies-requires-clause-names : goal.narrow_copies-requires-clause-names
narrow_copies-requires-clause-names c = subst (λ (step : GroundStep). AreNamedBelow (length c.args.weights.now.by_name) step.prefs) (sym c.in_ok-made.ensures.left) c.requires.ready.names

pub narrow_copies-requires-clause-few : goal.narrow_copies-requires-clause-few
narrow_copies-requires-clause-few c =
    subst (λ (step : GroundStep). width_of c.args.weights.now.by_name step ≤ 8) (sym c.in_ok-made.ensures.left)
    (ltb-false 8 (width_of c.args.weights.now.by_name c.args.step.now) (sym c.has_many_weights.ensures ∙ c.if-has_many_weights.false))

pub narrow_copies-requires-clause-room : goal.narrow_copies-requires-clause-room
narrow_copies-requires-clause-room c =
    subst (λ (step : GroundStep). weighted_cost c.args.weights.now step + sum_by (weight_of c.args.weights.now.by_name) step.prefs < weight_bound) (sym c.in_ok-made.ensures.left)
    (c.requires.ready.limits.cost c.requires.cost)

pub returns : goal.returns
returns c =
    let frame = c.args.frame.now in
    let step = c.args.step.now in
    let made = c.in_ok-made.made in
    let copies = c.in_ok-copies in
    let sized = changed_below frame.go step c.requires.ready.below in
    let has = made_same step.pre step.effects frame.monitors made.effects c.in_ok-made.ensures.changes in
    let is = is_effects frame.go frame.monitors step c.requires.frame.before sized made.effects has in
    let guarded = is_guarded frame.go (hard_monitors frame) step (cut_before frame.go frame.hard frame.monitors c.requires.frame.before).0 (pre_below frame.go step c.requires.ready.below) sized made.pre c.in_ok-made.ensures.pre in
    let bare_split = subst (λ (left : GroundStep). IsSplit frame.go c.args.weights.now left made.pre made.effects (copied_actions copies.copies)) c.in_ok-made.ensures.left copies.ensures.split in
    let split = split_of_bare frame.go c.args.weights.now step made.pre made.effects (copied_actions copies.copies) bare_split in
    narrow frame c.args.weights.now step c.args.current.now made.pre made.effects (copied_actions copies.copies) c.requires.cost (sym c.has_many_weights.ensures ∙ c.if-has_many_weights.false) is has guarded split copies.ensures.tidy copies.ensures.simpler
