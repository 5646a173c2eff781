-- What one step more adds: the violations of its preferences in the state before it, and its cost.
use Rattle.std.specs.Prelude.{◌≡◌, ℕ, ◌+◌, ◌*◌, ◌^◌, ◌<◌, ◌==◌, not, cond, List, length, find, fold, sum_by, Option, Some, None}
use Rattle.std.specs.List.{All}
use Rattle.std.specs.List.Sorted.{IsNonDecreasingBy}
use Rattle.p3_formula.specs.Forms.{State, truth, IsBelow}
use Rattle.p3_formula.specs.GroundPlans.{GroundPlan, step_of, false_prefs, ground_moves}
use Rattle.p3_formula.specs.Weighted.{named_weight, weighted_cost}
use Rattle.p3_formula.specs.declared.modal.GroundPref.{GroundPref}
use Rattle.p3_formula.specs.declared.target.Weights.{Weights}
use Rattle.p3_formula.specs.declared.task.GroundStep.{GroundStep}
use Rattle.p3_formula.specs.declared.task.GroundTask.{GroundTask}
use Rattle.p3_run.specs.Tallies.{Counted, added}

-- ---- steps by number

abbrev pub IsByNumber : List GroundStep → Type 0
IsByNumber steps = IsNonDecreasingBy (λ (step : GroundStep). step.number) steps

abbrev pub numbered_step : List GroundStep → ℕ → Option GroundStep
numbered_step steps number = find (λ (step : GroundStep). step.number == number) steps

-- ---- the preferences of a step

abbrev pub HasBodyBelow : ℕ → GroundPref → Type 0
HasBodyBelow count pref = IsBelow count pref.body

-- it counts where it is false
abbrev pub added_if : State → List ℕ → Counted → GroundPref → Counted
added_if state by_name tally pref = cond (not (truth state pref.body)) (added by_name pref.name tally) tally

-- what the false ones weigh together
abbrev pub false_weight : State → List ℕ → List GroundPref → ℕ
false_weight state by_name prefs = sum_by (λ (pref : GroundPref). cond (not (truth state pref.body)) (named_weight by_name pref.name) 0) prefs

-- the counters with those of the step, and with its weighted cost
abbrev pub counted_step : State → Weights → Counted → GroundStep → Counted
counted_step state weights tally step =
    let all = fold (added_if state weights.by_name) tally step.prefs in
    record { counts = all.counts; worth = all.worth + weighted_cost weights step }

-- there is room for so many more
pub record HasRoom (by_name : List ℕ) (left : ℕ) (tally : Counted) : Type 0 where
  pub names : length tally.counts ≡ length by_name
  pub room : All (λ count. count + left < 2 ^ 64) tally.counts
  pub worth : tally.worth + left * 2 ^ 64 < 2 ^ 127

-- ---- all steps

abbrev pub step_weight : State → Weights → Option GroundStep → ℕ
step_weight state weights None = 0
step_weight state weights (Some step) = weighted_cost weights step + false_weight state weights.by_name step.prefs

-- how often the name is violated before the steps
abbrev pub prefs_violated : GroundTask → GroundPlan → ℕ → ℕ
prefs_violated G plan name = sum_by (λ (move : State × ℕ). false_prefs move.0 name (step_of G move.1)) (ground_moves G plan)

-- what the steps add to the loss
abbrev pub steps_weight : GroundTask → Weights → GroundPlan → ℕ
steps_weight G weights plan = sum_by (λ (move : State × ℕ). step_weight move.0 weights (step_of G move.1)) (ground_moves G plan)
