-- The weights of a step's preferences, which are those of their names, and how many actions more a wide step takes.
use Rattle.std.specs.Prelude.{ℕ, ◌*◌, ◌<◌, nat_lt, List, length, sum_by, slice_index_or, unwrap_or, Option, Some, None}
use Rattle.std.specs.List.{All, filter}
use Rattle.p3_base.specs.Copies.{extra_of}
use Rattle.p3_formula.specs.GroundPlans.{GroundPlan, step_of}
use Rattle.p3_formula.specs.declared.modal.GroundPref.{GroundPref}
use Rattle.p3_formula.specs.declared.target.Weights.{Weights}
use Rattle.p3_formula.specs.declared.task.GroundStep.{GroundStep}
use Rattle.p3_formula.specs.declared.task.GroundTask.{GroundTask}

-- ---- names

abbrev pub HasNameBelow : ℕ → Option ℕ → Type 0
HasNameBelow count None = Unit {0}
HasNameBelow count (Some name) = name < count

abbrev pub AreNamedBelow : ℕ → List GroundPref → Type 0
AreNamedBelow count prefs = All (λ (pref : GroundPref). HasNameBelow count pref.name) prefs

-- ---- weights

-- a preference without a name has no weight
abbrev pub named_weight : List ℕ → Option ℕ → ℕ
named_weight by_name None = 0
named_weight by_name (Some name) = slice_index_or by_name name 0

abbrev pub weight_of : List ℕ → GroundPref → ℕ
weight_of by_name pref = named_weight by_name pref.name

-- the preferences with a weight above 0, in order
abbrev pub weighted : List ℕ → List GroundPref → List GroundPref
weighted by_name prefs = filter (λ pref. nat_lt 0 (weight_of by_name pref)) prefs

-- what the step alone adds to the loss
abbrev pub weighted_cost : Weights → GroundStep → ℕ
weighted_cost weights step = weights.total_cost * unwrap_or step.cost 0

-- ---- widths

-- as many preferences of the step have a weight above 0
abbrev pub width_of : List ℕ → GroundStep → ℕ
width_of by_name step = length (weighted by_name step.prefs)

abbrev pub extra_by : List ℕ → Option GroundStep → ℕ
extra_by by_name None = 0
extra_by by_name (Some step) = extra_of (width_of by_name step)

-- how many actions more than steps a plan of a target has for the wide steps
unfoldable pub ground_extra : GroundTask → Weights → GroundPlan → ℕ
ground_extra G weights plan = sum_by (λ number. extra_by weights.by_name (step_of G number)) plan
