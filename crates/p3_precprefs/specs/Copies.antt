-- The copies of a step, one for each choice of its weighted preferences that are violated.
use Rattle.std.specs.Prelude.{◌≡◌, ◌≢◌, ℕ, zero, suc, ◌+◌, Bool, true, false, not, List, [], ◌∷◌, ◌++◌, map, sum_by, if◌then◌else◌, IsTrue}
use Rattle.std.specs.List.{All, filter, flat_map}
use Rattle.p3_formula.specs.Forms.{State, truth, has_atoms}
use Rattle.p3_formula.specs.declared.form.Form.{Form}
use Rattle.p3_formula.specs.declared.modal.GroundPref.{GroundPref}
use Rattle.p3_formula.specs.Weighted.{weight_of, weighted, weighted_cost}
use Rattle.p3_formula.specs.declared.target.Weights.{Weights}
use Rattle.p3_formula.specs.declared.task.GroundStep.{GroundStep}
use Rattle.p3_precprefs.specs.declared.copies.StepCopy.{StepCopy}

-- ---- what the copies are to be

-- the copies that fit
abbrev pub fitting : State → List StepCopy → List StepCopy
fitting state copies = filter (λ (copy : StepCopy). truth state copy.pre) copies

abbrev pub is_violated : State → GroundPref → Bool
is_violated state pref = not (truth state pref.body)

abbrev pub violation : State → List ℕ → GroundPref → ℕ
violation state by_name pref = if truth state pref.body then 0 else weight_of by_name pref

-- exactly one copy fits, that of the preferences that are false, at their weights
pub record HasOneCopy (weights : Weights) (step : GroundStep) (copies : List StepCopy) (state : State) : Type 0 where
  pub copy : StepCopy
  pub only : fitting state copies ≡ copy ∷ []
  pub shows : copy.violated ≡ map (is_violated state) (weighted weights.by_name step.prefs)
  pub costs : copy.cost ≡ weighted_cost weights step + sum_by (violation state weights.by_name) (weighted weights.by_name step.prefs)

-- one entry more, each way
abbrev pub both_ways : List Bool → List (List Bool)
both_ways front = (front ++ false ∷ []) ∷ (front ++ true ∷ []) ∷ []

-- all lists of so many entries
abbrev pub patterns : ℕ → List (List Bool)
patterns zero = [] ∷ []
patterns (suc count) = flat_map both_ways (patterns count)

-- no two of the lists, at different places, are equal
abbrev pub AreApart : List (List Bool) → Type 0
AreApart [] = Unit {0}
AreApart (one ∷ others) = All (λ other. one ≢ other) others × AreApart others

-- the first list is the second one without some of its items
pub data IsSublist {A : Type 0} : List A → List A → Type 0 where
  Nothing : IsSublist [] []
  Keeps : (one : A) (some all : List A) → IsSublist some all → IsSublist (one ∷ some) (one ∷ all)
  Leaves : (one : A) (some all : List A) → IsSublist some all → IsSublist some (one ∷ all)

abbrev pub violated_lists : List StepCopy → List (List Bool)
violated_lists copies = map (λ (copy : StepCopy). copy.violated) copies

-- the atoms of a form, and those of a step's precondition and preferences, are some of those
abbrev pub HasAtomsIn : (ℕ → Bool) → Form → Type 0
HasAtomsIn allowed form = IsTrue (has_atoms allowed form)

pub record HasPartsIn (allowed : ℕ → Bool) (step : GroundStep) : Type 0 where
  pub pre : HasAtomsIn allowed step.pre
  pub bodies : All (λ (pref : GroundPref). HasAtomsIn allowed pref.body) step.prefs
