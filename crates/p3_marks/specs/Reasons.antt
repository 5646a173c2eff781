-- Why a ground plan satisfies its constraints and preferences, or does not: the PDDL3 report, over numbered steps.
use Rattle.std.specs.Prelude.{ℕ, ◌-◌, Bool, not, List, [], ◌++◌, map, flat_map, filter, length, Option, Some, None}
use Rattle.std.specs.List.{enumerate_from}
use Rattle.p3_base.specs.declared.showing.Reason.{Reason}
use Rattle.p3_base.specs.declared.showing.Showing.{Showing}
use Rattle.p3_base.specs.declared.showing.Showing.TheVariants.{FailsAt}
use Rattle.p3_base.specs.declared.showing.Subject.{Subject}
use Rattle.p3_base.specs.declared.showing.Subject.TheVariants.{Hard, Soft, Pre}
use Rattle.p3_formula.specs.Forms.{State, truth}
use Rattle.p3_formula.specs.GroundPlans.{GroundPlan, step_of, ground_visited, ground_moves}
use Rattle.p3_formula.specs.GroundSat.{holds_at}
use Rattle.p3_formula.specs.GroundModal.{GroundModal}
use Rattle.p3_base.specs.Operators.{over, showing}
use Rattle.p3_formula.specs.declared.modal.GroundPref.{GroundPref}
use Rattle.p3_formula.specs.declared.modal.GroundSoft.{GroundSoft}
use Rattle.p3_formula.specs.declared.task.GroundStep.{GroundStep}
use Rattle.p3_formula.specs.declared.task.GroundTask.{GroundTask}

-- the states that show whether an operator is satisfied over the visited states
unfoldable pub ground_shown : List State → GroundModal → Showing
ground_shown W modal = showing (length W) (over (holds_at W) modal)

-- ---- reasons

-- the operators of a list, each with its number
abbrev pub modal_reason : List State → (ℕ → Subject) → ℕ × GroundModal → Reason
modal_reason W subject numbered = record { subject = subject numbered.0; showing = ground_shown W numbered.1 }

abbrev pub modal_reasons : List State → (ℕ → Subject) → List GroundModal → List Reason
modal_reasons W subject modals = map (modal_reason W subject) (enumerate_from 0 modals)

abbrev pub soft_reasons : List State → ℕ × GroundSoft → List Reason
soft_reasons W numbered = modal_reasons W (Soft numbered.0) numbered.1.parts

-- the operators of the hard constraints, and those of the instances
abbrev pub operator_reasons : GroundTask → List State → List Reason
operator_reasons G W = modal_reasons W Hard G.hard ++ flat_map (soft_reasons W) (enumerate_from 0 G.soft)

-- ---- preferences of steps

abbrev pub is_false_in : State → ℕ × GroundPref → Bool
is_false_in state numbered = not (truth state numbered.1.body)

-- before step j stands state j - 1
abbrev pub pref_reason : ℕ → ℕ × GroundPref → Reason
pref_reason step numbered = record { subject = Pre step numbered.0; showing = FailsAt (step - 1) }

-- those that are false in the state before the step of that number
abbrev pub pref_reasons : State → ℕ → List GroundPref → List Reason
pref_reasons state step prefs = map (pref_reason step) (filter (is_false_in state) (enumerate_from 0 prefs))

abbrev pub step_reasons : State → ℕ → Option GroundStep → List Reason
step_reasons state number None = []
step_reasons state number (Some step) = pref_reasons state number step.prefs

abbrev pub move_reasons : GroundTask → ℕ × (State × ℕ) → List Reason
move_reasons G numbered = step_reasons numbered.1.0 numbered.0 (step_of G numbered.1.1)

unfoldable pub steps_reasons : GroundTask → GroundPlan → List Reason
steps_reasons G plan = flat_map (move_reasons G) (enumerate_from 1 (ground_moves G plan))

-- ---- all

-- the hard constraints, the operators of the instances, and the false preferences of the steps
unfoldable pub ground_reasons : GroundTask → GroundPlan → List Reason
ground_reasons G plan = operator_reasons G (ground_visited G plan) ++ steps_reasons G plan
