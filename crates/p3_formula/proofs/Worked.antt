-- The smallest useful task: one step that sets an atom, and a preference of weight 5 on it at the end.
use Rattle.std.proofs.Common.{◌≡◌, refl, ℕ, true, false, List, [], ◌∷◌, Some, pos}
use Rattle.std.specs.Prelude.{codes}
use Rattle.std.specs.Fmt.{digits}
use Rattle.p3_base.specs.declared.refusal.Direction.TheVariants.{Minimize}
use denote.Hole.Carrier.{hidden}
use Rattle.p3_formula.specs.Conditions.{HasAtomsBelow, HasTidyForms}
use Rattle.p3_formula.specs.Tidy.{look}
use Rattle.p3_formula.specs.Forms.{truth, has_atoms}
use Rattle.p3_formula.specs.Next.{after}
use Rattle.p3_formula.specs.GroundSat.{ground_sat}
use Rattle.p3_formula.specs.GroundPlans.{visited_from, is_ground_valid, ground_violated, ground_cost, ground_loss}
use Rattle.p3_base.specs.Copies.{extra_of}
use Rattle.p3_formula.specs.Constructors.{sets, clears}
use Rattle.p3_formula.specs.Weighted.{ground_extra}
use Rattle.p3_formula.specs.Targets.{IsNamed, IsSized, reaches_goal, target_cost, ground_lift}
use Rattle.p3_formula.specs.declared.form.Form.TheBlock.{hidden-the_row-Form-0, hidden-the_row-Form-1, shape-the_row-Form-0, shape-the_row-Form-1}
use Rattle.p3_formula.specs.declared.form.Form.TheVariants.{True, Atom, Not, And}
use Rattle.p3_base.specs.declared.operator.Operator.TheVariants.{AtEnd}
use Rattle.p3_formula.specs.declared.target.Target.{Target}
use Rattle.p3_formula.specs.declared.target.TargetAction.{TargetAction}
use Rattle.p3_formula.specs.declared.target.Weights.{Weights}
use Rattle.p3_formula.specs.declared.task.GroundTask.{GroundTask}

-- the only atom is numbered 0
abbrev pub task : GroundTask
task = record {
  atoms = 1;
  initial = false ∷ [];
  initial_cost = 0;
  step_count = 1;
  steps = record { number = 0; pre = True; prefs = []; effects = record { cond = True; atom = 0; add = true } ∷ []; cost = Some 0 } ∷ [];
  goal = True;
  hard = [];
  soft = record { name = Some 0; parts = AtEnd (Atom 0) ∷ [] } ∷ [];
  names = 1;
}

abbrev pub weights : Weights
weights = record { total_cost = 0; by_name = 5 ∷ []; base = pos 0; direction = Minimize }

-- its actions, over the source atom, the running atom, and the two chain atoms
abbrev pub step : TargetAction
step = record { name = codes "s0v"; pre = Atom 1; effects = sets 0 ∷ []; cost = 0 }

abbrev pub finish : TargetAction
finish = record { name = codes "finish"; pre = Atom 1; effects = clears 1 ∷ sets 2 ∷ []; cost = 0 }

abbrev pub collect : TargetAction
collect = record { name = codes "collect0"; pre = And (Atom 2 ∷ Atom 0 ∷ []); effects = clears 2 ∷ sets 3 ∷ []; cost = 0 }

abbrev pub forgo : TargetAction
forgo = record { name = codes "forgo0"; pre = And (Atom 2 ∷ Not (Atom 0) ∷ []); effects = clears 2 ∷ sets 3 ∷ []; cost = 5 }

abbrev pub target : Target
target = record {
  predicates = codes "f0" ∷ codes "go" ∷ codes "e0" ∷ codes "e1" ∷ [];
  initial = false ∷ true ∷ false ∷ false ∷ [];
  actions = step ∷ finish ∷ collect ∷ forgo ∷ [];
  goal = Atom 3;
}

-- the definitions, to be unfolded together
unfoldable pub computes : Unit {0}
unfolding hidden hidden-the_row-Form-0 hidden-the_row-Form-1 shape-the_row-Form-0 shape-the_row-Form-1 digits truth has_atoms after ground_sat visited_from is_ground_valid ground_violated ground_cost ground_loss reaches_goal target_cost ground_lift
computes = tt

-- a plan, whether it is valid, and its loss
abbrev Means : List ℕ → ℕ → Type 0
Means plan loss = (is_ground_valid task plan ≡ true) × (ground_loss task weights plan ≡ loss)

pub nothing_done : Means [] 5
unfolding computes
nothing_done = (refl, refl)

pub step_done : Means (0 ∷ []) 0
unfolding computes
step_done = (refl, refl)

pub no_such_step : is_ground_valid task (1 ∷ []) ≡ false
unfolding computes
no_such_step = refl

-- a plan of the target: whether it reaches the goal, its cost, and what it lifts to
abbrev MeansFor : List (List ℕ) → ℕ → List ℕ → Type 0
MeansFor plan cost lifted = (reaches_goal target (target.initial) plan ≡ true) × (target_cost target plan ≡ cost) × (ground_lift task plan ≡ lifted)

pub forgone : MeansFor (codes "finish" ∷ codes "forgo0" ∷ []) 5 []
unfolding computes
forgone = (refl, refl, refl)

pub collected : MeansFor (codes "s0v" ∷ codes "finish" ∷ codes "collect0" ∷ []) 0 (0 ∷ [])
unfolding computes
collected = (refl, refl, refl)

-- it is not forgone where it is satisfied
pub not_forgone : reaches_goal target (target.initial) (codes "s0v" ∷ codes "finish" ∷ codes "forgo0" ∷ []) ≡ false
unfolding computes
not_forgone = refl

-- its names are names of the grammar, and differ
pub target_named : IsNamed target
unfolding computes
target_named = record { predicates = refl; actions = refl; spelled = refl; different = refl; endings = refl }

pub target_sized : IsSized target
unfolding computes
target_sized = record { bits = refl; goal = refl; actions = refl }

-- ---- the task may be compiled, and the target's forms are tidy

pub task_atoms : HasAtomsBelow task
unfolding computes look
task_atoms = record { steps = refl; goal = refl; hard = refl; soft = refl }

pub target_tidy : HasTidyForms target
unfolding computes look
target_tidy = record { goal = refl; actions = refl }

-- ---- widths

pub nothing_extra : ground_extra task weights (0 ∷ []) ≡ 0
unfolding ground_extra
nothing_extra = refl

pub eight_is_narrow : extra_of 8 ≡ 0
eight_is_narrow = refl

pub nine_is_wide : extra_of 9 ≡ 10
nine_is_wide = refl
