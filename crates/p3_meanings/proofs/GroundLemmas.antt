-- Some ground task stands for a task where its atoms are those over which the task is expanded.
use Rattle.std.proofs.Common.{◌≡◌, ◌<◌, ◌≤◌, ℕ, List, None, length, refl, subst}
use Rattle.p3_task.specs.Constraints.{instances}
use Rattle.p3_task.specs.Costs.{cost_places, initial_cost}
use Rattle.p3_task.specs.Lifting.{steps}
use Rattle.p3_task.specs.Limits.{step_count}
use Rattle.p3_task.specs.Offences.{WellFormed}
use Rattle.p3_task.specs.Sides.{step_count_limit}
use Rattle.p3_task.specs.declared.task.Task.{Task}
use Rattle.p3_formula.specs.declared.task.GroundTask.{GroundTask}
use Rattle.p3_numbers.specs.Tasks.{IsNumberedTask}
use Rattle.p3_numbers.specs.declared.task.NumberedTask.{NumberedTask}
use Rattle.p3_expansion.specs.Atoms.{GroundAtom}
use Rattle.p3_expansion.specs.Statics.{start_bits}
use Rattle.p3_expansion.specs.declared.statics.Statics.{Statics}
use Rattle.p3_expansion.proofs.WalkLemmas.{zip-weaker}
use Rattle.p3_steps.specs.Steps.{StepsAreMade}
use Rattle.p3_ground.specs.Expanded.{IsPutTogether}
use Rattle.p3_ground.specs.Planned.{AreAllThatMayBegin, wanted_steps}
use Rattle.p3_ground.specs.Sparse.{IsGroundingOf}
use Rattle.p3_ground.specs.StandsFor.{SoftStands}
use Rattle.p3_ground.specs.Whole.{HasFewSteps}
use Rattle.p3_ground.proofs.GroundingLaws.{leaves-out-there}
use Rattle.p3_ground.proofs.PlannedSteps.{planned-steps-are-all}
use Rattle.p3_ground.proofs.PutTogether.{what-is-put-together-stands}
use Rattle.p3_ground.proofs.WholeLaws.{few-by-name}
use Rattle.p3_meanings.specs.Atoms.{AreAtomsOf, AreExpandedOver}
use Rattle.p3_meanings.specs.Told.{AreNamed, HasNumber}
use Rattle.p3_meanings.specs.declared.atoms.Expanded.{Expanded}

pub atoms_stand : (T : Task) (X : NumberedTask) (S : Statics) (places : ℕ) (atoms : List GroundAtom) (parts : Expanded) → places ≡ cost_places T → AreExpandedOver T X S places atoms parts → AreAtomsOf T X.numbers atoms
atoms_stand T X S places atoms parts units are =
    let ex = are.expanded in
    let made : StepsAreMade X S (cost_places T) atoms (wanted_steps X S None) parts.steps = subst (λ n. StepsAreMade X S n atoms (wanted_steps X S None) parts.steps) units are.steps in
    let all : AreAllThatMayBegin T X S atoms None parts.steps = planned-steps-are-all T X S atoms ex None parts.steps made in
    let G : GroundTask = record {
      atoms = length atoms;
      initial = start_bits S atoms;
      initial_cost = initial_cost T;
      step_count = length (steps T);
      steps = parts.steps;
      goal = parts.goal;
      hard = parts.hard;
      soft = parts.soft;
      names = length X.numbers.preferences;
    }
    in
    let together : IsPutTogether T X S atoms G = record {
      count = refl;
      initial = refl;
      initial_cost = refl;
      step_count = refl;
      rising = all.rising;
      kept = all.kept;
      goal = are.goal;
      hard = are.hard;
      soft = are.soft;
      names = refl;
    }
    in
    record {
      ground = G;
      stands = (what-is-put-together-stands T X S atoms ex G together).stands;
      left_out = λ number. leaves-out-there T X S G number (record { well = ex.well; numbered = ex.numbered; statics = ex.statics }) (all.whole G refl number tt);
    }

pub few_steps : (T : Task) (X : NumberedTask) → WellFormed T → IsNumberedTask T X → step_count T ≤ step_count_limit → HasFewSteps X
few_steps T X well is few = few-by-name T X well is few

-- ---- what a ground task of the task tells of the names

pub softs_are_named : (T : Task) (G : GroundTask) → IsGroundingOf T G → AreNamed T G.soft
softs_are_named T G is = zip-weaker (SoftStands T is.atoms) (HasNumber T) (λ instance soft stands. stands.name) (instances T) G.soft is.stands.soft
