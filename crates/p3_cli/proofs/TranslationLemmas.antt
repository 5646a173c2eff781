-- The two texts of a target as the translation of a task.
use Rattle.std.proofs.Common.{◌≡◌, ℕ, List}
use Rattle.p3_formula.specs.Targets.{Compiled}
use Rattle.p3_formula.specs.declared.target.Target.{Target}
use Rattle.p3_formula.specs.declared.target.Weights.{Weights}
use Rattle.p3_formula.specs.declared.task.GroundTask.{GroundTask}
use Rattle.p3_task.specs.declared.task.Task.{Task}
use Rattle.p3_compile.specs.Compiling.{IsCompiledTo}
use Rattle.p3_writer.specs.Layout.{domain_layout, problem_layout}
use Rattle.p3_writer.specs.TaskOf.{task_of}
use Rattle.p3_writer.specs.Texts.{IsDomainTextOf, IsProblemTextOf}
use Rattle.p3_cli.specs.Translation.{CanBeCompiled, IsLaidOut, IsTargetOf}
use Rattle.p3_cli.specs.WrittenText.{HasFaithfulText}
use Rattle.p3_cli.proofs.FaithfulLaws.{compiled_faithful, texts_faithful}

-- a target to which the task's ground task is compiled
pub is_target_of : (T : Task) (G : GroundTask) (w : Weights) (X : Target) → CanBeCompiled T G w → IsCompiledTo G w X → IsTargetOf T X
is_target_of T G w X can is = record { ground = G; weights = w; grounding = can.grounding; weighed = can.weighed; is = is }

-- its texts
pub is_laid_out : (T : Task) (G : GroundTask) (w : Weights) (X : Target) → CanBeCompiled T G w → IsCompiledTo G w X → (od op : List ℕ) → od ≡ domain_layout X → op ≡ problem_layout X → IsLaidOut T od op
is_laid_out T G w X can is od op domain problem = record { target = X; of = is_target_of T G w X can is; domain = domain; problem = problem }

-- they are those of a faithful translation
pub is_faithful : (T : Task) (G : GroundTask) (w : Weights) (X : Target) → CanBeCompiled T G w → Compiled G w X → (od op : List ℕ) → IsDomainTextOf od (task_of X).domain → IsProblemTextOf op (task_of X).problem → HasFaithfulText od op T
is_faithful T G w X can compiled od op domain problem =
    texts_faithful od op T _ (compiled_faithful T G w X can.well_formed (record { atoms = can.grounding.atoms; stands = can.grounding.stands; left_out = can.grounding.left_out }) can.linear can.weighed compiled) domain problem
