-- The first refusal of what a command reads, in the one order, and which texts are accepted.
use Rattle.std.specs.Prelude.{◌≡◌, ℕ, ◌≤◌, List, [], ◌∷◌, ◌++◌, map, flat_map, length, Option, Some, None, option_map}
use mathlib.Core.Logic.{◌⊎◌}
use Rattle.p3_base.specs.declared.refusal.Refusal.{Refusal}
use Rattle.p3_base.specs.declared.refusal.Side.{Side}
use Rattle.p3_task.specs.Sides.{Half, InDomain, InProblem, role_of, byte_limit}
use Rattle.p3_task.specs.FirstOffence.{Offence, first_offence}
use Rattle.p3_task.specs.PlanTexts.{plan_offence}
use Rattle.p3_task.specs.Grammar.Texts.{Reads}
use Rattle.p3_task.specs.Refusals.Places.{refusal_at_word, first_some}
use Rattle.p3_task.specs.Refusals.Texts.{text_refusal}
use Rattle.p3_task.specs.Refusals.Malformed.{IsMalformed}
use Rattle.p3_task.specs.Refusals.Metric.{metric_refusals}
use Rattle.p3_task.specs.Refusals.Counts.{size_refusals, action_refusals}
use Rattle.p3_task.specs.declared.task.Task.{Task}

-- ---- texts

-- a text that is read: a half of a task, or a plan
pub data Text : Type 0 where
  HalfText : (side : Side) → (half : Half) → (bytes : List ℕ) → Text
  PlanText : (bytes : List ℕ) → Text

-- a half that shows nothing else may be malformed
abbrev pub IsFirstOfHalf : Option Refusal → Side → Half → List ℕ → Refusal → Type 0
IsFirstOfHalf (Some first) side half bytes refusal = refusal ≡ first
IsFirstOfHalf None side half bytes refusal = IsMalformed side half bytes refusal

-- the first refusal that the text shows by itself
abbrev pub IsRefusedText : Text → Refusal → Type 0
IsRefusedText (HalfText side half bytes) refusal = IsFirstOfHalf (text_refusal side half bytes) side half bytes refusal
IsRefusedText (PlanText bytes) refusal = plan_offence bytes ≡ Some refusal

abbrev pub IsReadable : Text → Type 0
IsReadable text = (refusal : Refusal) → IsRefusedText text refusal → ⊥

-- the texts before it show nothing
abbrev pub IsFirstOfTexts : List Text → Refusal → Type 0
IsFirstOfTexts [] refusal = ⊥
IsFirstOfTexts (text ∷ texts) refusal = IsRefusedText text refusal ⊎ (IsReadable text × IsFirstOfTexts texts refusal)

abbrev pub AreReadable : List Text → Type 0
AreReadable texts = (refusal : Refusal) → IsFirstOfTexts texts refusal → ⊥

-- ---- tasks

-- a duplicate, an unknown name, a wrong number of arguments, a type clash
abbrev pub refusal_of : Side → Offence → Refusal
refusal_of side offence = refusal_at_word offence.code (role_of side offence.half) offence.word

-- what a task may be refused for, in order
abbrev pub task_refusals : Side → Task → List (Option Refusal)
task_refusals side T = option_map (refusal_of side) (first_offence T) ∷ metric_refusals side T ++ size_refusals side T ++ action_refusals side T

unfoldable pub task_refusal : Side → Task → Option Refusal
task_refusal side T = first_some (task_refusals side T)

-- ---- what a command reads

-- the two texts of a task
pub record TaskTexts : Type 0 where
  pub side : Side
  pub domain : List ℕ
  pub problem : List ℕ

abbrev pub halves : TaskTexts → List Text
halves texts = HalfText texts.side InDomain texts.domain ∷ HalfText texts.side InProblem texts.problem ∷ []

-- the texts of tasks come before those of plans
pub record Given : Type 0 where
  pub tasks : List TaskTexts
  pub plans : List (List ℕ)

abbrev pub given_texts : Given → List Text
given_texts given = flat_map halves given.tasks ++ map PlanText given.plans

-- the texts of one task alone
abbrev pub given_task : Side → List ℕ → List ℕ → Given
given_task side d p = record { tasks = record { side = side; domain = d; problem = p } ∷ []; plans = [] }

-- the task that the texts spell shows the refusal
pub record IsRefusedTask (texts : TaskTexts) (refusal : Refusal) : Type 0 where
  pub task : Task
  pub reads : Reads texts.domain texts.problem task
  pub shows : task_refusal texts.side task ≡ Some refusal

-- they spell a task that shows nothing
pub record AreOfTask (texts : TaskTexts) (T : Task) : Type 0 where
  pub reads : Reads texts.domain texts.problem T
  pub shows : task_refusal texts.side T ≡ None

pub record SpellATask (texts : TaskTexts) : Type 0 where
  pub task : Task
  pub are_of : AreOfTask texts task

-- the tasks before it show nothing
abbrev pub IsFirstOfTasks : List TaskTexts → Refusal → Type 0
IsFirstOfTasks [] refusal = ⊥
IsFirstOfTasks (texts ∷ others) refusal = IsRefusedTask texts refusal ⊎ (SpellATask texts × IsFirstOfTasks others refusal)

-- the texts come first, and the tasks that they spell after all texts
abbrev pub IsFirstRefusal : Given → Refusal → Type 0
IsFirstRefusal given refusal = IsFirstOfTexts (given_texts given) refusal ⊎ (AreReadable (given_texts given) × IsFirstOfTasks given.tasks refusal)

-- ---- accepted texts

-- the texts are short enough, they are those of the task, and nothing is refused of them
pub record AreAccepted (side : Side) (d p : List ℕ) (T : Task) : Type 0 where
  pub short_domain : length d ≤ byte_limit side
  pub short_problem : length p ≤ byte_limit side
  pub readable : AreReadable (halves (record { side = side; domain = d; problem = p }))
  pub task : AreOfTask (record { side = side; domain = d; problem = p }) T

pub record Accepts (side : Side) (d p : List ℕ) : Type 0 where
  pub task : Task
  pub accepted : AreAccepted side d p task
