-- How a run ends: its status, and the lines that it puts.
use Rattle.std.specs.Prelude.{ℕ, ◌≡◌, ◌⊎◌, Bool, true, false, List, ◌++◌, codes}
use Rattle.p3_base.specs.Outside.{SinkSeen, Rose, IsPartlyPut, with_put}
use Rattle.p3_tree.specs.Reports.Lines.{line}
use Rattle.p3_cli.specs.Ending as unanswered
use Rattle.p3_cli.specs.Status as status

-- the lines answer what is asked, and the plan is valid or not; or memory was wanting while they were put; or it is said why it is not answered; or the words ask for nothing
pub data Ending : Type 0 where
  Answered : (lines : List ℕ) → (is_valid : Bool) → Ending
  CutShort : (lines : List ℕ) → Ending
  Unanswered : (how : unanswered.Ending) → Ending
  Usage : Ending

abbrev pub usage_lines : List ℕ
usage_lines = line (codes "usage: pddl3why plan D P PLAN") ++ line (codes "       pddl3why names D P")

-- where a plan is not valid the status says so
abbrev pub answer_status : Bool → ℕ
answer_status true = status.done
answer_status false = status.invalid

-- all of the lines are put with the one status; or the sink failed, a first part of them is put, and the other status says so
abbrev pub PutsOr : ℕ → ℕ → List ℕ → SinkSeen → SinkSeen → ℕ → Type 0
PutsOr put unput lines old new answered =
    ((answered ≡ put) × (new.written ≡ with_put lines old.written)) ⊎ ((answered ≡ unput) × Rose old.faults new.faults × IsPartlyPut lines old.written new.written)

-- the status says the ending, and its lines are put
abbrev pub Tells : SinkSeen → SinkSeen → ℕ → Ending → Type 0
Tells old new answered (Answered lines is_valid) = PutsOr (answer_status is_valid) status.unput lines old new answered
Tells old new answered (CutShort lines) = (answered ≡ status.out_of_memory) × IsPartlyPut lines old.written new.written
Tells old new answered (Unanswered how) = unanswered.Tells old new answered how
Tells old new answered Usage = PutsOr status.usage status.usage usage_lines old new answered

-- lines of which it is so are put, and the status says so
pub record IsAnswered (Says : List ℕ → Bool → Type 0) (before after : SinkSeen) (answered : ℕ) : Type 0 where
  pub lines : List ℕ
  pub is_valid : Bool
  pub says : Says lines is_valid
  pub tells : Tells before after answered (Answered lines is_valid)

-- or memory was wanting while they were put
pub record IsAnsweredOrCut (Says : List ℕ → Bool → Type 0) (before after : SinkSeen) (answered : ℕ) : Type 0 where
  pub lines : List ℕ
  pub is_valid : Bool
  pub says : Says lines is_valid
  pub tells : Tells before after answered (Answered lines is_valid) ⊎ Tells before after answered (CutShort lines)
