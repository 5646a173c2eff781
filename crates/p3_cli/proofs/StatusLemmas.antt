-- A status comes only with an ending that has it.
use Rattle.std.proofs.Common.{◌≡◌, ◌∙◌, ◌≢◌, ℕ, Option, Some, None, IfSome, refl, sym, subst, inl, inr}
use Rattle.p3_base.specs.Outside.{FilesSeen, SinkSeen, Rose}
use Rattle.p3_tree.specs.Commands.{Command}
use Rattle.p3_cli.specs.Ending as ending
use Rattle.p3_cli.specs.Ending.{Ending, Tells, status_of, unput_status}
use Rattle.p3_cli.specs.Run.{Answers, Comes, IsStatusIn}
use Rattle.p3_cli.proofs.RunLemmas.{kept_status, some_status}

-- an ending has another status, also where its lines cannot be put
apart : {A : Type 0} (before after : SinkSeen) (status wanted : ℕ) (how : Ending) → Tells before after status how → status_of how ≢ wanted → unput_status how ≢ wanted → status ≡ wanted → A
apart before after status wanted how tells other unput is = elim tells [ inl t ↦ absurd (other (sym t.0 ∙ is)) | inr t ↦ absurd (unput (sym t.0 ∙ is)) ]

-- words that ask for nothing end as usage
as_usage : (old new : FilesSeen) (before after : SinkSeen) (status : ℕ) (how : Ending) → Answers None old new how → Tells before after status how → Tells before after status ending.Usage
as_usage old new before after status how answers tells = subst (λ way. Tells before after status way) answers.0 tells

module _ (command : Command) (old new : FilesSeen) (before after : SinkSeen) (status : ℕ) where
  invalid_of : (how : Ending) → Comes command old new how → Tells before after status how → status ≡ 1 → IfSome old.held (IsStatusIn (Some command) 1)
  invalid_of (ending.Done lines) comes tells is = apart before after status 1 (ending.Done lines) tells (λ e. cc) (λ e. cc) is
  invalid_of (ending.Refused rejection) comes tells is = apart before after status 1 (ending.Refused rejection) tells (λ e. cc) (λ e. cc) is
  invalid_of (ending.Invalid fault) comes tells is = some_status old.held command 1 (ending.Invalid fault) refl comes
  invalid_of (ending.TooLong role) comes tells is = apart before after status 1 (ending.TooLong role) tells (λ e. cc) (λ e. cc) is
  invalid_of (ending.ReadFailed role) comes tells is = apart before after status 1 (ending.ReadFailed role) tells (λ e. cc) (λ e. cc) is
  invalid_of (ending.WriteFailed role) comes tells is = apart before after status 1 (ending.WriteFailed role) tells (λ e. cc) (λ e. cc) is
  invalid_of ending.OutOfMemory comes tells is = apart before after status 1 ending.OutOfMemory tells (λ e. cc) (λ e. cc) is
  invalid_of ending.Usage comes tells is = apart before after status 1 ending.Usage tells (λ e. cc) (λ e. cc) is

  unread_of : (how : Ending) → Comes command old new how → Tells before after status how → status ≡ 3 → Rose old.read_faults new.read_faults
  unread_of (ending.Done lines) comes tells is = apart before after status 3 (ending.Done lines) tells (λ e. cc) (λ e. cc) is
  unread_of (ending.Refused rejection) comes tells is = apart before after status 3 (ending.Refused rejection) tells (λ e. cc) (λ e. cc) is
  unread_of (ending.Invalid fault) comes tells is = apart before after status 3 (ending.Invalid fault) tells (λ e. cc) (λ e. cc) is
  unread_of (ending.TooLong role) comes tells is = apart before after status 3 (ending.TooLong role) tells (λ e. cc) (λ e. cc) is
  unread_of (ending.ReadFailed role) comes tells is = comes.1
  unread_of (ending.WriteFailed role) comes tells is = apart before after status 3 (ending.WriteFailed role) tells (λ e. cc) (λ e. cc) is
  unread_of ending.OutOfMemory comes tells is = apart before after status 3 ending.OutOfMemory tells (λ e. cc) (λ e. cc) is
  unread_of ending.Usage comes tells is = apart before after status 3 ending.Usage tells (λ e. cc) (λ e. cc) is

  unwritten_of : (how : Ending) → Comes command old new how → Tells before after status how → status ≡ 4 → Rose old.write_faults new.write_faults
  unwritten_of (ending.Done lines) comes tells is = apart before after status 4 (ending.Done lines) tells (λ e. cc) (λ e. cc) is
  unwritten_of (ending.Refused rejection) comes tells is = apart before after status 4 (ending.Refused rejection) tells (λ e. cc) (λ e. cc) is
  unwritten_of (ending.Invalid fault) comes tells is = apart before after status 4 (ending.Invalid fault) tells (λ e. cc) (λ e. cc) is
  unwritten_of (ending.TooLong role) comes tells is = apart before after status 4 (ending.TooLong role) tells (λ e. cc) (λ e. cc) is
  unwritten_of (ending.ReadFailed role) comes tells is = apart before after status 4 (ending.ReadFailed role) tells (λ e. cc) (λ e. cc) is
  unwritten_of (ending.WriteFailed role) comes tells is = comes.0
  unwritten_of ending.OutOfMemory comes tells is = apart before after status 4 ending.OutOfMemory tells (λ e. cc) (λ e. cc) is
  unwritten_of ending.Usage comes tells is = apart before after status 4 ending.Usage tells (λ e. cc) (λ e. cc) is

  usage_of : (how : Ending) → Comes command old new how → Tells before after status how → status ≡ 64 → Some command ≡ None
  usage_of (ending.Done lines) comes tells is = apart before after status 64 (ending.Done lines) tells (λ e. cc) (λ e. cc) is
  usage_of (ending.Refused rejection) comes tells is = apart before after status 64 (ending.Refused rejection) tells (λ e. cc) (λ e. cc) is
  usage_of (ending.Invalid fault) comes tells is = apart before after status 64 (ending.Invalid fault) tells (λ e. cc) (λ e. cc) is
  usage_of (ending.TooLong role) comes tells is = apart before after status 64 (ending.TooLong role) tells (λ e. cc) (λ e. cc) is
  usage_of (ending.ReadFailed role) comes tells is = apart before after status 64 (ending.ReadFailed role) tells (λ e. cc) (λ e. cc) is
  usage_of (ending.WriteFailed role) comes tells is = apart before after status 64 (ending.WriteFailed role) tells (λ e. cc) (λ e. cc) is
  usage_of ending.OutOfMemory comes tells is = apart before after status 64 ending.OutOfMemory tells (λ e. cc) (λ e. cc) is
  usage_of ending.Usage comes tells is = absurd comes

-- a plan is not valid where that is shown
pub invalid : (asked : Option Command) (old new : FilesSeen) (before after : SinkSeen) (status : ℕ) (how : Ending) → Answers asked old new how → Tells before after status how → status ≡ 1 → IfSome old.held (IsStatusIn asked 1)
invalid None old new before after status how answers tells is = apart before after status 1 ending.Usage (as_usage old new before after status how answers tells) (λ e. cc) (λ e. cc) is
invalid (Some command) old new before after status how answers tells is = invalid_of command old new before after status how answers.0 tells is

-- a read failed
pub read_failed : (asked : Option Command) (old new : FilesSeen) (before after : SinkSeen) (status : ℕ) (how : Ending) → Answers asked old new how → Tells before after status how → status ≡ 3 → Rose old.read_faults new.read_faults
read_failed None old new before after status how answers tells is = apart before after status 3 ending.Usage (as_usage old new before after status how answers tells) (λ e. cc) (λ e. cc) is
read_failed (Some command) old new before after status how answers tells is = unread_of command old new before after status how answers.0 tells is

-- a write failed
pub write_failed : (asked : Option Command) (old new : FilesSeen) (before after : SinkSeen) (status : ℕ) (how : Ending) → Answers asked old new how → Tells before after status how → status ≡ 4 → Rose old.write_faults new.write_faults
write_failed None old new before after status how answers tells is = apart before after status 4 ending.Usage (as_usage old new before after status how answers tells) (λ e. cc) (λ e. cc) is
write_failed (Some command) old new before after status how answers tells is = unwritten_of command old new before after status how answers.0 tells is

-- no ending has the status 6 by itself
never_unput : (how : Ending) → status_of how ≢ 6
never_unput (ending.Done lines) = λ e. cc
never_unput (ending.Refused rejection) = λ e. cc
never_unput (ending.Invalid fault) = λ e. cc
never_unput (ending.TooLong role) = λ e. cc
never_unput (ending.ReadFailed role) = λ e. cc
never_unput (ending.WriteFailed role) = λ e. cc
never_unput ending.OutOfMemory = λ e. cc
never_unput ending.Usage = λ e. cc

-- a put failed
pub put_failed : (before after : SinkSeen) (status : ℕ) (how : Ending) → Tells before after status how → status ≡ 6 → Rose before.faults after.faults
put_failed before after status how tells is = elim tells [ inl t ↦ absurd (never_unput how (sym t.0 ∙ is)) | inr t ↦ t.1 ]

-- usage is told exactly where the words ask for nothing
pub usage : (asked : Option Command) (old new : FilesSeen) (before after : SinkSeen) (status : ℕ) (how : Ending) → Answers asked old new how → Tells before after status how → (status ≡ 64 → asked ≡ None) × (asked ≡ None → status ≡ 64)
usage None old new before after status how answers tells = (λ is. refl, λ none. kept_status before after status ending.Usage (as_usage old new before after status how answers tells) (λ e. cc))
usage (Some command) old new before after status how answers tells = (λ is. usage_of command old new before after status how answers.0 tells is, λ none. absurd (cc))
