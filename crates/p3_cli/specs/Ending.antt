-- How a run ends: its status, and the lines that it puts.
use Rattle.std.specs.Prelude.{ℕ, ◌≡◌, ◌⊎◌, List}
use Rattle.p3_base.specs.Outside.{SinkSeen, Rose, IsPartlyPut, with_put}
use Rattle.p3_base.specs.declared.refusal.Role.{Role}
use Rattle.p3_tree.specs.Reports.Lines.{read_fault_line, write_fault_line, want_of_memory_line, usage_lines}
use Rattle.p3_tree.specs.Reports.Refusals.{too_long_line}
use Rattle.p3_tree.specs.Reports.Plans.{fault_line}
use Rattle.p3_reports.specs.Faults.{fault_of}
use Rattle.p3_reports.specs.Rejections.{rejection_line}
use Rattle.p3_reports.specs.Reports.{report_text}
use Rattle.p3_reports.specs.declared.fault.Fault.{Fault}
use Rattle.p3_reports.specs.declared.refusal.Rejection.{Rejection}
use Rattle.p3_cli.specs.Status as status
use Rattle.p3_cli.specs.declared.ending.Ending as code
use Rattle.p3_cli.specs.declared.ending.Ending.TheVariants as coded

-- everything was done and these are its lines, or why it was not done
pub data Ending : Type 0 where
  Done : (lines : List ℕ) → Ending
  Refused : (rejection : Rejection) → Ending
  Invalid : (fault : Fault) → Ending
  TooLong : (role : Role) → Ending
  ReadFailed : (role : Role) → Ending
  WriteFailed : (role : Role) → Ending
  OutOfMemory : Ending
  Usage : Ending

-- the ending that the code tells of
abbrev pub ending_of : code.Ending → Ending
ending_of (coded.Done report) = Done (report_text report)
ending_of (coded.Refused rejection) = Refused rejection
ending_of (coded.Invalid fault) = Invalid fault
ending_of (coded.TooLong role) = TooLong role
ending_of (coded.ReadFailed role) = ReadFailed role
ending_of (coded.WriteFailed role) = WriteFailed role
ending_of coded.OutOfMemory = OutOfMemory
ending_of coded.Usage = Usage

-- the status, where the lines can be put
abbrev pub status_of : Ending → ℕ
status_of (Done lines) = status.done
status_of (Refused rejection) = status.refused
status_of (Invalid fault) = status.invalid
status_of (TooLong role) = status.refused
status_of (ReadFailed role) = status.unread
status_of (WriteFailed role) = status.unwritten
status_of OutOfMemory = status.out_of_memory
status_of Usage = status.usage

-- the status in the place of another where the lines cannot be put
abbrev pub unput_status : Ending → ℕ
unput_status (Done lines) = status.unput
unput_status how = status_of how

-- the lines that are put
abbrev pub lines_of : Ending → List ℕ
lines_of (Done lines) = lines
lines_of (Refused rejection) = rejection_line rejection
lines_of (Invalid fault) = fault_line (fault_of fault)
lines_of (TooLong role) = too_long_line role
lines_of (ReadFailed role) = read_fault_line role
lines_of (WriteFailed role) = write_fault_line role
lines_of OutOfMemory = want_of_memory_line
lines_of Usage = usage_lines

-- the lines are put and the status says the ending; or the sink failed, a first part of them is put, and the status 6 takes the place of 0
abbrev pub Tells : SinkSeen → SinkSeen → ℕ → Ending → Type 0
Tells old new status how =
    ((status ≡ status_of how) × (new.written ≡ with_put (lines_of how) old.written))
    ⊎ ((status ≡ unput_status how) × Rose old.faults new.faults × IsPartlyPut (lines_of how) old.written new.written)
