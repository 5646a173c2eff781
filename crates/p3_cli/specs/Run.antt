-- A whole run: when each ending comes, what it leaves in the files, and what it puts.
use Rattle.std.specs.Prelude.{ℕ, ◌≡◌, ◌⊎◌, List, Option, Some, None, IfSome, ◌≢◌}
use Rattle.std.specs.Option.{option_map}
use Rattle.std.specs.List.{AllByRecursion}
use Rattle.p3_base.specs.Outside.{FilesSeen, SinkSeen, Store, Rose, bytes_under}
use Rattle.p3_cli.specs.Ending as ending
use Rattle.p3_cli.specs.Ending.{Ending, Tells, status_of}
use Rattle.p3_cli.specs.Product.{Rejects, Stops, Accepts, AcceptsSurely, Produces}
use Rattle.p3_tree.specs.Commands.{Command, inputs, outputs}
use Rattle.p3_cli.specs.Status as status
use Rattle.p3_cli.specs.Store.{Reading, Texts, TooLong, Absent, reading, AreStored, writings, holding_all, AreFirstWritten, IsUnreadAt, IsWrittenUpTo}
use Rattle.p3_cli.specs.Texts.{AllTexts, Made}

-- the ending says why nothing is made of what was read
abbrev pub ShownBy : Command → Reading → Ending → Type 0
ShownBy command (Texts texts) how = Rejects command texts how
ShownBy command (TooLong role) how = how ≡ ending.TooLong role
ShownBy command Absent how = ⊥

-- the ending says why nothing is made of what the store holds, which is read in the order of the command line
abbrev pub IsRejectionIn : Store → Command → Ending → Type 0
IsRejectionIn store command how = ShownBy command (reading store (inputs command)) how

-- the ending says why nothing is made of what was read, or why nothing may be
abbrev pub MayBeShownBy : Command → Reading → Ending → Type 0
MayBeShownBy command (Texts texts) how = Stops command texts how
MayBeShownBy command (TooLong role) how = how ≡ ending.TooLong role
MayBeShownBy command Absent how = ⊥

abbrev pub MayBeRejectionIn : Store → Command → Ending → Type 0
MayBeRejectionIn store command how = MayBeShownBy command (reading store (inputs command)) how

-- all inputs are held, within their limits, and there is no reason to make nothing of them
abbrev pub IsAccepted : Store → Command → Type 0
IsAccepted store command = (texts : AllTexts) × (reading store (inputs command) ≡ Texts texts) × Accepts command texts

-- nor one that may come
abbrev pub IsSurelyAccepted : Store → Command → Type 0
IsSurelyAccepted store command = (texts : AllTexts) × (reading store (inputs command) ≡ Texts texts) × AcceptsSurely command texts

-- the texts that are made and the report are what the command makes of what was read
abbrev pub IsProduct : Option Store → Command → Made → List ℕ → Type 0
IsProduct told command made report = IfSome told (λ store. (read : AllTexts) × (reading store (inputs command) ≡ Texts read) × Produces command read made report)

-- when an ending of a command comes
abbrev pub Comes : Command → FilesSeen → FilesSeen → Ending → Type 0
Comes command old new (ending.Done lines) = IfSome old.held (λ store. IsAccepted store command)
Comes command old new (ending.Refused rejection) = IfSome old.held (λ store. MayBeRejectionIn store command (ending.Refused rejection))
Comes command old new (ending.Invalid fault) = IfSome old.held (λ store. MayBeRejectionIn store command (ending.Invalid fault))
Comes command old new (ending.TooLong role) = IfSome old.held (λ store. MayBeRejectionIn store command (ending.TooLong role))
Comes command old new (ending.ReadFailed role) = IsUnreadAt old.held (inputs command) role × Rose old.read_faults new.read_faults
Comes command old new (ending.WriteFailed role) = Rose old.write_faults new.write_faults × IfSome old.held (λ store. IsAccepted store command)
Comes command old new ending.OutOfMemory = Unit {0}
Comes command old new ending.Usage = ⊥

-- what the files hold after an ending of a command: all outputs, a first part of them, or what they held
abbrev pub Leaves : Command → Option Store → Option Store → Ending → Type 0
Leaves command old new (ending.Done lines) =
    (made : Made) × IsProduct old command made lines × (new ≡ holding_all (writings (outputs command) made) old)
Leaves command old new (ending.WriteFailed role) =
    (made : Made) × (report : List ℕ) × IsProduct old command made report × IsWrittenUpTo role (writings (outputs command) made) old new
Leaves command old new ending.OutOfMemory =
    (new ≡ old) ⊎ ((made : Made) × (report : List ℕ) × IsProduct old command made report × AreFirstWritten (writings (outputs command) made) old new)
Leaves command old new (ending.Refused rejection) = new ≡ old
Leaves command old new (ending.Invalid fault) = new ≡ old
Leaves command old new (ending.TooLong role) = new ≡ old
Leaves command old new (ending.ReadFailed role) = new ≡ old
Leaves command old new ending.Usage = new ≡ old

-- words that ask for nothing end as usage, and then no file is read or written
abbrev pub Answers : Option Command → FilesSeen → FilesSeen → Ending → Type 0
Answers None old new how = (how ≡ ending.Usage) × (new.held ≡ old.held)
Answers (Some command) old new how = Comes command old new how × Leaves command old.held new.held how

-- how a run ends
pub record Ends (asked : Option Command) (old new : FilesSeen) (before after : SinkSeen) (status : ℕ) (how : Ending) : Type 0 where
  pub answers : Answers asked old new how
  pub tells : Tells before after status how

-- the ending says why nothing is made of what the store holds, for what is asked
abbrev pub IsRejectedIn : Option Command → Store → Ending → Type 0
IsRejectedIn None store how = ⊥
IsRejectedIn (Some command) store how = IsRejectionIn store command how

-- or why nothing may be made of it
abbrev pub MayBeRejectedIn : Option Command → Store → Ending → Type 0
MayBeRejectedIn None store how = ⊥
MayBeRejectedIn (Some command) store how = MayBeRejectionIn store command how

-- there is a reason why nothing is made of it, or may be, and this is its status
abbrev pub IsStatusIn : Option Command → ℕ → Store → Type 0
IsStatusIn asked answered store = (how : Ending) × (status_of how ≡ answered) × MayBeRejectedIn asked store how

-- what the store holds is accepted for what is asked, and no reason may come
abbrev pub IsAcceptedIn : Option Command → Store → Type 0
IsAcceptedIn None store = ⊥
IsAcceptedIn (Some command) store = IsSurelyAccepted store command

-- where the store tells, and there is a reason to make nothing of what it holds, its status is answered, but for failed reads and want of memory
abbrev pub MustReject : Option Command → FilesSeen → FilesSeen → ℕ → Type 0
MustReject asked old new answered =
    IfSome old.held (λ store. (how : Ending) → IsRejectedIn asked store how → Rose old.read_faults new.read_faults ⊎ ((answered ≡ status_of how) ⊎ (answered ≡ status.out_of_memory)))

-- something of the outside failed
abbrev pub AnyFaultRose : FilesSeen → FilesSeen → SinkSeen → SinkSeen → Type 0
AnyFaultRose old new before after = Rose old.read_faults new.read_faults ⊎ (Rose old.write_faults new.write_faults ⊎ Rose before.faults after.faults)

-- where the store tells, and what it holds is accepted, all is done, but for faults of the outside and want of memory
abbrev pub MustComplete : Option Command → FilesSeen → FilesSeen → SinkSeen → SinkSeen → ℕ → Type 0
MustComplete asked old new before after answered =
    IfSome old.held (λ store. IsAcceptedIn asked store → AnyFaultRose old new before after ⊎ ((answered ≡ status.done) ⊎ (answered ≡ status.out_of_memory)))

-- it is told that each input that is asked for is held
abbrev pub AreHeld : Option Command → Option Store → Type 0
AreHeld None told = Unit {0}
AreHeld (Some command) told = AreStored told (inputs command)

-- no output that is asked for has the name
abbrev pub IsNoOutput : Option Command → List ℕ → Type 0
IsNoOutput None name = Unit {0}
IsNoOutput (Some command) name = AllByRecursion (λ output. output.name ≢ name) (outputs command)

-- where it is told, the name holds what it held
abbrev pub SameUnder : List ℕ → Option Store → Option Store → Type 0
SameUnder name old new = option_map (λ store. bytes_under store name) new ≡ option_map (λ store. bytes_under store name) old

-- a name that is no output holds what it held
abbrev pub OthersStay : Option Command → Option Store → Option Store → Type 0
OthersStay asked old new = (name : List ℕ) → IsNoOutput asked name → SameUnder name old new
