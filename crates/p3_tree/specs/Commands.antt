-- What the words of a command line ask for: a command, the files that it reads, and those that it writes.
use Rattle.std.specs.Prelude.{ℕ, ◌+◌, ◌==◌, Bool, true, false, ◌&&◌, find, List, [], ◌∷◌, ◌++◌, map, zip, take, drop, length, if◌then◌else◌, Option, Some, None, option_map, option_and_then, codes, bytes_eq}
use Rattle.std.specs.Fmt.{decimal}
use Rattle.std.specs.List.{list_all, range_with_len}
use Rattle.p3_base.specs.Words.{are_different}
use Rattle.p3_base.specs.declared.refusal.Role.{Role}
use Rattle.p3_base.specs.declared.refusal.Role.TheVariants as role
use Rattle.p3_base.specs.declared.refusal.Side.TheVariants.{Source, Written}
use Rattle.p3_task.specs.Sides.{byte_limit, plan_byte_limit}
use Rattle.p3_tree.specs.declared.command.CommandKind.{CommandKind}
use Rattle.p3_tree.specs.declared.command.CommandKind.TheVariants.{Compile, Lift, Embed, Evaluate, Generate, CompileFlat, Explain, Watch}

-- a word as it was given
abbrev pub Word : Type 0
Word = List ℕ

-- ---- the table of commands

-- the word of a command, whether a number stands behind it, and then what the files are that it reads and those that it writes
pub record Row : Type 0 where
  pub word : Word
  pub is_numbered : Bool
  pub reads : List Role
  pub writes : List Role

abbrev pub source_task : List Role
source_task = role.Domain ∷ role.Problem ∷ []

abbrev pub written_task : List Role
written_task = role.WrittenDomain ∷ role.WrittenProblem ∷ []

abbrev pub plan : List Role
plan = role.Plan ∷ []

abbrev pub row : CommandKind → Row
row Compile = record { word = codes "compile"; is_numbered = false; reads = source_task; writes = written_task }
row Lift = record { word = codes "lift"; is_numbered = false; reads = source_task ++ written_task ++ plan; writes = plan }
row Embed = record { word = codes "embed"; is_numbered = false; reads = source_task ++ plan; writes = written_task ++ plan }
row Evaluate = record { word = codes "evaluate"; is_numbered = false; reads = source_task ++ plan; writes = [] }
row Generate = record { word = codes "generate"; is_numbered = true; reads = []; writes = source_task ++ plan }
row CompileFlat = record { word = codes "compile-flat"; is_numbered = false; reads = source_task; writes = written_task }
row Explain = record { word = codes "explain"; is_numbered = false; reads = source_task ++ plan; writes = [] }
row Watch = record { word = codes "watch"; is_numbered = false; reads = source_task ++ plan; writes = [] }

-- in the order of the lines of usage
abbrev pub kinds : List CommandKind
kinds = Compile ∷ Lift ∷ Embed ∷ Evaluate ∷ Generate ∷ CompileFlat ∷ Explain ∷ Watch ∷ []

-- ---- commands

-- a command with the names of its files; the number is 0 where none stands behind its word
pub record Command : Type 0 where
  pub kind : CommandKind
  pub number : ℕ
  pub reads : List Word
  pub writes : List Word

-- a file that is read: what it is, its name, and how many bytes it may have
pub record Input : Type 0 where
  pub role : Role
  pub name : Word
  pub limit : ℕ

-- a file that is written
pub record Output : Type 0 where
  pub role : Role
  pub name : Word

-- how many bytes a file of the role may have
abbrev pub limit_of : Role → ℕ
limit_of role.Domain = byte_limit Source
limit_of role.Problem = byte_limit Source
limit_of role.WrittenDomain = byte_limit Written
limit_of role.WrittenProblem = byte_limit Written
limit_of role.Plan = plan_byte_limit

abbrev pub input : Role × Word → Input
input named = record { role = named.0; name = named.1; limit = limit_of named.0 }

abbrev pub output : Role × Word → Output
output named = record { role = named.0; name = named.1 }

-- in the order of the command line
abbrev pub inputs : Command → List Input
inputs command = map input (zip (row command.kind).reads command.reads)

-- in the order in which they are written
abbrev pub outputs : Command → List Output
outputs command = map output (zip (row command.kind).writes command.writes)

-- ---- words

abbrev pub is_file_word : Word → Bool
is_file_word [] = false
is_file_word (byte ∷ bytes) = true

abbrev pub names_of : Command → List Word
names_of command = map (λ (input : Input). input.name) (inputs command) ++ map (λ (out : Output). out.name) (outputs command)

-- all names are words that can name a file, and no two outputs have the same name
abbrev pub has_file_words : Command → Bool
has_file_words command = list_all is_file_word (names_of command) && are_different (map (λ (out : Output). out.name) (outputs command))

-- the greatest number of a sample
abbrev pub sample_limit : ℕ
sample_limit = 200

-- a decimal number from 1 to the limit without superfluous zeros
abbrev pub sample_number : Word → Option ℕ
sample_number word = find (λ n. bytes_eq word (decimal n)) (range_with_len 1 sample_limit)

-- the number behind the word of a command, and the names behind it
abbrev pub numbered : Bool → List Word → Option (ℕ × List Word)
numbered false names = Some (0, names)
numbered true [] = None
numbered true (number ∷ names) = option_map (λ n. (n, names)) (sample_number number)

-- the names of the files that are read stand before those of the files that are written
abbrev pub command_with : CommandKind → ℕ × List Word → Command
command_with kind found =
    record { kind = kind; number = found.0; reads = take (length (row kind).reads) found.1; writes = drop (length (row kind).reads) found.1 }

-- there is a name for each file, and they can name files
abbrev pub is_spelled : CommandKind → ℕ × List Word → Bool
is_spelled kind found = length found.1 == length (row kind).reads + length (row kind).writes && has_file_words (command_with kind found)

abbrev pub if_spelled : CommandKind → ℕ × List Word → Option Command
if_spelled kind found = if is_spelled kind found then Some (command_with kind found) else None

abbrev pub command_by : List Word → CommandKind → Option Command
command_by words kind = option_and_then (if_spelled kind) (numbered (row kind).is_numbered words)

-- the command of the word
abbrev pub kind_of : Word → Option CommandKind
kind_of word = find (λ kind. bytes_eq (row kind).word word) kinds

-- the command that the words spell, or none
abbrev pub command_of : List Word → Option Command
command_of [] = None
command_of (word ∷ words) = option_and_then (command_by words) (kind_of word)
