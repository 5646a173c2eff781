-- What all printed lines are made of, and the lines that say no more than which file is meant.
use Rattle.std.specs.Prelude.{ℕ, Bool, true, false, List, [], ◌∷◌, ◌++◌, map, flat_map, codes}
use Rattle.p3_base.specs.declared.refusal.Role.{Role}
use Rattle.p3_base.specs.declared.refusal.Role.TheVariants.{Domain, Problem, WrittenDomain, WrittenProblem, Plan}
use Rattle.p3_tree.specs.Commands.{Row, row, kinds}
use Rattle.p3_tree.specs.declared.command.CommandKind.{CommandKind}

-- a line is ended by a line feed
abbrev pub line : List ℕ → List ℕ
line text = text ++ 10 ∷ []

-- a word and what is said of it
abbrev pub entry : List ℕ → List ℕ → List ℕ
entry word text = line (word ++ codes " " ++ text)

-- how a report names a file
abbrev pub role_name : Role → List ℕ
role_name Domain = codes "domain"
role_name Problem = codes "problem"
role_name WrittenDomain = codes "written-domain"
role_name WrittenProblem = codes "written-problem"
role_name Plan = codes "plan"

-- the line of status 3, of status 4, and of status 5
abbrev pub read_fault_line : Role → List ℕ
read_fault_line role = entry (codes "read fault:") (role_name role)

abbrev pub write_fault_line : Role → List ℕ
write_fault_line role = entry (codes "write fault:") (role_name role)

abbrev pub want_of_memory_line : List ℕ
want_of_memory_line = line (codes "want of memory")

-- ---- usage

-- how the lines of usage name a file that is read
abbrev pub read_sign : Role → List ℕ
read_sign Domain = codes "D"
read_sign Problem = codes "P"
read_sign WrittenDomain = codes "OD"
read_sign WrittenProblem = codes "OP"
read_sign Plan = codes "PLAN"

-- and one that is written: a plan beside one that is read has a name of its own
abbrev pub written_sign : List Role → Role → List ℕ
written_sign [] role = read_sign role
written_sign (Plan ∷ reads) Plan = codes "OUT"
written_sign (other ∷ reads) role = written_sign reads role

abbrev pub number_sign : Bool → List (List ℕ)
number_sign true = codes "N" ∷ []
number_sign false = []

abbrev pub signs : Row → List (List ℕ)
signs of = number_sign of.is_numbered ++ map read_sign of.reads ++ map (written_sign of.reads) of.writes

-- the words of a command, with signs for its number and files
abbrev pub usage_of : CommandKind → List ℕ
usage_of kind = codes "pddl3c " ++ (row kind).word ++ flat_map (λ sign. codes " " ++ sign) (signs (row kind))

abbrev pub later_usage_lines : List CommandKind → List ℕ
later_usage_lines kinds = flat_map (λ kind. line (codes "       " ++ usage_of kind)) kinds

abbrev pub usage_lines_of : List CommandKind → List ℕ
usage_lines_of [] = []
usage_lines_of (kind ∷ kinds) = line (codes "usage: " ++ usage_of kind) ++ later_usage_lines kinds

-- the lines of status 64, one for each command
abbrev pub usage_lines : List ℕ
usage_lines = usage_lines_of kinds
