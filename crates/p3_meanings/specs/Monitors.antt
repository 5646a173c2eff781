-- The atoms of a written task that watch operators of constraints and preferences.
use Rattle.std.specs.Prelude.{ℕ, ◌+◌, List, [], ◌∷◌, ◌++◌, codes, flat_map, replicate, Option, Some, option_map, unwrap_or}
use Rattle.std.specs.Fmt.{decimal}
use Rattle.p3_base.specs.declared.operator.Binary.TheVariants as two
use Rattle.p3_base.specs.declared.operator.Unary.TheVariants as one
use Rattle.p3_base.specs.declared.refusal.Role.{Role}
use Rattle.p3_task.specs.Constraints.{HardModal, Instance, hard_list, instances, operators}
use Rattle.p3_task.specs.States.{Environment}
use Rattle.p3_task.specs.declared.task.Task.{Task}
use Rattle.p3_tree.specs.Reports.Explanations.{shown_name}
use Rattle.p3_scenes.specs.Bound.{hard_roles, instance_roles}
use Rattle.p3_scenes.specs.FirstWords.{first_word_of}
use Rattle.p3_accounts.specs.Operators.{kind_of, operator_word}
use Rattle.p3_accounts.specs.declared.operator.OperatorKind.{OperatorKind}
use Rattle.p3_accounts.specs.declared.operator.OperatorKind.TheVariants.{One, Two}
use Rattle.p3_accounts.specs.declared.spot.Spot.{Spot}
use Rattle.p3_unmet.specs.Sources.{Texts, spot_of}
use Rattle.p3_meanings.specs.Environments.{environment_text}
use Rattle.p3_meanings.specs.Said.{Said}

-- ---- one operator

-- how many atoms watch it
abbrev pub watch_count : OperatorKind → ℕ
watch_count (One one.AtEnd) = 0
watch_count (One one.Always) = 1
watch_count (One one.Sometime) = 1
watch_count (One one.AtMostOnce) = 2
watch_count (Two two.SometimeAfter) = 1
watch_count (Two two.SometimeBefore) = 2

-- each of them is told by what the operator is of, and by its word and what the variables mean
abbrev pub watches : Option Spot → (List ℕ → List ℕ) → OperatorKind → Environment → List Said
watches spot said_of kind env = replicate (watch_count kind) (record { letter = codes "m"; spot = spot; text = said_of (operator_word kind ++ environment_text env) })

-- ---- hard operators, by number

abbrev pub of_constraint : ℕ → List ℕ → List ℕ
of_constraint number operator = codes "constraint " ++ decimal number ++ codes ", " ++ operator

abbrev pub hard_watches : Texts → ℕ → Role → HardModal → List Said
hard_watches texts number role hard = watches (option_map (spot_of texts role) (first_word_of hard.modal)) (of_constraint number) (kind_of hard.modal) hard.env

abbrev pub hard_said : Texts → ℕ → List HardModal → List Role → List Said
hard_said texts number [] roles = []
hard_said texts number (hard ∷ hards) [] = []
hard_said texts number (hard ∷ hards) (role ∷ roles) = hard_watches texts number role hard ++ hard_said texts (number + 1) hards roles

-- ---- operators of preferences, by name

abbrev pub of_preference : List ℕ → List ℕ → List ℕ
of_preference name operator = codes "preference " ++ name ++ codes ", " ++ operator

-- where none of its formulas has a word, the place is that of the preference
abbrev pub part_watches : Texts → Role → Instance → HardModal → List Said
part_watches texts role instance hard = watches (Some (spot_of texts role (unwrap_or (first_word_of hard.modal) instance.at))) (of_preference (shown_name instance.name)) (kind_of hard.modal) hard.env

abbrev pub instance_watches : Texts → Task → Role → Instance → List Said
instance_watches texts T role instance = flat_map (part_watches texts role instance) (operators T instance.env instance.body)

abbrev pub soft_said : Texts → Task → List Instance → List Role → List Said
soft_said texts T [] roles = []
soft_said texts T (instance ∷ others) [] = []
soft_said texts T (instance ∷ others) (role ∷ roles) = instance_watches texts T role instance ++ soft_said texts T others roles

-- ---- of a task

abbrev pub monitors_said : Texts → Task → List Said
monitors_said texts T = hard_said texts 0 (hard_list T) (hard_roles T) ++ soft_said texts T (instances T) (instance_roles T)
