-- The limits of the two sides: of the task read, and of the task written. The greatest value is accepted and the next one is refused.
use Rattle.std.specs.Prelude.{ℕ, ◌^◌, Option, Some, None}
use Rattle.p3_base.specs.declared.refusal.Side.{Side}
use Rattle.p3_base.specs.declared.refusal.Side.TheVariants.{Source, Written}
use Rattle.p3_base.specs.declared.refusal.Role.{Role}
use Rattle.p3_base.specs.declared.refusal.Role.TheVariants as role
pub use Rattle.p3_base.specs.Limits.{instance_limit, width_limit, weight_bound}

-- the two texts of a task
pub data Half : Type 0 where
  InDomain InProblem : Half

abbrev pub role_of : Side → Half → Role
role_of Source InDomain = role.Domain
role_of Source InProblem = role.Problem
role_of Written InDomain = role.WrittenDomain
role_of Written InProblem = role.WrittenProblem

-- the bytes of a file, and those of a plan's file for either side
abbrev pub byte_limit : Side → ℕ
byte_limit Source = 16777216
byte_limit Written = 268435456

abbrev pub plan_byte_limit : ℕ
plan_byte_limit = 16777216

-- how deep parentheses stand inside one another
abbrev pub level_limit : Side → ℕ
level_limit Source = 200
level_limit Written = 1000

-- the digits of a number; its point counts as none
abbrev pub digit_limit : Side → ℕ
digit_limit Source = 15
digit_limit Written = 19

-- the digits behind a number's point; in the task written no number has a point
abbrev pub place_limit : Side → Option ℕ
place_limit Source = Some 6
place_limit Written = None

-- the expanded size of one precondition, effect or goal, or of one file's constraints
abbrev pub size_limit : Side → ℕ
size_limit Source = 1000000
size_limit Written = 50000000

-- the ground steps of a task
abbrev pub step_count_limit : ℕ
step_count_limit = 20000000

-- the decimal places of the metric
abbrev pub metric_place_limit : ℕ
metric_place_limit = 6

-- so many units of one amount or value are too many; the costs of a written task are not bounded by it
abbrev pub cost_bound_of : Side → Option ℕ
cost_bound_of Source = Some (10 ^ 18)
cost_bound_of Written = None
