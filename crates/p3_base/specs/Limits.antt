-- The limits that the task read and what is made of it have in common. Of instances and of widths the greatest value is accepted and the next one is refused; the bound of weights is the first that is refused.
use Rattle.std.specs.Prelude.{ℕ, ◌^◌}

-- the preference instances of constraints and goal
abbrev pub instance_limit : ℕ
instance_limit = 100000

-- the weighted preferences of an action's precondition
abbrev pub width_limit : ℕ
width_limit = 200

-- coefficients of the metric in absolute value, and the cost bounds of actions, stay below this
abbrev pub weight_bound : ℕ
weight_bound = 2 ^ 62
