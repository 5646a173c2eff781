-- Which mentions of a metric have a weight below 0, by the form of the metric.
use Rattle.std.specs.Prelude.{Bool, ℤ, pos, int_lt, List, length, find, flat_map, Option, option_map}
use Rattle.p3_base.specs.declared.refusal.Direction.{Direction}
use Rattle.p3_task.specs.Metrics.{signed}
use Rattle.p3_task.specs.Refusals.Metric.{Mention, Count, Cost, mentions, mention_word}
use Rattle.p3_task.specs.declared.metric.Num.{Num}
use Rattle.p3_metric.specs.Entries.{number_at}
use Rattle.p3_metric.specs.declared.linear.Linear.{Linear}
use Rattle.p3_metric.specs.declared.spot.Spot.{Spot}

-- the coefficient of what is mentioned
abbrev pub number_of : Linear → Mention → ℤ
number_of form (Count name) = number_at form.counts name.name
number_of form (Cost at) = form.cost

abbrev pub is_negative : Linear → Direction → Mention → Bool
is_negative form direction mention = int_lt (signed direction (number_of form mention)) (pos 0)

abbrev pub spot_of : Mention → Spot
spot_of mention = record { at = (mention_word mention).at; len = length (mention_word mention).name }

abbrev pub first_spot : Linear → Direction → List Mention → Option Spot
first_spot form direction list = option_map spot_of (find (is_negative form direction) list)

-- the first mention with a negative weight in the expression, and in one of several
unfoldable pub negative_spot : Linear → Direction → Num → Option Spot
negative_spot form direction tree = first_spot form direction (mentions tree)

unfoldable pub negative_spot_in : Linear → Direction → List Num → Option Spot
negative_spot_in form direction parts = first_spot form direction (flat_map mentions parts)
