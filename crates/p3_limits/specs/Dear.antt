-- The number of least offset that has too many units, of the numbers so far.
use Rattle.std.specs.Prelude.{ℕ, nat_le, Bool, false, fold, filter_map, if◌then◌else◌, Option}
use Rattle.std.specs.Option.{option_map_or}
use Rattle.p3_base.specs.declared.refusal.Code.TheVariants.{CostTooLarge}
use Rattle.p3_base.specs.declared.refusal.Refusal.{Refusal}
use Rattle.p3_base.specs.declared.refusal.Role.{Role}
use Rattle.p3_base.specs.declared.refusal.Side.{Side}
use Rattle.p3_numbers.specs.Units.{units_at}
use Rattle.p3_task.specs.Costs.{amount_numeral, increases}
use Rattle.p3_task.specs.Refusals.Places.{refusal_at}
use Rattle.p3_task.specs.Sides.{cost_bound_of}
use Rattle.p3_task.specs.declared.effect.Effect.{Effect}
use Rattle.p3_task.specs.declared.effect.Numeral.{Numeral}
use Rattle.p3_task.specs.declared.task.Action.{Action}
use Rattle.p3_task.specs.declared.task.Init.{Init}
use Rattle.p3_task.specs.declared.task.Init.TheVariants.{True, False, Value}
use Rattle.p3_limits.specs.Least.{with_least}

-- an amount or a value of too many units, where costs have so many decimal places
abbrev pub is_dear : Side → ℕ → Numeral → Bool
is_dear side places numeral = option_map_or (λ bound. nat_le bound (units_at places numeral)) (cost_bound_of side) false

abbrev pub refused : Role → Numeral → Refusal
refused role numeral = refusal_at CostTooLarge role numeral.at numeral.len

-- what was found, and the refusal of the number too where it has too many units
abbrev pub noted : Side → ℕ → Role → Option Refusal → Numeral → Option Refusal
noted side places role found numeral = if is_dear side places numeral then with_least found (refused role numeral) else found

-- the numbers of an effect, of an action and of an entry more
unfoldable pub noted_effect : Side → ℕ → Role → Option Refusal → Effect → Option Refusal
noted_effect side places role found effect = fold (noted side places role) found (filter_map amount_numeral (increases effect))

abbrev pub noted_action : Side → ℕ → Role → Option Refusal → Action → Option Refusal
noted_action side places role found action = noted_effect side places role found action.effect.body

abbrev pub noted_entry : Side → ℕ → Role → Option Refusal → Init → Option Refusal
noted_entry side places role found (Value function args number) = noted side places role found number
noted_entry side places role found (True pred args) = found
noted_entry side places role found (False pred args) = found
