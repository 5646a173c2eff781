-- The order of what was found in the two halves of a task.
use Rattle.std.specs.Prelude.{Option, option_map}
use Rattle.std.specs.Option.{option_or}
use Rattle.p3_base.specs.declared.refusal.Code.{Code}
use Rattle.p3_base.specs.declared.refusal.Code.TheVariants.{Duplicate, Unknown, Arity, TypeClash}
use Rattle.p3_base.specs.declared.refusal.Refusal.{Refusal}
use Rattle.p3_base.specs.declared.refusal.Role.{Role}
use Rattle.p3_base.specs.declared.refusal.Side.{Side}
use Rattle.p3_task.specs.Refusals.Places.{refusal_at}
use Rattle.p3_task.specs.Sides.{role_of, InDomain, InProblem}
use Rattle.p3_resolve.specs.declared.spot.Spot.{Spot}
use Rattle.p3_resolve.specs.declared.spot.FirstOffences.{FirstOffences}

abbrev pub refusal_at_spot : Code → Role → Spot → Refusal
refusal_at_spot code role spot = refusal_at code role spot.at spot.len

-- one kind: the domain's before the problem's
abbrev pub of_kind : Side → Code → Option Spot → Option Spot → Option Refusal
of_kind side code domain problem =
    option_or (option_map (refusal_at_spot code (role_of side InDomain)) domain) (option_map (refusal_at_spot code (role_of side InProblem)) problem)

-- the kinds in their order
abbrev pub in_order : Side → FirstOffences → FirstOffences → Option Refusal
in_order side domain problem =
    option_or (of_kind side Duplicate domain.duplicate problem.duplicate)
    (option_or (of_kind side Unknown domain.unknown problem.unknown)
    (option_or (of_kind side Arity domain.miscount problem.miscount)
    (of_kind side TypeClash domain.clash problem.clash)))
