-- Worked faults of steps for a truck t1 and crates c1 and c2 at places a, b and c.
use Rattle.std.specs.Prelude.{◌≡◌, List, [], ◌∷◌, map, codes, Option, Some, None}
use Prim.Native.String.{String}
use Rattle.p3_task.specs.Costs.{increases}
use Rattle.p3_task.specs.Plans.{arguments}
use Rattle.p3_task.specs.Worked.Build.{step}
use Rattle.p3_task.specs.Worked.Trucks.{drive, load, trucks}
use Rattle.p3_task.specs.declared.state.Fact.{Fact}
use Rattle.p3_accounts.specs.declared.subject.StepFault.{StepFault}
use Rattle.p3_accounts.specs.declared.subject.StepFault.TheVariants.{Count, NoObject, NoType}
use Rattle.p3_inapplicable.specs.Arguments.{argument_fault}
use Rattle.p3_inapplicable.specs.Values.{missing_value}

-- what is wrong with the arguments of (load ..)
abbrev pub loads : List String → Option StepFault
loads args = argument_fault trucks load.params (map codes args)

pub record FaultsOfLoads : Type 0 where
  pub none : loads ("c1" ∷ "t1" ∷ "a" ∷ []) ≡ None
  pub few : loads ("x" ∷ "t1" ∷ []) ≡ Some (Count 3)
  pub no_object : loads ("c1" ∷ "x" ∷ "t1" ∷ []) ≡ Some (NoObject 2)
  pub no_type : loads ("t1" ∷ "x" ∷ "a" ∷ []) ≡ Some (NoType 1 (codes "?c"))
  pub last : loads ("c2" ∷ "t1" ∷ "c2" ∷ []) ≡ Some (NoType 3 (codes "?p"))

-- which value the cost of (drive ..) wants
abbrev pub drives : List String → Option Fact
drives args = missing_value trucks (arguments drive (step "drive" args)) (increases drive.effect.body)

pub record ValuesOfDrives : Type 0 where
  pub given : drives ("t1" ∷ "a" ∷ "b" ∷ []) ≡ None
  pub missing : drives ("t1" ∷ "c" ∷ "a" ∷ []) ≡ Some (record { name = codes "road-length"; args = map codes ("c" ∷ "a" ∷ []) })
