-- The chain atoms of a written task: the instances of preferences in the order in which they are settled behind the end of a plan.
use Rattle.std.specs.Prelude.{List, [], ◌∷◌, ◌++◌, codes, Some, None}
use Rattle.p3_base.specs.declared.refusal.Role.{Role}
use Rattle.p3_task.specs.Constraints.{Instance, instances}
use Rattle.p3_task.specs.declared.task.Task.{Task}
use Rattle.p3_tree.specs.Reports.Explanations.{shown_name}
use Rattle.p3_scenes.specs.Bound.{instance_roles}
use Rattle.p3_unmet.specs.Sources.{Texts, spot_of}
use Rattle.p3_meanings.specs.Environments.{environment_text}
use Rattle.p3_meanings.specs.Said.{Said}

-- this instance is settled next
abbrev pub next_said : Texts → Role → Instance → Said
next_said texts role instance = record {
  letter = codes "e";
  spot = Some (spot_of texts role instance.at);
  text = codes "settled next: preference " ++ shown_name instance.name ++ environment_text instance.env;
}

abbrev pub all_settled : Said
all_settled = record { letter = codes "e"; spot = None; text = codes "all preferences are settled" }

-- each instance, and behind them that all are settled
abbrev pub chain_said : Texts → List Instance → List Role → List Said
chain_said texts [] roles = all_settled ∷ []
chain_said texts (instance ∷ others) [] = []
chain_said texts (instance ∷ others) (role ∷ roles) = next_said texts role instance ∷ chain_said texts others roles

abbrev pub settling_said : Texts → Task → List Said
settling_said texts T = chain_said texts (instances T) (instance_roles T)
