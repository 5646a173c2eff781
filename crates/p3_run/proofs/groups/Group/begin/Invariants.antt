use Rattle.std.proofs.Common.{◌≡◌, ◌≤◌, [], ◌∷◌, map, take}
use Rattle.p3_run.specs.Groups.{unmet_in}
use Rattle.p3_run.specs.Stages.{stage_of}
use Rattle.p3_run.proofs.groups.Group.begin.Given as goal

-- the operators passed have their stages, and those that are not satisfied are counted
abbrev pub invariant-loop-modal : goal.invariant-loop-modal
invariant-loop-modal l = record {
  stages : l.stages.items ≡ map (stage_of (l.state ∷ [])) (take l.modal-index l.modals);
  unmet : l.unmet ≡ unmet_in l.stages.items;
  bound : l.unmet ≤ l.modal-index;
}
