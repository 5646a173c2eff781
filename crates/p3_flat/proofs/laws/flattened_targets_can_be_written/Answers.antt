use Rattle.p3_flat.proofs.FlatLaws.{flat_free, flat_sized, flat_tidy_forms, flat_well_named}
use Rattle.p3_flat.proofs.laws.flattened_targets_can_be_written.Goals as goal

pub returns-clause-sized : goal.returns-clause-sized
returns-clause-sized c = λ X Y sized flat. flat_sized X Y flat sized

pub returns-clause-named : goal.returns-clause-named
returns-clause-named c = λ X Y named flat. flat_well_named X Y flat named

pub returns-clause-tidy : goal.returns-clause-tidy
returns-clause-tidy c = λ X Y tidy flat. flat_tidy_forms X Y flat tidy

pub returns-clause-unconditional : goal.returns-clause-unconditional
returns-clause-unconditional c = λ X Y flat. flat_free X Y flat
