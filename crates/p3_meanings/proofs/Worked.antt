-- The worked names compute.
use Rattle.std.proofs.Common.{refl}
use Rattle.std.specs.Fmt.{digits}
use Rattle.p3_task.proofs.Computes.{trees_compute}
use Rattle.p3_scenes.specs.FirstWords.{first_word}
use Rattle.p3_accounts.specs.Worked.{truck_numbers, truck_words}
use Rattle.p3_meanings.specs.Worked.{NamesInOrder}

unfoldable names_compute : Unit {0}
unfolding trees_compute digits first_word truck_numbers truck_words
names_compute = tt

pub names_in_order : NamesInOrder
unfolding names_compute
names_in_order = record { hard = refl; soft = refl; chain = refl; atoms = refl }
