-- The worked cases compute.
use Rattle.std.proofs.Common.{refl}
use Rattle.p3_task.proofs.Computes.{trees_compute}
use Rattle.p3_numbers.specs.Slots.{tuples_of}
use Rattle.p3_numbers.specs.Conditions.{condition_of}
use Rattle.p3_numbers.specs.Worked.{small}
use Rattle.p3_scenes.specs.FirstWords.{first_word}
use Rattle.p3_scenes.specs.Scenes.{scenes, soft_scenes, soft_scenes_of_all, soft_scenes_of_one}
use Rattle.p3_scenes.specs.Worked.{OperatorsAtObjects, FirstWordsOfFormulas}

unfoldable scenes_compute : Unit {0}
unfolding trees_compute tuples_of condition_of small scenes soft_scenes soft_scenes_of_all soft_scenes_of_one first_word
scenes_compute = trees_compute

pub operators_at_objects : OperatorsAtObjects
unfolding scenes_compute
operators_at_objects = record { slots = refl; variables = refl; outside = refl; inside = refl; none_hard = refl }

pub first_words_of_formulas : FirstWordsOfFormulas
unfolding scenes_compute
first_words_of_formulas = record { behind_nothing = refl; of_a_variable = refl; none = refl }
