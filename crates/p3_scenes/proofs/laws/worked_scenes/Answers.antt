use Rattle.p3_scenes.proofs.Worked.{operators_at_objects, first_words_of_formulas}
use Rattle.p3_scenes.proofs.laws.worked_scenes.Goals as goal

pub returns : goal.returns
returns c = record { operators = operators_at_objects; words = first_words_of_formulas }
