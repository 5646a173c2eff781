-- Tidy forms that stand for a meaning.
use Rattle.std.specs.Prelude.{IsTrue}
use Rattle.p3_formula.specs.Tidy.{is_tidy}
use Rattle.p3_formula.specs.declared.form.Form.{Form}
use Rattle.p3_numbers.specs.declared.numbers.Numbers.{Numbers}
use Rattle.p3_expansion.specs.Expansions.{Stands, Grows}
use Rattle.p3_expansion.specs.Meanings.{Meaning}
use Rattle.p3_expansion.specs.declared.statics.Statics.{Statics}
use Rattle.p3_expansion.specs.declared.work.Work.{Work}

-- a tidy form stands for the meaning, among the atoms that came
pub record Makes (N : Numbers) (S : Statics) (old new : Work) (meaning : Meaning) (form : Form) : Type 0 where
  pub grows : Grows meaning.reads old new
  pub stands : Stands N S new.atoms meaning form
  pub tidy : IsTrue (is_tidy form)
