use Rattle.std.proofs.Common.{◌∙◌}
use Rattle.std.proofs.Math.Bool.{Bool-set}
use Rattle.std.proofs.Math.Logic.{∥∥₁_elim}
use Rattle.p3_formula.proofs.KeptLaws.{accepts_sat}
use Rattle.p3_monitors.proofs.laws.accepting_is_satisfaction.Goals as goal

pub returns : goal.returns
returns c = λ monitor W state kept. ∥∥₁_elim monitor.accepting (Bool-set _ _) (λ accepting. accepting state ∙ accepts_sat monitor.base monitor.modal W state kept)
