use Rattle.std.proofs.Common.{◌∙◌, ap}
use Rattle.p3_formula.specs.Forms.{truth}
use Rattle.p3_formula.proofs.FormLemmas.{truth-False}
use Rattle.p3_flat.proofs.excluding.is_excluded.Goals as goal

pub returns-in-False : goal.returns-in-False
returns-in-False c = λ h state fits holds. ap (truth state) c.in-False.is ∙ truth-False state
