use Rattle.p3_flat.specs.Splitting.{forms_in}
use Rattle.p3_flat.proofs.SpreadLaws.{conjunction_is}
use Rattle.p3_flat.proofs.splitting.conjunction.Goals as goal

pub returns : goal.returns
returns c = conjunction_is c.tidied.result c.args.pre.now c.in_ok-forms.forms (forms_in c.args.parts.now) c.in_ok-forms.ensures c.tidied.ensures.truth c.tidied.ensures.tidy c.tidied.ensures.atoms
