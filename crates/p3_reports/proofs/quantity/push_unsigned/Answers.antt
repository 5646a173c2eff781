use Rattle.std.proofs.Common.{◌<◌, sym, subst}
use Rattle.p3_reports.proofs.QuantityLemmas.{positive_scale}
use Rattle.p3_reports.proofs.quantity.push_unsigned.Goals as goal

pub nonzero_div-units : goal.nonzero_div-units
nonzero_div-units c = subst (λ scale. 0 < scale) (sym c.pow-scale.ensures) (positive_scale c.args.places c.requires.few)

pub nonzero_rem-units : goal.nonzero_rem-units
nonzero_rem-units c = subst (λ scale. 0 < scale) (sym c.pow-scale.ensures) (positive_scale c.args.places c.requires.few)
