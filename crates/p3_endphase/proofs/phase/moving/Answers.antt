use Rattle.std.proofs.Common.{◌∙◌, ◌++◌, subst}
use Rattle.p3_formula.specs.Guards.{IsGuardedForm, turned}
use Rattle.p3_endphase.proofs.ActionLemmas.{made}
use Rattle.p3_endphase.proofs.phase.moving.Goals as goal

pub returns : goal.returns
returns c = made c.args.atom c.args.condition _ c.args.name c.args.cost _
    (subst (λ guards. IsGuardedForm guards c.args.condition c.in_ok-pre.pre) c.as_slice.ensures c.in_ok-pre.ensures)
    (c.in_ok-effects.ensures ∙ (λ i. c.new.ensures i ++ turned (c.as_slice-2.ensures i) (c.as_slice-3.ensures i)))
