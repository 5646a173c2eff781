use Rattle.std.proofs.Common.{◌∙◌, sym, ap, subst}
use Prim.{∣◌∣₁}
use Rattle.std.specs.Prelude.{IsTrue}
use Rattle.p3_formula.specs.Forms.{truth, has_atoms}
use Rattle.p3_formula.specs.Kept.{accepts, is_own}
use Rattle.p3_formula.specs.Modals.{modal_has}
use Rattle.p3_monitors.proofs.AcceptLaws.{accept_truth, accept_atoms}
use Rattle.p3_monitors.proofs.making.monitor.Goals as goal

pub invariant_of-result-clause-accepting : goal.invariant_of-result-clause-accepting
invariant_of-result-clause-accepting c =
    ∣ (λ state. ap (truth state) c.in_ok-accept.ensures ∙ accept_truth c.args.base c.args.modal.now state ∙ ap (λ modal. accepts c.args.base modal state) (sym c.in_ok-modal.ensures)) ∣₁

pub invariant_of-result-clause-atoms : goal.invariant_of-result-clause-atoms
invariant_of-result-clause-atoms c =
    ∣ (λ allowed of own. subst (λ form. IsTrue (has_atoms allowed form)) (sym c.in_ok-accept.ensures) (accept_atoms c.args.base c.args.modal.now allowed (subst (λ modal. IsTrue (modal_has allowed modal)) c.in_ok-modal.ensures of) (λ atom mine. own atom (ap (λ modal. is_own c.args.base modal atom) c.in_ok-modal.ensures ∙ mine)))) ∣₁
