use Rattle.std.proofs.Common.{length, refl, subst, sym}
use Rattle.p3_formula.specs.Forms.{State, has_atoms}
use Rattle.p3_formula.specs.Modals.{IsModalBelow}
use Rattle.p3_formula.specs.declared.form.Form.TheVariants.{Atom}
use Rattle.p3_base.specs.declared.operator.Operator.TheVariants.{Sometime}
use Rattle.p3_test_calls.proofs.monitored.watching.Goals as goal

pub monitor-made-requires-clause-below : goal.monitor-made-requires-clause-below
unfolding has_atoms
monitor-made-requires-clause-below c = refl

pub monitor-made-requires-clause-inside : goal.monitor-made-requires-clause-inside
unfolding has_atoms
monitor-made-requires-clause-inside c = subst (λ (state : State). IsModalBelow (length state) (Sometime (Atom 0))) (sym c.in_ok-initial.ensures) refl
