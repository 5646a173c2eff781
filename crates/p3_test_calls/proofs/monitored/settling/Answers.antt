use Rattle.std.proofs.Common.{refl, subst, sym}
use Rattle.p3_endphase.specs.Ends.{AreBelow}
use Rattle.p3_formula.specs.Forms.{has_atoms}
use Rattle.p3_test_calls.proofs.monitored.settling.Goals as goal

pub end_phase-phase-requires-clause-finish : goal.end_phase-phase-requires-clause-finish
unfolding has_atoms
end_phase-phase-requires-clause-finish c = refl

pub end_phase-phase-requires-clause-accept : goal.end_phase-phase-requires-clause-accept
unfolding has_atoms
end_phase-phase-requires-clause-accept c = subst (AreBelow 1) (sym c.in_ok-instances.ensures.is) (refl, tt)
