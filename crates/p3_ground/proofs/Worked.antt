-- A ground task stands for the smallest useful task, and is sparse.
use Rattle.std.proofs.Common.{◌≡◌, ◌∙◌, refl, ap, ℕ, zero, suc, false, List, [], ◌∷◌, Some, arith}
use Rattle.std.specs.Prelude.{codes, slice_get}
use Rattle.std.specs.List.{All}
use Rattle.p3_task.specs.States as named
use Rattle.p3_task.specs.States.{start, has_fact}
use Rattle.p3_task.specs.Plans.{state_after}
use Rattle.p3_task.specs.Worked.Build.{step}
use Rattle.p3_task.specs.Worked.FirstExample.{read}
use Rattle.p3_task.specs.Constraints.{operators}
use Rattle.p3_task.specs.Literals.{literals}
use Rattle.p3_task.specs.Static.{changed}
use Rattle.p3_task.specs.Conjuncts.{formula_conjuncts, goal_conjuncts}
use Rattle.p3_task.specs.declared.state.Fact.{Fact}
use Rattle.p3_task.proofs.Computes.{meaning_computes}
use Rattle.p3_task.proofs.OnceLemmas.{Some-injective}
use Rattle.p3_formula.specs.Forms.{State, is_set}
use Rattle.p3_formula.specs.Next.{after}
use Rattle.p3_formula.specs.Constructors.{sets}
use Rattle.p3_formula.specs.Tidy.{look}
use Rattle.p3_formula.proofs.NextLaws.{length-after, is_set-after}
use Rattle.p3_formula.proofs.Worked.{computes}
use Rattle.p3_reach.specs.May.{may}
use Rattle.p3_ground.specs.StandsFor.{Matched, AreDifferent, IsMadeOf, StepStands, StandsBy, LeavesOutOnlyUnfit}
use Rattle.p3_task.specs.Mentions.{formula_atoms}
use Rattle.p3_ground.specs.Sparse.{HasFewChanges, IsGroundingOf, MayFit, Sparse, StepsHaveFewChanges, StepsHavePossibleConjuncts}
use Rattle.p3_ground.specs.Worked.{only_step, smallest}

-- the definitions, to be unfolded together
unfoldable both_compute : Unit {0}
unfolding meaning_computes computes read operators look literals changed formula_conjuncts goal_conjuncts formula_atoms may
both_compute = tt

abbrev p : Fact
p = record { name = codes "p"; args = [] }

abbrev atoms : List Fact
atoms = p ∷ []

different : AreDifferent atoms
different zero zero fact e f = refl
different zero (suc j) fact e f = absurd (cc)
different (suc i) j fact e f = absurd (cc)

begins : (k : ℕ) (fact : Fact) → slice_get atoms k ≡ Some fact → is_set (false ∷ []) k ≡ has_fact (start read) fact
unfolding both_compute
begins zero fact e = refl
begins (suc k) fact e = absurd (cc)

after_it : (s : named.State) (bits : State) → Matched atoms s bits → (k : ℕ) (fact : Fact) → slice_get atoms k ≡ Some fact → is_set (after bits (sets 0 ∷ [])) k ≡ has_fact (state_after read s (step "a" [])) fact
unfolding both_compute
after_it s bits matched zero fact e = is_set-after bits (sets 0 ∷ []) 0 (let l = matched.count in omega (arith, l)) ∙ ap (λ (f : Fact). has_fact (state_after read s (step "a" [])) f) (Some-injective p fact e)
after_it s bits matched (suc k) fact e = absurd (cc)

made : IsMadeOf read atoms (step "a" []) only_step
unfolding both_compute
made = record {
  pre = λ s bits reached matched. refl;
  prefs = tt;
  effects = λ s bits reached matched. record { count = length-after bits (sets 0 ∷ []) ∙ matched.count; atom = after_it s bits matched };
  cost = refl;
}

kept : All (StepStands read atoms) smallest.steps
unfolding both_compute
kept zero d lt = record { step = step "a" []; number = refl; is = made }
kept (suc k) d lt = absurd (omega (arith, lt))

left_out : LeavesOutOnlyUnfit read smallest
unfolding both_compute
left_out zero s e out = absurd (cc)
left_out (suc number) s e out = absurd (cc)

stands : StandsBy read atoms smallest
unfolding both_compute
stands = record {
  count = refl;
  different = different;
  below = record { steps = refl; goal = refl; hard = refl; soft = refl };
  initial = record { count = refl; atom = begins };
  initial_cost = refl;
  step_count = refl;
  rising = refl;
  kept = kept;
  goal = λ s bits reached matched. refl;
  hard = tt;
  soft = (record { name = refl; parts = ((λ s bits reached matched. matched.atom 0 p refl), tt) }, tt);
  name_count = refl;
}

-- ---- it is sparse

few : HasFewChanges read atoms (step "a" []) only_step.effects
unfolding both_compute
few = record { own = refl; all = omega arith; conditional = omega arith }

changes : StepsHaveFewChanges read atoms smallest
unfolding both_compute
changes zero d lt = record { step = step "a" []; number = refl; says = few }
changes (suc k) d lt = absurd (omega (arith, lt))

conjuncts : StepsHavePossibleConjuncts read smallest
unfolding both_compute
conjuncts zero d lt = record { step = step "a" []; number = refl; says = refl }
conjuncts (suc k) d lt = absurd (omega (arith, lt))

may_fit : MayFit smallest
unfolding both_compute
may_fit set closed zero d lt = refl
may_fit set closed (suc k) d lt = absurd (omega (arith, lt))

sparse : Sparse read atoms smallest
unfolding both_compute
sparse = record { changes = changes; constraints = record { hard = tt; soft = ((refl, tt), tt) }; conjuncts = conjuncts; may_fit = may_fit }

pub smallest_grounds : IsGroundingOf read smallest
smallest_grounds = record { atoms = atoms; stands = stands; left_out = left_out; sparse = sparse }
