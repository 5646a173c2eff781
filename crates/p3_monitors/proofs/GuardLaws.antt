-- The guard of each operator is what it is to be.
use Rattle.std.proofs.Common.{◌≡◌, ◌∙◌, ℕ, Bool, true, false, not, ◌&&◌, ◌||◌, List, [], ◌∷◌, ◌++◌, length, Result, refl, sym, ap, subst, arith, true≢false}
use Rattle.std.specs.Prelude.{IfOk}
use Rattle.std.proofs.lemmas.Bool.{and_parts}
use Rattle.std.proofs.lemmas.Result.{IfOk-weaker}
use Rattle.p3_formula.specs.Forms.{State, truth, has_atoms, nodes}
use Rattle.p3_base.specs.Trajectories.{each, came_back, came_early}
use Rattle.p3_formula.specs.GroundSat.{holds_at, ground_sat}
use Rattle.p3_formula.specs.Lasting.{stays_broken}
use Rattle.p3_formula.specs.Modals.{IsModalBelow}
use Rattle.p3_formula.specs.declared.form.Change.{Change}
use Rattle.p3_formula.specs.declared.form.Form.{Form}
use Rattle.p3_formula.specs.declared.form.Form.TheVariants.{True}
use Rattle.p3_formula.specs.GroundModal.{GroundModal}
use Rattle.p3_base.specs.declared.operator.Operator.TheVariants as modal
use Rattle.p3_formula.proofs.FormLemmas.{has_atoms-True, nodes-True}
use Rattle.p3_formula.proofs.WatchedLaws.{sat-AtMostOnce, sat-SometimeBefore}
use Rattle.p3_regress.specs.Regressed.{growth}
use Rattle.p3_regress.proofs.TurnedLaws.{some_node}
use Rattle.p3_monitors.specs.Guards.{IsGuarding}
use Rattle.p3_monitors.specs.Updates.{IsTurned, back, early, unless}
use Rattle.p3_monitors.proofs.ChangeLaws.{Transition, own_from}
use Rattle.p3_monitors.proofs.JointLaws.{truth-unless, has_atoms-back, has_atoms-early, has_atoms-unless, nodes-back, nodes-early, nodes-unless}
use Rattle.p3_monitors.proofs.UpdateLaws.{one_sum, two_sum, at_base, in_two, each_told, came_told, early_told}

sat-Always : (W : List State) (f : Form) → ground_sat W (modal.Always f) ≡ each (length W) (holds_at W f)
unfolding ground_sat
sat-Always W f = refl

-- where the atom is not set, what sets it tells that it is set after the step
unset_told : (old told next : Bool) → not old ≡ true → (old || told) ≡ next → not told ≡ not next
unset_told true told next unset is = absurd (true≢false (sym unset))
unset_told false told next unset is = ap not is

module _ (base : ℕ) (step : List Change) where
  -- a constraint that can come right again needs no guard
  pub unguarded : (operator : GroundModal) → stays_broken operator ≡ false → IsGuarding base operator step True
  unguarded operator mends = record {
    guards = λ W state next kept agree stays good. absurd (true≢false (sym stays ∙ mends));
    still = λ none. refl;
    atoms = λ allowed of own conds. has_atoms-True allowed;
    size = let n = nodes-True in omega arith;
  }

  module _ (f later : Form) where
    pub always_guard : IsTurned false step f later → IsModalBelow base (modal.Always f) → IsGuarding base (modal.Always f) step later
    always_guard made below = record {
      guards = λ W state next kept agree stays good.
          let at : Transition base (modal.Always f) step = record { below = below; W = W; state = state; next = next; kept = kept; agree = agree } in
          ap (λ b. b && truth state later) (sym (sym (sat-Always W f) ∙ good)) ∙ each_told base step f later made at ∙ sym (sat-Always (W ++ next ∷ []) f);
      still = made.still;
      atoms = λ allowed of own conds. made.atoms allowed (and_parts (has_atoms allowed f) _ of).0 conds;
      size = let m = one_sum nodes f in let s = made.size in let g = one_sum (growth step) f in omega arith;
    }

    pub at_most_once_guard : IsTurned true step f later → IsModalBelow base (modal.AtMostOnce f) → IsGuarding base (modal.AtMostOnce f) step (unless (back base f later))
    at_most_once_guard made below = record {
      guards = λ W state next kept agree stays good.
          let at : Transition base (modal.AtMostOnce f) step = record { below = below; W = W; state = state; next = next; kept = kept; agree = agree } in
          truth-unless state (back base f later)
          ∙ unset_told (came_back (length W) (holds_at W f)) (truth state (back base f later)) _ (sym (sat-AtMostOnce W f f) ∙ good) (came_told base step f later made at)
          ∙ sym (sat-AtMostOnce (W ++ next ∷ []) f f);
      still = λ none. ap (λ told. unless (back base f told)) (made.still none);
      atoms = λ allowed of own conds.
          let it = (and_parts (has_atoms allowed f) _ of).0 in
          has_atoms-unless allowed (back base f later) (has_atoms-back allowed base f later (own base (own_from base (modal.AtMostOnce f) base (at_base base) (in_two base))) it (made.atoms allowed it conds));
      size = let u = nodes-unless (back base f later) in let b = nodes-back base f later in let k = some_node f in let m = one_sum nodes f in let s = made.size in let g = one_sum (growth step) f in omega arith;
    }

  pub sometime_before_guard : (f g later : Form) → IsTurned true step f later → IsModalBelow base (modal.SometimeBefore f g) → IsGuarding base (modal.SometimeBefore f g) step (unless (early base later))
  sometime_before_guard f g later made below = record {
    guards = λ W state next kept agree stays good.
        let at : Transition base (modal.SometimeBefore f g) step = record { below = below; W = W; state = state; next = next; kept = kept; agree = agree } in
        truth-unless state (early base later)
        ∙ unset_told (came_early (length W) (holds_at W f) (holds_at W g)) (truth state (early base later)) _ (sym (sat-SometimeBefore W f g) ∙ good) (early_told base step f g later made at)
        ∙ sym (sat-SometimeBefore (W ++ next ∷ []) f g);
    still = λ none. ap (λ told. unless (early base told)) (made.still none);
    atoms = λ allowed of own conds.
        let first = made.atoms allowed (and_parts (has_atoms allowed f) _ of).0 conds in
        has_atoms-unless allowed (early base later) (has_atoms-early allowed base later (own base (own_from base (modal.SometimeBefore f g) base (at_base base) (in_two base))) first);
    size = let u = nodes-unless (early base later) in let b = nodes-early base later in let m = two_sum nodes f g in let s = made.size in let h = two_sum (growth step) f g in omega arith;
  }

-- what is a guard of the operator of a constraint is one of the constraint
pub guards_operator : {E : Type 0} {P : Form → Type 0} (base : ℕ) (step : List Change) (modal operator : GroundModal) (result : Result Form E)
    → modal ≡ operator → IsModalBelow base modal → ((guard : Form) → P guard → IsModalBelow base operator → IsGuarding base operator step guard) → IfOk result P → IfOk result (IsGuarding base modal step)
guards_operator base step modal operator result is below guarding ok =
    IfOk-weaker result _ _ (λ guard made. subst (λ m. IsGuarding base m step guard) (sym is) (guarding guard made (subst (IsModalBelow base) is below))) ok
