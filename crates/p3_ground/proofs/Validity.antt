-- A plan is valid exactly where the list of its steps' numbers is.
use Rattle.std.proofs.Common.{◌≡◌, ◌∙◌, ℕ, zero, suc, ◌-◌, ◌<◌, nat_le, nat_lt, refl, sym, ap, Bool, true, false, not, ◌&&◌, List, [], ◌∷◌, length, arith}
use Rattle.std.specs.Prelude.{zip, slice_index_or}
use Rattle.std.specs.List.{list_all, AllZip}
use Rattle.p3_base.specs.Connectives.{◌implies◌}
use Rattle.p3_base.specs.Trajectories as operator
use Rattle.p3_base.proofs.TrajectoryLemmas.{each-same, some-same}
use Rattle.p3_task.specs.States as named
use Rattle.p3_task.specs.States.{Environment, start}
use Rattle.p3_task.specs.Plans as plans
use Rattle.p3_task.specs.Plans.{Plan, visited, last_state, state_at, steps_fit}
use Rattle.p3_task.specs.Constraints as tree
use Rattle.p3_task.specs.Constraints.{HardModal, satisfies, hard_list}
use Rattle.p3_task.specs.Validity.{is_valid, goal_holds}
use Rattle.p3_task.specs.StepNumbers.{HasStepNumbers}
use Rattle.p3_task.proofs.PlanLemmas.{steps_fit-walk}
use Rattle.p3_task.specs.declared.state.Fact.{Fact}
use Rattle.p3_task.specs.declared.formula.Formula.{Formula}
use Rattle.p3_task.specs.Modal.{Modal}
use Rattle.p3_base.specs.declared.operator.Operator.TheVariants as modal
use Rattle.p3_task.specs.declared.task.Task.{Task}
use Rattle.p3_formula.specs.Forms.{State, truth}
use Rattle.p3_formula.specs.GroundSat as sat_of
use Rattle.p3_formula.specs.GroundSat.{ground_sat}
use Rattle.p3_formula.specs.GroundPlans.{GroundPlan, step_of, ground_fits, state_by, visited_from, ground_visited, is_ground_valid}
use Rattle.p3_formula.specs.declared.form.Form.{Form}
use Rattle.p3_formula.specs.GroundModal.{GroundModal}
use Rattle.p3_formula.specs.declared.task.GroundTask.{GroundTask}
use Rattle.p3_ground.specs.StandsFor.{StandsBy, FormStands, ModalStands, HardStands}
use Rattle.p3_ground.specs.PlansByNumber.{AreAsked}
use Rattle.p3_ground.proofs.Walk.{Met, reached, begun, all_fit, fit_same, both_visited}

three_tests : (a b c x y z : Bool) → a ≡ x → (a ≡ true → b ≡ y) → (a ≡ true → c ≡ z) → (a && b && c) ≡ (x && y && z)
three_tests true b c x y z e f g = λ i. e i && f refl i && g refl i
three_tests false b c x y z e f g = λ i. e i && y && z

module _ (T : Task) (atoms : List Fact) (G : GroundTask) (S : StandsBy T atoms G) (K : HasStepNumbers T) where
  abbrev pub AreMet : List named.State → List State → Type 0
  AreMet W V = AllZip (Met T atoms G S K) W V

  same_length : (W : List named.State) (V : List State) → AreMet W V → length W ≡ length V
  same_length [] [] m = refl
  same_length [] (bits ∷ V) m = absurd m
  same_length (s ∷ W) [] m = absurd m
  same_length (s ∷ W) (bits ∷ V) m = ap suc (same_length W V m.1)

  met_at : (W : List named.State) (V : List State) → AreMet W V → (i : ℕ) → i < length W → Met T atoms G S K (state_at W i) (slice_index_or V i [])
  met_at [] [] m i lt = absurd (omega (arith, lt))
  met_at [] (bits ∷ V) m i lt = absurd m
  met_at (s ∷ W) [] m i lt = absurd m
  met_at (s ∷ W) (bits ∷ V) m zero lt = m.0
  met_at (s ∷ W) (bits ∷ V) m (suc i) lt = met_at W V m.1 i (omega (arith, lt))

  -- ---- the operators

  module _ (W : List named.State) (V : List State) (m : AreMet W V) (some_state : 0 < length W) where
    same_holds : (env : Environment) (f : Formula) (form : Form) → FormStands T atoms env f form → (i : ℕ) → i < length W → tree.holds_at T W env f i ≡ sat_of.holds_at V form i
    same_holds env f form stands i lt = let met = met_at W V m i lt in sym (stands (state_at W i) (slice_index_or V i []) (reached T atoms G S K _ _ met) met.matched)

    pub same_modal : (env : Environment) (x : Modal) (y : GroundModal) → ModalStands T atoms env x y → satisfies T W env x ≡ ground_sat V y
    unfolding satisfies ground_sat
    same_modal env (modal.AtEnd f) (modal.AtEnd form) stands =
        same_holds env f form stands (length W - 1) (omega (arith, some_state)) ∙ ap (λ n. operator.at_end n (sat_of.holds_at V form)) (same_length W V m)
    same_modal env (modal.Always f) (modal.Always form) stands =
        each-same (length W) (same_holds env f form stands) ∙ ap (λ n. operator.always n (sat_of.holds_at V form)) (same_length W V m)
    same_modal env (modal.Sometime f) (modal.Sometime form) stands =
        some-same (length W) (same_holds env f form stands) ∙ ap (λ n. operator.sometime n (sat_of.holds_at V form)) (same_length W V m)
    same_modal env (modal.AtMostOnce f) (modal.AtMostOnce form) stands =
        let n = length W in
        let h = same_holds env f form stands in
        each-same n (λ i lt j. h i lt j implies some-same n (λ k lk j. nat_le i k && each-same n (λ l ll j. (nat_le i l && nat_le l k) implies h l ll j) j && each-same n (λ l ll j. nat_lt k l implies not (h l ll j)) j) j)
        ∙ ap (λ n. operator.at_most_once n (sat_of.holds_at V form)) (same_length W V m)
    same_modal env (modal.SometimeAfter f g) (modal.SometimeAfter form other) stands =
        each-same (length W) (λ i lt j. same_holds env f form stands.0 i lt j implies some-same (length W) (λ k lk j. nat_le i k && same_holds env g other stands.1 k lk j) j)
        ∙ ap (λ n. operator.sometime_after n (sat_of.holds_at V form) (sat_of.holds_at V other)) (same_length W V m)
    same_modal env (modal.SometimeBefore f g) (modal.SometimeBefore form other) stands =
        each-same (length W) (λ i lt j. same_holds env f form stands.0 i lt j implies some-same (length W) (λ k lk j. nat_lt k i && same_holds env g other stands.1 k lk j) j)
        ∙ ap (λ n. operator.sometime_before n (sat_of.holds_at V form) (sat_of.holds_at V other)) (same_length W V m)
    same_modal env _ _ stands = absurd stands

    pub same_modals : (hards : List HardModal) (made : List GroundModal) → AllZip (HardStands T atoms) hards made → list_all (λ (h : HardModal). satisfies T W h.env h.modal) hards ≡ list_all (ground_sat V) made
    same_modals [] [] stands = refl
    same_modals [] (y ∷ made) stands = absurd stands
    same_modals (x ∷ hards) [] stands = absurd stands
    same_modals (x ∷ hards) (y ∷ made) stands = λ i. same_modal x.env x.modal y stands.0 i && same_modals hards made stands.1 i

  pub some_visited : (s : named.State) (plan : Plan) → 0 < length (plans.visited_from T s plan)
  some_visited s [] = omega arith
  some_visited s (step ∷ plan) = omega arith

  -- ---- validity

  ground_moves_fit : (bits : State) (numbers : GroundPlan) → list_all (λ (move : State × ℕ). ground_fits G move.0 move.1) (zip (visited_from G bits numbers) numbers) ≡ all_fit T atoms G S K bits numbers
  unfolding visited_from
  ground_moves_fit bits [] = refl
  ground_moves_fit bits (number ∷ numbers) = ap (λ rest. ground_fits G bits number && rest) (ground_moves_fit (state_by bits (step_of G number)) numbers)

  pub are_met : (plan : Plan) (numbers : GroundPlan) → AreAsked T G plan numbers → steps_fit T plan ≡ true → AreMet (visited T plan) (ground_visited G numbers)
  unfolding visited
  are_met plan numbers e f = both_visited T atoms G S K plan numbers e (start T) G.initial (begun T atoms G S K) (sym (steps_fit-walk T plan) ∙ f)

  pub valid_alike : (plan : Plan) (numbers : GroundPlan) → AreAsked T G plan numbers → is_valid T plan ≡ is_ground_valid G numbers
  unfolding is_valid is_ground_valid goal_holds visited
  valid_alike plan numbers e =
      let W = visited T plan in
      let V = ground_visited G numbers in
      let some_state = some_visited (start T) plan in
      three_tests _ _ _ _ _ _ (steps_fit-walk T plan ∙ fit_same T atoms G S K plan numbers e (start T) G.initial (begun T atoms G S K) ∙ sym (ground_moves_fit G.initial numbers))
      (λ f. let m = are_met plan numbers e f in
      let last = met_at W V m (length W - 1) (omega (arith, some_state)) in
      sym (S.goal (last_state W) (slice_index_or V (length W - 1) []) (reached T atoms G S K _ _ last) last.matched) ∙ ap (λ n. truth (slice_index_or V (n - 1) []) G.goal) (same_length W V m))
      (λ f. same_modals W V (are_met plan numbers e f) some_state (hard_list T) G.hard S.hard)
