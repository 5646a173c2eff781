-- The reasons of a ground plan are those of the plan whose steps it numbers.
use Rattle.std.proofs.Common.{◌≡◌, ◌∙◌, ℕ, zero, suc, ◌+◌, ◌-◌, ◌<◌, refl, sym, ap, Bool, true, false, not, cond, List, [], ◌∷◌, ◌++◌, length, map, arith}
use Rattle.std.specs.Prelude.{filter, slice_index_or, unwrap_or, zip, if◌then◌else◌}
use Rattle.std.specs.List.{AllZip, enumerate_from, flat_map}
use Rattle.std.proofs.lemmas.Bool.{and_parts}
use Rattle.std.proofs.lemmas.Slice.Zip.{AllZip-long}
use Rattle.p3_base.specs.Showings.{gap_place, again_place, is_unanswered, is_unprepared, least}
use Rattle.p3_base.specs.declared.showing.Reason.{Reason}
use Rattle.p3_base.specs.declared.showing.Showing.TheVariants.{Holds, HoldsAt, HoldsNowhere, FailsAt, Again}
use Rattle.p3_base.specs.declared.showing.Subject.{Subject}
use Rattle.p3_base.specs.declared.showing.Subject.TheVariants.{Hard, Soft, Pre}
use Rattle.p3_task.specs.States as named
use Rattle.p3_task.specs.States.{Environment, start}
use Rattle.p3_task.specs.Goals.{StatePref}
use Rattle.p3_task.specs.Plans.{Plan, moves_from, state_after, state_at, steps_fit, visited}
use Rattle.p3_task.specs.Constraints as tree
use Rattle.p3_task.specs.Constraints.{HardModal, Instance, hard_list, instances, operators, satisfies}
use Rattle.p3_task.specs.Explanations as told
use Rattle.p3_task.specs.Explanations.{reasons, shown}
use Rattle.p3_task.specs.Metrics.{step_prefs}
use Rattle.p3_task.specs.StepNumbers.{HasStepNumbers}
use Rattle.p3_task.proofs.PlanLemmas.{fit_from, steps_fit-walk}
use Rattle.p3_task.specs.declared.state.Fact.{Fact}
use Rattle.p3_task.specs.declared.formula.Formula.{Formula}
use Rattle.p3_task.specs.Modal.{Modal}
use Rattle.p3_base.specs.declared.operator.Operator.TheVariants as modal
use Rattle.p3_task.specs.declared.task.Task.{Task}
use Rattle.p3_formula.specs.Forms.{State, truth}
use Rattle.p3_formula.specs.GroundSat as sat_of
use Rattle.p3_formula.specs.GroundSat.{ground_sat}
use Rattle.p3_formula.specs.GroundPlans.{GroundPlan, ground_visited, state_by, step_of, visited_from}
use Rattle.p3_formula.specs.declared.form.Form.{Form}
use Rattle.p3_formula.specs.GroundModal.{GroundModal}
use Rattle.p3_formula.specs.declared.modal.GroundPref.{GroundPref}
use Rattle.p3_formula.specs.declared.modal.GroundSoft.{GroundSoft}
use Rattle.p3_formula.specs.declared.task.GroundTask.{GroundTask}
use Rattle.p3_ground.specs.StandsFor.{FormStands, HardStands, ModalStands, PrefStands, SoftStands, StandsBy}
use Rattle.p3_ground.specs.PlansByNumber.{AreAsked}
use Rattle.p3_ground.proofs.Validity.{AreMet, are_met, same_modal, some_visited}
use Rattle.p3_ground.proofs.Walk.{Met, begun, kept_where_fits, next_met, reached}
use Rattle.p3_marks.specs.Reasons.{ground_reasons, ground_shown, is_false_in, move_reasons, pref_reason, soft_reasons, step_reasons, steps_reasons}
use Rattle.p3_marks.proofs.PlaceLaws.{again-same, gap-same, least-same, unanswered-same, unprepared-same}

module _ (T : Task) (atoms : List Fact) (G : GroundTask) (S : StandsBy T atoms G) (K : HasStepNumbers T) where
  -- ---- the operators

  met_at : (W : List named.State) (V : List State) → AreMet T atoms G S K W V → (i : ℕ) → i < length W → Met T atoms G S K (state_at W i) (slice_index_or V i [])
  met_at [] V m i lt = absurd (omega (arith, lt))
  met_at (s ∷ W) [] m i lt = absurd m
  met_at (s ∷ W) (bits ∷ V) m zero lt = m.0
  met_at (s ∷ W) (bits ∷ V) m (suc i) lt = met_at W V m.1 i (omega (arith, lt))

  module _ (W : List named.State) (V : List State) (m : AreMet T atoms G S K W V) (some_state : 0 < length W) where
    abbrev n : ℕ
    n = length W

    long : length W ≡ length V
    long = sym (AllZip-long (Met T atoms G S K) W V m)

    same_holds : (env : Environment) (f : Formula) (form : Form) → FormStands T atoms env f form → (i : ℕ) → i < length W → tree.holds_at T W env f i ≡ sat_of.holds_at V form i
    same_holds env f form stands i lt =
        let met = met_at W V m i lt in
        sym (stands (state_at W i) (slice_index_or V i []) (reached T atoms G S K (state_at W i) (slice_index_or V i []) met) met.matched)

    place : (p q : ℕ → Bool) → ((k : ℕ) → k < n → p k ≡ q k) → least n p ≡ least (length V) q
    place p q same = (λ i. unwrap_or (least-same n same i) n) ∙ ap (λ count. least count q) long

    pub same_shown : (env : Environment) (x : Modal) (y : GroundModal) → ModalStands T atoms env x y → shown T W env x ≡ ground_shown V y
    unfolding shown ground_shown satisfies ground_sat
    same_shown env (modal.AtEnd f) (modal.AtEnd form) stands =
        λ i. if same_modal T atoms G S K W V m some_state env (modal.AtEnd f) (modal.AtEnd form) stands i then HoldsAt (long i - 1) else FailsAt (long i - 1)
    same_shown env (modal.Always f) (modal.Always form) stands =
        let h = same_holds env f form stands in
        let at = place (λ k. not (tree.holds_at T W env f k)) (λ k. not (sat_of.holds_at V form k)) (λ k lt. ap not (h k lt)) in
        λ i. if same_modal T atoms G S K W V m some_state env (modal.Always f) (modal.Always form) stands i then Holds else FailsAt (at i)
    same_shown env (modal.Sometime f) (modal.Sometime form) stands =
        let h = same_holds env f form stands in
        let at = place (tree.holds_at T W env f) (sat_of.holds_at V form) h in
        λ i. if same_modal T atoms G S K W V m some_state env (modal.Sometime f) (modal.Sometime form) stands i then HoldsAt (at i) else HoldsNowhere
    same_shown env (modal.AtMostOnce f) (modal.AtMostOnce form) stands =
        let h = same_holds env f form stands in
        let first = place (tree.holds_at T W env f) (sat_of.holds_at V form) h in
        let gap : gap_place n (tree.holds_at T W env f) ≡ gap_place (length V) (sat_of.holds_at V form) = (λ i. unwrap_or (gap-same n h i) n) ∙ ap (λ count. gap_place count (sat_of.holds_at V form)) long in
        let again : again_place n (tree.holds_at T W env f) ≡ again_place (length V) (sat_of.holds_at V form) = (λ i. unwrap_or (again-same n h i) n) ∙ ap (λ count. again_place count (sat_of.holds_at V form)) long in
        λ i. if same_modal T atoms G S K W V m some_state env (modal.AtMostOnce f) (modal.AtMostOnce form) stands i then Holds else Again (first i) (gap i) (again i)
    same_shown env (modal.SometimeAfter f g) (modal.SometimeAfter form other) stands =
        let h = same_holds env f form stands.0 in
        let k = same_holds env g other stands.1 in
        let at : least n (is_unanswered n (tree.holds_at T W env f) (tree.holds_at T W env g)) ≡ least (length V) (is_unanswered (length V) (sat_of.holds_at V form) (sat_of.holds_at V other)) =
        (λ i. unwrap_or (unanswered-same n h k i) n) ∙ ap (λ count. least count (is_unanswered count (sat_of.holds_at V form) (sat_of.holds_at V other))) long in
        λ i. if same_modal T atoms G S K W V m some_state env (modal.SometimeAfter f g) (modal.SometimeAfter form other) stands i then Holds else FailsAt (at i)
    same_shown env (modal.SometimeBefore f g) (modal.SometimeBefore form other) stands =
        let h = same_holds env f form stands.0 in
        let k = same_holds env g other stands.1 in
        let at : least n (is_unprepared n (tree.holds_at T W env f) (tree.holds_at T W env g)) ≡ least (length V) (is_unprepared (length V) (sat_of.holds_at V form) (sat_of.holds_at V other)) =
        (λ i. unwrap_or (unprepared-same n h k i) n) ∙ ap (λ count. least count (is_unprepared count (sat_of.holds_at V form) (sat_of.holds_at V other))) long in
        λ i. if same_modal T atoms G S K W V m some_state env (modal.SometimeBefore f g) (modal.SometimeBefore form other) stands i then Holds else FailsAt (at i)
    same_shown env _ _ stands = absurd stands

    same_reasons : (subject : ℕ → Subject) (from : ℕ) (hards : List HardModal) (made : List GroundModal) → AllZip (HardStands T atoms) hards made
        → map {B = Reason} (λ (numbered : ℕ × HardModal). record { subject = subject numbered.0; showing = shown T W numbered.1.env numbered.1.modal }) (enumerate_from from hards)
        ≡ map {B = Reason} (λ (numbered : ℕ × GroundModal). record { subject = subject numbered.0; showing = ground_shown V numbered.1 }) (enumerate_from from made)
    same_reasons subject from [] [] stands = refl
    same_reasons subject from [] (y ∷ made) stands = absurd stands
    same_reasons subject from (x ∷ hards) [] stands = absurd stands
    same_reasons subject from (x ∷ hards) (y ∷ made) stands =
        λ i. record { subject = subject from; showing = same_shown x.env x.modal y stands.0 i } ∷ same_reasons subject (from + 1) hards made stands.1 i

    same_instances : (from : ℕ) (found : List Instance) (made : List GroundSoft) → AllZip (SoftStands T atoms) found made
        → flat_map (λ (numbered : ℕ × Instance). told.operator_reasons T W (Soft numbered.0) (operators T numbered.1.env numbered.1.body)) (enumerate_from from found) ≡ flat_map (soft_reasons V) (enumerate_from from made)
    same_instances from [] [] stands = refl
    same_instances from [] (y ∷ made) stands = absurd stands
    same_instances from (x ∷ found) [] stands = absurd stands
    same_instances from (x ∷ found) (y ∷ made) stands =
        λ i. same_reasons (Soft from) 0 (operators T x.env x.body) y.parts stands.0.parts i ++ same_instances (from + 1) found made stands.1 i

  -- ---- the preferences of steps

  module _ (s : named.State) (bits : State) (m : Met T atoms G S K s bits) (step : ℕ) where
    abbrev named_reason : ℕ × StatePref → Reason
    named_reason pref = record { subject = Pre step pref.0; showing = FailsAt (step - 1) }

    same_false : (from : ℕ) (found : List StatePref) (made : List GroundPref) → AllZip (PrefStands T atoms) found made
        → map named_reason (filter (told.is_false_in T s) (enumerate_from from found)) ≡ map (pref_reason step) (filter (is_false_in bits) (enumerate_from from made))
    same_false from [] [] stands = refl
    same_false from [] (y ∷ made) stands = absurd stands
    same_false from (x ∷ found) [] stands = absurd stands
    same_false from (x ∷ found) (y ∷ made) stands =
        ap (λ b. map named_reason (cond (not b) ((from, x) ∷ filter (told.is_false_in T s) (enumerate_from (from + 1) found)) (filter (told.is_false_in T s) (enumerate_from (from + 1) found))))
        (sym (stands.0.body s bits (reached T atoms G S K s bits m) m.matched))
        ∙ by (truth bits y.body) (same_false (from + 1) found made stands.1)
      where
        by : (b : Bool) → map named_reason (filter (told.is_false_in T s) (enumerate_from (from + 1) found)) ≡ map (pref_reason step) (filter (is_false_in bits) (enumerate_from (from + 1) made))
            → map named_reason (cond (not b) ((from, x) ∷ filter (told.is_false_in T s) (enumerate_from (from + 1) found)) (filter (told.is_false_in T s) (enumerate_from (from + 1) found)))
            ≡ map (pref_reason step) (cond (not b) ((from, y) ∷ filter (is_false_in bits) (enumerate_from (from + 1) made)) (filter (is_false_in bits) (enumerate_from (from + 1) made)))
        by true rest = rest
        by false rest = ap (λ list. pref_reason step (from, y) ∷ list) rest

  same_moves : (from : ℕ) (plan : Plan) (numbers : GroundPlan) → AreAsked T G plan numbers → (s : named.State) (bits : State) → Met T atoms G S K s bits → fit_from T s plan ≡ true
      → flat_map (told.move_reasons T) (enumerate_from from (moves_from T s plan)) ≡ flat_map (move_reasons G) (enumerate_from from (zip (visited_from G bits numbers) numbers))
  unfolding visited_from
  same_moves from [] [] e s bits m f = refl
  same_moves from [] (number ∷ numbers) e s bits m f = absurd e
  same_moves from (step ∷ plan) [] e s bits m f = absurd e
  same_moves from (step ∷ plan) (number ∷ numbers) (e, es) s bits m f =
      let h = and_parts _ _ f in
      let here = kept_where_fits T atoms G S K (λ o. told.move_reasons T (from, record { state = s; step = step }) ≡ step_reasons bits from o) s bits number step m e h.0
      (λ made is. same_false s bits m from 0 (step_prefs T step) made.prefs is.prefs) in
      λ i. here i ++ same_moves (from + 1) plan numbers es (state_after T s step) (state_by bits (step_of G number)) (next_met T atoms G S K s bits number step m e h.0) h.1 i

  -- ---- all

  pub reasons_alike : (plan : Plan) (numbers : GroundPlan) → AreAsked T G plan numbers → steps_fit T plan ≡ true → ground_reasons G numbers ≡ reasons T plan
  unfolding reasons ground_reasons steps_reasons visited
  reasons_alike plan numbers e f =
      let W = visited T plan in
      let V = ground_visited G numbers in
      let m = are_met T atoms G S K plan numbers e f in
      let some_state = some_visited T atoms G S K (start T) plan in
      sym (λ i. (same_reasons W V m some_state Hard 0 (hard_list T) G.hard S.hard i ++ same_instances W V m some_state 0 (instances T) G.soft S.soft i)
      ++ same_moves 1 plan numbers e (start T) G.initial (begun T atoms G S K) (sym (steps_fit-walk T plan) ∙ f) i)
