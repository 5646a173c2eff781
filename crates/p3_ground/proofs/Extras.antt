-- The further actions of a plan's wide steps, for the task and for the ground task.
use Rattle.std.proofs.Common.{◌≡◌, ◌∙◌, ℕ, suc, ◌+◌, nat_lt, refl, sym, ap, Bool, true, false, List, [], ◌∷◌, length, arith, Option, Some, None, cond, pos}
use Rattle.std.specs.Prelude.{int_lt, slice_get, position, count_by}
use Rattle.std.specs.List.{AllZip}
use Rattle.std.proofs.lemmas.Bool.{true≢false}
use Rattle.std.proofs.lemmas.List.Sums.{sum_by-cons}
use Rattle.std.proofs.lemmas.Slice.Eq.{bytes_eq-Decides}
use Rattle.p3_base.specs.Copies.{extra_of}
use Rattle.p3_task.specs.Names.{Name, same_name}
use Rattle.p3_task.specs.States.{Environment, start}
use Rattle.p3_task.specs.Goals.{StatePref, prefs, pref_names}
use Rattle.p3_task.specs.Plans.{Plan, action_named, arguments, steps_fit}
use Rattle.p3_task.specs.Metrics.{step_prefs, prefs_by, weight}
use Rattle.p3_task.specs.Limits.{weight_of, width}
use Rattle.p3_task.specs.Faithful.{extra, extra_by}
use Rattle.p3_task.specs.PreferenceNames.{ordered_names}
use Rattle.p3_task.specs.StepNumbers.{HasNumber, HasStepNumbers}
use Rattle.p3_task.proofs.OnceLemmas.{Has}
use Rattle.p3_task.proofs.PlanLemmas.{steps_fit-walk}
use Rattle.p3_task.proofs.PreferenceNameLaws.{prefs-names}
use Rattle.p3_task.specs.declared.state.Fact.{Fact}
use Rattle.p3_task.specs.declared.task.Action.{Action}
use Rattle.p3_task.specs.declared.task.Step.{Step}
use Rattle.p3_task.specs.declared.task.Task.{Task}
use Rattle.p3_formula.specs.GroundPlans.{GroundPlan, step_of}
use Rattle.p3_formula.specs.Weighted as weighted
use Rattle.p3_formula.specs.Weighted.{named_weight, ground_extra}
use Rattle.p3_formula.specs.declared.modal.GroundPref.{GroundPref}
use Rattle.p3_formula.specs.declared.target.Weights.{Weights}
use Rattle.p3_formula.specs.declared.task.GroundStep.{GroundStep}
use Rattle.p3_formula.specs.declared.task.GroundTask.{GroundTask}
use Rattle.p3_ground.specs.StandsFor.{StandsBy, PrefStands, IsMadeOf, number_of_name}
use Rattle.p3_ground.specs.PlansByNumber.{AreAsked, HasNameWeights}
use Rattle.p3_ground.proofs.Mentioned.{step_name_is_ordered}
use Rattle.p3_ground.proofs.NameNumbers.{no_place, at_place}
use Rattle.p3_ground.proofs.Walk.{begun, kept_where_fits, sums_same, AgreeWhereFits}

-- ---- widths

counts_of_names : (test : Option Name → Bool) (list : List StatePref) → count_by (λ (pref : StatePref). test pref.name) list ≡ count_by test (pref_names list)
counts_of_names test [] = refl
counts_of_names test (pref ∷ list) =
    sum_by-cons (λ (pref : StatePref). cond (test pref.name) 1 0) pref list
    ∙ ap (λ n. cond (test pref.name) 1 0 + n) (counts_of_names test list)
    ∙ sym (sum_by-cons (λ name. cond (test name) 1 0) pref.name (pref_names list))

length_cond : {A : Type 0} (t : Bool) (x : A) (xs : List A) → length (cond t (x ∷ xs) xs) ≡ cond t 1 0 + length xs
length_cond true x xs = omega arith
length_cond false x xs = omega arith

module _ (T : Task) where
  -- the preference has a weight above 0
  abbrev is_weighty : Option Name → Bool
  is_weighty name = int_lt (pos 0) (weight_of T name)

  width_at : (action : Action) (env : Environment) → width T action ≡ count_by (λ (pref : StatePref). is_weighty pref.name) (prefs T env action.pre.body)
  unfolding width
  width_at action env =
      counts_of_names is_weighty (prefs T [] action.pre.body)
      ∙ ap (λ names. count_by is_weighty names) (prefs-names T action.pre.body [] env)
      ∙ sym (counts_of_names is_weighty (prefs T env action.pre.body))

  -- each preference has its name, if it has one, among the ordered ones
  abbrev pub AreOrdered : List StatePref → Type 0
  AreOrdered list = (i : ℕ) (pref : StatePref) (name : Name) → slice_get list i ≡ Some pref → pref.name ≡ Some name → Has (ordered_names T) name

  module _ (w : Weights) (weights : HasNameWeights T w.by_name) where
    weight_same : (name : Name) → Has (ordered_names T) name → weight T name ≡ pos (named_weight w.by_name (number_of_name T (Some name)))
    weight_same name (k, at) = by (position (same_name name) (ordered_names T)) refl
      where
        by : (o : Option ℕ) → position (same_name name) (ordered_names T) ≡ o → weight T name ≡ pos (named_weight w.by_name o)
        by None e = absurd (true≢false (sym ((bytes_eq-Decides name name).1 refl) ∙ no_place (same_name name) (ordered_names T) e k name at))
        by (Some j) e =
            let (x, found, passes) = at_place (same_name name) (ordered_names T) j e in
            sym (weights j name (found ∙ ap Some (sym ((bytes_eq-Decides name x).0 passes))))

    -- the weight of a preference's name is that of its number
    pub weight_is : (name : Option Name) → ((word : Name) → name ≡ Some word → Has (ordered_names T) word) → weight_of T name ≡ pos (named_weight w.by_name (number_of_name T name))
    weight_is None ordered = refl
    weight_is (Some word) ordered = weight_same word (ordered word refl)

    same_width : (atoms : List Fact) (found : List StatePref) (made : List GroundPref) → AllZip (PrefStands T atoms) found made → AreOrdered found
        → count_by (λ (pref : StatePref). is_weighty pref.name) found ≡ length (weighted.weighted w.by_name made)
    same_width atoms [] [] stands ordered = refl
    same_width atoms [] (y ∷ made) stands ordered = absurd stands
    same_width atoms (x ∷ found) [] stands ordered = absurd stands
    same_width atoms (x ∷ found) (y ∷ made) stands ordered =
        sum_by-cons (λ (pref : StatePref). cond (is_weighty pref.name) 1 0) x found
        ∙ (λ i. cond (ap (λ weight. int_lt (pos 0) weight) (here ∙ ap (λ o. pos (named_weight w.by_name o)) (sym stands.0.name)) i) 1 0
        + same_width atoms found made stands.1 (λ k pref name at e. ordered (suc k) pref name at e) i)
        ∙ sym (length_cond (nat_lt 0 (weighted.weight_of w.by_name y)) y (weighted.weighted w.by_name made))
      where
        here : weight_of T x.name ≡ pos (named_weight w.by_name (number_of_name T x.name))
        here = weight_is x.name (λ name e. ordered 0 x name refl e)

    module _ (atoms : List Fact) (G : GroundTask) (S : StandsBy T atoms G) (K : HasStepNumbers T) where
      -- a kept step is as wide as its action
      pub made_width : (number : ℕ) (step : Step) (made : GroundStep) → (e : HasNumber T step number) → IsMadeOf T atoms step made → width T (K.own number step e).action ≡ weighted.width_of w.by_name made
      unfolding step_prefs
      made_width number step made e is =
          let own = K.own number step e in
          width_at own.action (arguments own.action step)
          ∙ ap (λ o. count_by (λ (pref : StatePref). is_weighty pref.name) (prefs_by T step o)) (sym own.named)
          ∙ same_width atoms (step_prefs T step) made.prefs is.prefs (λ i pref name at same. step_name_is_ordered T step i pref name at same)

      made_extra : (number : ℕ) (step : Step) (made : GroundStep) → HasNumber T step number → IsMadeOf T atoms step made → extra_by T (action_named T step.action) ≡ weighted.extra_by w.by_name (Some made)
      made_extra number step made e is = ap (extra_by T) (K.own number step e).named ∙ ap extra_of (made_width number step made e is)

      step_extra : AgreeWhereFits T atoms G S K (λ s bits number step. extra_by T (action_named T step.action) ≡ weighted.extra_by w.by_name (step_of G number))
      step_extra s bits number step m e f =
          kept_where_fits T atoms G S K (λ o. extra_by T (action_named T step.action) ≡ weighted.extra_by w.by_name o) s bits number step m e f
          (λ made is. made_extra number step made e.0 is)

      pub extras_alike : (plan : Plan) (numbers : GroundPlan) → AreAsked T G plan numbers → steps_fit T plan ≡ true → extra T plan ≡ ground_extra G w numbers
      unfolding extra ground_extra
      extras_alike plan numbers e f =
          sums_same T atoms G S K (λ (step : Step). extra_by T (action_named T step.action)) (λ number. weighted.extra_by w.by_name (step_of G number)) step_extra
          plan numbers e (start T) G.initial (begun T atoms G S K) (sym (steps_fit-walk T plan) ∙ f)
