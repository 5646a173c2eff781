-- What a stage makes of the reasons of a plan are the headings of what is not satisfied.
use Rattle.std.proofs.Common.{◌≡◌, ◌∙◌, ℕ, ◌-◌, Bool, true, false, List, [], ◌∷◌, ◌++◌, length, map, take, refl, sym, ap, subst, arith, Option, Some, None, cond}
use Rattle.std.specs.Prelude.{filter, flat_map, option_and_then, option_map, option_to_list, slice_get, unwrap_or}
use Rattle.std.specs.List.{AllByRecursion, AllZip}
use Rattle.std.proofs.lemmas.List.{map-append}
use Rattle.std.proofs.lemmas.Slice.Zip.{AllZip-long}
use Rattle.p3_base.specs.declared.refusal.Role.TheVariants.{Domain}
use Rattle.p3_base.specs.declared.showing.Reason.{Reason}
use Rattle.p3_base.specs.declared.showing.Showing.{Showing}
use Rattle.p3_base.specs.declared.showing.Subject.{Subject}
use Rattle.p3_base.specs.declared.showing.Subject.TheVariants.{Hard, Soft, Pre}
use Rattle.p3_task.specs.Constraints.{HardModal, hard_list, instances, operators}
use Rattle.p3_task.specs.Explanations.{reasons, shown}
use Rattle.p3_task.specs.Goals.{hard_holds}
use Rattle.p3_task.specs.Metrics.{step_prefs}
use Rattle.p3_task.specs.Plans.{Plan, state_at, visited}
use Rattle.p3_task.specs.States.{State}
use Rattle.p3_task.specs.Validity.{goal_holds}
use Rattle.p3_task.specs.declared.task.Task.{Task}
use Rattle.p3_task.proofs.OnceLemmas.{map_at}
use Rattle.p3_numbers.specs.declared.numbers.Numbers.{Numbers}
use Rattle.p3_numbers.specs.declared.task.NumberedTask.{NumberedTask}
use Rattle.p3_reasons.specs.Decisions.{IsDecision, formula_matter, hard_matter}
use Rattle.p3_reasons.specs.Visits.{IsPlaced, test_after}
use Rattle.p3_reasons.specs.declared.decision.Decision.{Decision}
use Rattle.p3_scenes.specs.Bound.{IsBound, IsBoundPref, IsBoundSoft}
use Rattle.p3_scenes.specs.Questions.{AreSteps, decided, hard_decided}
use Rattle.p3_scenes.specs.Scenes.{Scene, SoftScene}
use Rattle.p3_scenes.proofs.QuestionLaws.{goals-answered, preferences-answered}
use Rattle.p3_accounts.specs.declared.heading.Heading.{Heading}
use Rattle.p3_accounts.specs.declared.operator.OperatorKind.{OperatorKind}
use Rattle.p3_accounts.specs.declared.spot.Spot.{Spot}
use Rattle.p3_accounts.specs.declared.state.Shown.TheVariants.{States}
use Rattle.p3_accounts.specs.declared.subject.Binding.{Binding}
use Rattle.p3_accounts.specs.declared.subject.Subject as heading
use Rattle.p3_accounts.specs.declared.subject.Subject.TheVariants as subject
use Rattle.p3_accounts.specs.Operators.{kind_of}
use Rattle.p3_unmet.specs.Bindings.{paired_with}
use Rattle.p3_unmet.specs.Sketches.{Sketch, heading_of, operator_sketch, subject_of}
use Rattle.p3_unmet.specs.Sources.{spot_of}
use Rattle.p3_unmet.specs.Stages.{AreSketched, IsSketchBy, IsSketchOf, IsStage, IsStepSketch, Sketched, Stage, constraint_at, constraint_sketch, goal_sketches, number_in, preference_at, preference_in, preference_sketch, step_sketch}
use Rattle.p3_unmet.specs.Unmet.{AreGoalHeadings, AreUnmet, IsConstraintHeading, IsHeadingBy, IsHeadingOf, IsNumberOf, IsOperatorHeading, IsPreferenceHeading, IsStepHeading, is_unmet}
use Rattle.p3_unmet.specs.declared.draft.Concern.{Concern}
use Rattle.p3_unmet.specs.declared.draft.Concern.TheVariants as concern
use Rattle.p3_unmet.proofs.BindingLaws.{pairs-bind}
use Rattle.p3_unmet.proofs.HeadingLaws.{all-evident, deciding, operator-shown, same-kind, states-long, zip-found}
use Rattle.p3_unmet.proofs.NamedLaws.{instance-number, step-number}
use Rattle.p3_unmet.proofs.ReasonLaws.{IsHardReason, IsReason, IsReasonBy, IsSoftReason, IsStepReason, all-reasons}

module _ (stage : Stage) (is : IsStage stage) (plan : Plan) (placed : AllZip (IsPlaced stage.task stage.numbered) plan stage.steps) where
  abbrev T : Task
  T = stage.task

  abbrev X : NumberedTask
  X = stage.numbered

  abbrev N : Numbers
  N = stage.numbered.numbers

  abbrev W : List State
  W = visited stage.task plan

  abbrev made : Sketch → Heading
  made sketch = heading_of stage.numbered stage.steps sketch

  are : AreSteps stage.task stage.numbered plan stage.steps
  are = record { well = is.well; numbered = is.numbered; placed = placed }

  -- ---- one reason

  operator-told : (hard : HardModal) (scene : Scene) → IsBound N hard scene → (concern : Concern) (spot at : Option Spot) (of : OperatorKind → List Binding → heading.Subject) → spot ≡ at
      → ((bindings : List Binding) → subject_of concern bindings ≡ of (kind_of hard.modal) bindings) → (showing : Showing) → showing ≡ shown T W hard.env hard.modal
      → IsOperatorHeading T N W at of hard showing (made (operator_sketch concern spot scene showing))
  operator-told hard scene bound concern spot at of same named showing shows = record {
    bindings = paired_with scene.scope scene.slots;
    bound = pairs-bind N scene.scope scene.slots ∙ sym bound.env;
    spot = same;
    subject = named (paired_with scene.scope scene.slots);
    shown = operator-shown T X plan stage.steps are hard scene bound concern spot showing (all-evident T X plan stage.steps are hard scene bound showing shows);
  }

  hard-told : (number : ℕ) (showing : Showing) (found : Option Sketch) → IsHardReason T W number showing → found ≡ constraint_at stage number showing
      → (sketch : Sketch) × (found ≡ Some sketch) × IsConstraintHeading T N stage.texts W number showing (made sketch)
  hard-told number showing found reason at =
      let (scene, there, bound) = zip-found (IsBound N) (hard_list T) stage.hard is.hard number reason.hard reason.at in (
        constraint_sketch stage number showing scene,
        at ∙ ap (option_map (constraint_sketch stage number showing)) there,
        record {
          hard = reason.hard;
          role = scene.role;
          at = reason.at;
          half = ap (λ roles. slice_get roles number) (sym is.hard_in) ∙ map_at (λ (one : Scene). one.role) stage.hard number scene there;
          operator = operator-told reason.hard scene bound (concern.Constraint number (kind_of scene.operator)) _ _ (subject.Constraint number) (ap (option_map (spot_of stage.texts scene.role)) bound.word)
              (λ bindings. ap (λ kind. subject.Constraint number kind bindings) (same-kind T X plan stage.steps are reason.hard scene bound)) showing reason.is;
        },
      )

  soft-told : (number part : ℕ) (showing : Showing) (found : Option Sketch) → IsSoftReason T W number part showing → found ≡ preference_at stage number part showing
      → (sketch : Sketch) × (found ≡ Some sketch) × IsPreferenceHeading T N stage.texts W number part showing (made sketch)
  soft-told number part showing found reason at =
      let (own, there, bound) = zip-found (IsBoundSoft T N) (instances T) stage.soft is.soft number reason.instance reason.at in
      let (scene, here, part_bound) = zip-found (IsBound N) (operators T reason.instance.env reason.instance.body) own.operators bound.operators part reason.hard reason.part_at in (
        preference_sketch stage own showing scene,
        at ∙ ap (option_and_then (preference_in stage part showing)) there ∙ ap (option_map (preference_sketch stage own showing)) here,
        record {
          instance = reason.instance;
          role = own.role;
          hard = reason.hard;
          name = number_in N.preferences own.name;
          at = reason.at;
          half = ap (λ roles. slice_get roles number) (sym is.soft_in) ∙ map_at (λ (one : SoftScene). one.role) stage.soft number own there;
          part_at = reason.part_at;
          named = subst (λ name. IsNumberOf N reason.instance.name (number_in N.preferences name)) (sym bound.name) (instance-number T N is.numbered.names number reason.instance reason.at);
          operator = operator-told reason.hard scene part_bound (concern.Preference (number_in N.preferences own.name) (kind_of scene.operator)) _ _ (subject.Preference (number_in N.preferences own.name)) (λ i. Some (spot_of stage.texts own.role (unwrap_or (part_bound.word i) (bound.at i))))
              (λ bindings. ap (λ kind. subject.Preference (number_in N.preferences own.name) kind bindings) (same-kind T X plan stage.steps are reason.hard scene part_bound)) showing reason.is;
        },
      )

  step-told : (step number : ℕ) (found : Option Sketch) → IsStepReason T plan step number → IsStepSketch stage step number found
      → (sketch : Sketch) × (found ≡ Some sketch) × IsStepHeading T N stage.texts plan step number (made sketch)
  step-told step number found reason sketched =
      let (own_placed, there, own_is) = zip-found (IsPlaced T X) plan stage.steps placed (step - 1) reason.own reason.step_at in
      let (scene, here, bound) = zip-found (IsBoundPref N) (step_prefs T reason.own) sketched.scenes (sketched.are own_placed there reason.own own_is) number reason.pref reason.at in
      let decision : Decision = decided X (test_after X (take (step - 1) stage.steps)) scene.slots scene.condition in (
        step_sketch stage step scene,
        sketched.is ∙ ap (option_map (step_sketch stage step)) here,
        record {
          own = reason.own;
          pref = reason.pref;
          name = number_in N.preferences scene.name;
          bindings = paired_with scene.scope scene.slots;
          step_at = reason.step_at;
          at = reason.at;
          named = subst (λ name. IsNumberOf N reason.pref.name (number_in N.preferences name)) (sym bound.name) (step-number T N is.numbered.names reason.own number reason.pref reason.at);
          bound = pairs-bind N scene.scope scene.slots ∙ sym bound.env;
          spot = ap (λ at. Some (spot_of stage.texts Domain at)) bound.at;
          subject = refl;
          shown = record {
            literals = decision.literals;
            is = refl;
            decide = deciding T X plan stage.steps are (formula_matter T reason.pref.env reason.pref.body) (state_at W (step - 1)) false decision reason.fails
                (preferences-answered T X plan stage.steps are (step - 1) (let long = states-long T plan in let within = reason.within in omega (arith, long, within)) reason.pref scene bound);
          };
        },
      )

  one-told : (of : Subject) (showing : Showing) (found : Option Sketch) → IsReasonBy T plan of showing → IsSketchBy stage of showing found
      → (sketch : Sketch) × (found ≡ Some sketch) × IsHeadingBy T N stage.texts plan of showing (made sketch)
  one-told (Hard number) showing found reason sketched = hard-told number showing found reason sketched
  one-told (Soft number part) showing found reason sketched = soft-told number part showing found reason sketched
  one-told (Pre step number) showing found reason sketched = step-told step number found reason sketched

  -- ---- all of them

  abbrev Told : Reason → Heading → Type 0
  Told reason heading = IsHeadingOf T N stage.texts plan reason heading

  all-told : (list : List Reason) (found : List (Option Sketch)) → AllByRecursion (IsReason T plan) list → AllZip (IsSketchOf stage) list found → AllZip Told (filter is_unmet list) (map made (flat_map option_to_list found))
  all-told [] [] each told = tt
  all-told [] (one ∷ found) each told = absurd told
  all-told (reason ∷ list) [] each told = absurd told
  all-told (reason ∷ list) (one ∷ found) each told = by (is_unmet reason) refl (all-told list found each.1 told.1)
    where
      by : (unmet : Bool) → is_unmet reason ≡ unmet → AllZip Told (filter is_unmet list) (map made (flat_map option_to_list found))
          → AllZip Told (cond unmet (reason ∷ filter is_unmet list) (filter is_unmet list)) (map made (option_to_list one ++ flat_map option_to_list found))
      by true so others =
          let (sketch, same, heading) = one-told reason.subject reason.showing one each.0 (subst (λ unmet. Sketched unmet stage reason one) so told.0) in
          subst (λ of. AllZip Told (reason ∷ filter is_unmet list) (map made (option_to_list of ++ flat_map option_to_list found))) (sym same) (heading, others)
      by false so others =
          subst (λ of. AllZip Told (filter is_unmet list) (map made (option_to_list of ++ flat_map option_to_list found))) (sym (subst (λ unmet. Sketched unmet stage reason one) so told.0)) others

  goal-told : (holds : Bool) → goal_holds T plan ≡ holds → AreGoalHeadings T N plan holds (map made (goal_sketches stage holds))
  unfolding goal_holds
  goal-told true is_so = refl
  goal-told false is_so =
      let long : length plan ≡ length stage.steps = sym (AllZip-long (IsPlaced T X) plan stage.steps placed) in
      let states = states-long T plan in
      let last : length W - 1 ≡ length plan = omega (arith, states) in
      let decision : Decision = hard_decided X (test_after X (take (length stage.steps) stage.steps)) [] X.goal in
      let matter = hard_matter T [] T.problem.goal.body in (
        record {
          spot = refl;
          subject = refl;
          shown = record {
            literals = decision.literals;
            is = λ i. States (record { state = sym long i; operand = None; literals = decision.literals } ∷ []);
            decide = deciding T X plan stage.steps are matter (state_at W (length plan)) false decision (ap (λ n. hard_holds T (state_at W n) [] T.problem.goal.body) (sym last) ∙ is_so)
                (subst (λ n. IsDecision N matter (state_at W n) decision) (sym long) (goals-answered T X plan stage.steps are (length stage.steps) (omega (arith, states, long))));
          };
        },
        refl,
      )

  pub unmet-told : (list : List Reason) (holds : Bool) (sketches : List Sketch) → list ≡ reasons T plan → holds ≡ goal_holds T plan → AreSketched stage (goal_sketches stage holds) list sketches → AreUnmet T N stage.texts plan (map made sketches)
  unmet-told list holds sketches same is_so sketched =
      let others = map made (flat_map option_to_list sketched.found) in
      record {
        goal = map made (goal_sketches stage holds);
        others = others;
        whole = ap (map made) sketched.whole ∙ map-append made (goal_sketches stage holds) (flat_map option_to_list sketched.found);
        goal_told = subst (λ one. AreGoalHeadings T N plan one (map made (goal_sketches stage holds))) is_so (goal-told holds (sym is_so));
        told = subst (λ all. AllZip Told (filter is_unmet all) others) same (all-told list sketched.found (subst (AllByRecursion (IsReason T plan)) (sym same) (all-reasons T plan)) sketched.told);
      }
