-- The numbers of preference names in a ground task are those of the names in the task for which it stands.
use Rattle.std.proofs.Common.{◌≡◌, ◌∙◌, ℕ, zero, suc, refl, sym, ap, true, List, [], ◌∷◌, Option, Some, None}
use Rattle.std.specs.Prelude.{option_and_then, position, slice_get, IsSomeAnd, MatchOption}
use Rattle.std.specs.List.{All, AllZip}
use Rattle.std.proofs.lemmas.Bool.{and_parts, true≢false}
use Rattle.std.proofs.lemmas.Slice.Eq.{bytes_eq-Decides}
use Rattle.std.proofs.lemmas.Slice.Zip.{AllZip-left, AllZip-right}
use Rattle.p3_task.specs.Constraints.{Instance, instances}
use Rattle.p3_task.specs.Goals.{StatePref}
use Rattle.p3_task.specs.Metrics.{step_prefs}
use Rattle.p3_task.specs.Names.{Name, same_name}
use Rattle.p3_task.specs.Plans.{Plan, fits, state_after, steps_fit}
use Rattle.p3_task.specs.PreferenceNames.{ordered_names}
use Rattle.p3_task.specs.Explanations.{instance_name, pref_name}
use Rattle.p3_task.specs.StepNumbers.{HasStepNumbers}
use Rattle.p3_task.specs.States as named
use Rattle.p3_task.specs.States.{start}
use Rattle.p3_task.specs.declared.state.Fact.{Fact}
use Rattle.p3_task.specs.declared.task.Step.{Step}
use Rattle.p3_task.specs.declared.task.Task.{Task}
use Rattle.p3_task.proofs.OnceLemmas.{Has, Some-injective}
use Rattle.p3_task.proofs.PlanLemmas.{fit_from, steps_fit-walk}
use Rattle.p3_formula.specs.Forms.{State}
use Rattle.p3_formula.specs.GroundPlans.{GroundPlan, state_by, step_of}
use Rattle.p3_formula.specs.declared.modal.GroundPref.{GroundPref}
use Rattle.p3_formula.specs.declared.modal.GroundSoft.{GroundSoft}
use Rattle.p3_formula.specs.declared.task.GroundStep.{GroundStep}
use Rattle.p3_formula.specs.declared.task.GroundTask.{GroundTask}
use Rattle.p3_types.specs.declared.finding.Found.{Found}
use Rattle.p3_ground.specs.PlansByNumber.{AreAsked}
use Rattle.p3_ground.specs.StandsFor.{IsAsked, IsMadeOf, LeftOutAt, PrefStands, SoftStands, StandsBy, number_of_name}
use Rattle.p3_ground.proofs.Asked.{those_are_asked}
use Rattle.p3_ground.proofs.Mentioned.{instance_name_is_ordered, step_name_is_ordered}
use Rattle.p3_ground.proofs.NameNumbers.{at_place, no_place}
use Rattle.p3_ground.proofs.PlanNumbers.{has_numbers}
use Rattle.p3_ground.proofs.Walk.{Met, begun, kept_where_fits, next_met}
use Rattle.p3_eval.specs.Steps.{AreFirst}
use Rattle.p3_eval.proofs.StepsLemmas.{all_numbered}
use Rattle.p3_explain.specs.Naming.{instance_number, name_numbered, own_number, pref_number}

-- the name of the number of a name that is one of the ordered ones
named_by_number : (T : Task) (name : Option Name) → ((word : Name) → name ≡ Some word → Has (ordered_names T) word) → name_numbered T (number_of_name T name) ≡ name
named_by_number T None own = refl
named_by_number T (Some word) own = by (position (same_name word) (ordered_names T)) refl
  where
    by : (number : Option ℕ) → position (same_name word) (ordered_names T) ≡ number → name_numbered T number ≡ Some word
    by None e = let (k, at) = own word refl in absurd (true≢false (sym ((bytes_eq-Decides word word).1 refl) ∙ no_place (same_name word) (ordered_names T) e k word at))
    by (Some place) e =
        let (found, at, passes) = at_place (same_name word) (ordered_names T) place e in
        at ∙ ap Some (sym ((bytes_eq-Decides word found).0 passes))

-- entry by entry
zipped_names : {A B : Type 0} (T : Task) (Q : A → B → Type 0) (xs : List A) (ys : List B) (name : A → Option Name) (number : B → Option ℕ) → AllZip Q xs ys
    → ((k : ℕ) (x : A) (y : B) → slice_get xs k ≡ Some x → Q x y → name_numbered T (number y) ≡ name x)
    → (k : ℕ) → name_numbered T (option_and_then number (slice_get ys k)) ≡ option_and_then name (slice_get xs k)
zipped_names {A = A} {B = B} T Q xs ys name number zipped each k = by (slice_get xs k) (slice_get ys k) refl (AllZip-left Q xs ys zipped k) (AllZip-right Q xs ys zipped k)
  where
    by : (o : Option A) (p : Option B) → slice_get xs k ≡ o → MatchOption o (Unit {0}) (λ x. IsSomeAnd p (Q x)) → MatchOption p (Unit {0}) (λ y. IsSomeAnd o (λ x. Q x y))
        → name_numbered T (option_and_then number p) ≡ option_and_then name o
    by None None e left right = refl
    by None (Some y) e left right = absurd right
    by (Some x) None e left right = absurd left
    by (Some x) (Some y) e left right = each k x y e left

module _ (T : Task) (atoms : List Fact) (G : GroundTask) (S : StandsBy T atoms G) where
  pub instance_named : (k : ℕ) → name_numbered T (instance_number G k) ≡ instance_name T k
  instance_named k =
      zipped_names T (SoftStands T atoms) (instances T) G.soft (λ (instance : Instance). instance.name) (λ (soft : GroundSoft). soft.name) S.soft
      (λ i instance soft at stands. ap (name_numbered T) stands.name ∙ named_by_number T instance.name (λ word e. instance_name_is_ordered T i instance word at e)) k

  own_named : (step : Step) (made : GroundStep) → IsMadeOf T atoms step made → (k : ℕ) → name_numbered T (own_number k made) ≡ pref_name T step k
  own_named step made is k =
      zipped_names T (PrefStands T atoms) (step_prefs T step) made.prefs (λ (pref : StatePref). pref.name) (λ (own : GroundPref). own.name) is.prefs
      (λ i pref own at stands. ap (name_numbered T) stands.name ∙ named_by_number T pref.name (λ word e. step_name_is_ordered T step i pref word at e)) k

  module _ (K : HasStepNumbers T) (pref : ℕ) where
    named_from : (plan : Plan) (numbers : GroundPlan) → AreAsked T G plan numbers → (s : named.State) (bits : State) → Met T atoms G S K s bits → fit_from T s plan ≡ true
        → (k : ℕ) (step : Step) (number : ℕ) → slice_get plan k ≡ Some step → IsAsked T G step number → name_numbered T (pref_number G number pref) ≡ pref_name T step pref
    named_from [] numbers are s bits met fit k step number at has = absurd (cc)
    named_from (first ∷ plan) [] are s bits met fit k step number at has = absurd are
    named_from (first ∷ plan) (one ∷ numbers) (own, are) s bits met fit zero step number at has =
        let here = ap (fits T s) (sym (Some-injective first step at)) ∙ (and_parts _ _ fit).0 in
        kept_where_fits T atoms G S K (λ made. name_numbered T (option_and_then (own_number pref) made) ≡ pref_name T step pref) s bits number step met has here
        (λ made is. own_named step made is pref)
    named_from (first ∷ plan) (one ∷ numbers) (own, are) s bits met fit (suc k) step number at has =
        let parts = and_parts _ _ fit in
        named_from plan numbers are (state_after T s first) (state_by bits (step_of G one)) (next_met T atoms G S K s bits one first met own parts.0) parts.1 k step number at has

    -- of a plan whose steps fit
    steps_named : (plan : Plan) (numbers : GroundPlan) → AreAsked T G plan numbers → steps_fit T plan ≡ true
        → (k : ℕ) → name_numbered T (option_and_then (λ number. pref_number G number pref) (slice_get numbers k)) ≡ option_and_then (λ step. pref_name T step pref) (slice_get plan k)
    steps_named plan numbers asked fit =
        zipped_names T (IsAsked T G) plan numbers (λ step. pref_name T step pref) (λ number. pref_number G number pref) asked
        (λ k step number at has. named_from plan numbers asked (start T) G.initial (begun T atoms G S K) (sym (steps_fit-walk T plan) ∙ fit) k step number at has)

    -- of the steps of one
    pub first_named : (plan : Plan) (numbers : List ℕ) (next : Option Found) → AreFirst T plan numbers next → All (LeftOutAt T G) numbers → steps_fit T plan ≡ true
        → (k : ℕ) → name_numbered T (option_and_then (λ number. pref_number G number pref) (slice_get numbers k)) ≡ option_and_then (λ step. pref_name T step pref) (slice_get plan k)
    first_named plan numbers next first left fit =
        let (all, are) = has_numbers T K plan fit in
        steps_named plan numbers (those_are_asked T G plan numbers left (all_numbered T K plan all are numbers next first)) fit
