-- The texts of a flattened target, and the step to which an action with too many conditions belongs.
use Rattle.std.proofs.Common.{◌≡◌, ◌∙◌, ◌≤◌, ◌<◌, ◌^◌, ℕ, Bool, true, List, length, get_or, Some, None, sym, subst, arith}
use Rattle.std.specs.Prelude.{unwrap_or, slice_get}
use Rattle.std.specs.List.{find, list_all}
use Rattle.std.proofs.lemmas.List.{get_or_default}
use Rattle.std.proofs.lemmas.List.Quantifiers.{position-Some}
use Rattle.std.proofs.lemmas.Option.{get_or_from_slice_get, slice_get-get_or, slice_get_within}
use Rattle.p3_base.specs.declared.refusal.Code.TheVariants.{FlatTooWide}
use Rattle.p3_base.specs.declared.refusal.Refusal.{Refusal}
use Rattle.p3_base.specs.declared.refusal.Role.TheVariants as role
use Rattle.p3_task.specs.Faithful.{Faithful}
use Rattle.p3_task.specs.Lifting.{steps}
use Rattle.p3_task.specs.Names.{Name}
use Rattle.p3_task.specs.Offences.{WellFormed}
use Rattle.p3_task.specs.Plans.{action_named}
use Rattle.p3_task.specs.Refusals.Places.{refusal_at_word}
use Rattle.p3_task.specs.Sides.{step_count_limit}
use Rattle.p3_task.specs.StepNumbers.{HasNumber, IsOwn}
use Rattle.p3_task.specs.declared.task.Action.{Action}
use Rattle.p3_task.specs.declared.task.Step.{Step}
use Rattle.p3_task.specs.declared.task.Task.{Task}
use Rattle.p3_task.proofs.OnceLemmas.{find_found}
use Rattle.p3_task.proofs.StepNumberLaws.{steps_have_numbers}
use Rattle.p3_formula.specs.Targets.{Compiled, IsSized, IsWellNamed, Translates}
use Rattle.p3_formula.specs.declared.target.Target.{Target}
use Rattle.p3_formula.specs.declared.target.TargetAction.{TargetAction}
use Rattle.p3_formula.specs.declared.target.Weights.{Weights}
use Rattle.p3_formula.specs.declared.task.GroundTask.{GroundTask}
use Rattle.p3_formula.proofs.NamedLaws.{translates, well_named}
use Rattle.p3_limits.proofs.ShortNames.{has_short_name, have_short_names}
use Rattle.p3_flat.specs.Conditions.{is_too_wide}
use Rattle.p3_flat.specs.Flattened.{IsFlattened, first_too_wide}
use Rattle.p3_flat.proofs.FlatLaws.{can_be_flattened, flat_free, flat_sized, flat_translates, flat_well_named}
use Rattle.p3_writer.specs.TaskOf.{task_of}
use Rattle.p3_writer.proofs.UnconditionalLaws.{task_unconditional}
use Rattle.p3_compile.specs.Compiling.{IsCompiledTo}
use Rattle.p3_cli.specs.Flattening.{HasFlatText, IsOfWideStep, IsRefusedByName, IsRefusedFirst}
use Rattle.p3_cli.specs.Translation.{AreTextsOf, CanBeCompiled}
use Rattle.p3_cli.proofs.FaithfulLaws.{faithful_read, text_of_task, translation_faithful}
use Rattle.p3_cli.proofs.UnconditionalLemmas.{same_unconditional}
use Rattle.p3_cli.proofs.TranslationLemmas.{is_target_of}
use Rattle.p3_cli.proofs.WideLaws.{wide_actions_are_of_wide_steps}

-- ---- texts

module _ (T : Task) (G : GroundTask) (w : Weights) (X Y : Target) (can : CanBeCompiled T G w) (compiled : Compiled G w X) (flat : IsFlattened X Y) where
  pub is_sized : IsSized Y
  is_sized = flat_sized X Y flat compiled.sized

  pub is_well_named : IsWellNamed Y
  is_well_named = flat_well_named X Y flat (well_named X compiled.named)

  same_plans : Translates G w Y
  same_plans = flat_translates X Y flat (can_be_flattened X compiled.named) G w (translates G w X compiled)

  faithful : Faithful T (task_of Y)
  faithful = translation_faithful T G w Y can.well_formed (record { atoms = can.grounding.atoms; stands = can.grounding.stands; left_out = can.grounding.left_out }) can.linear can.weighed is_sized is_well_named same_plans

  -- they are those of a faithful translation without conditional effects
  pub has_flat_text : (od op : List ℕ) → AreTextsOf Y od op → HasFlatText od op T
  has_flat_text od op texts =
      let text = text_of_task od op (task_of Y) texts.domain_text texts.problem_text in
      record {
        written = text.0;
        reads = text.1;
        faithful = faithful_read T (task_of Y) text.0 text.2 faithful;
        unconditional = same_unconditional text.0 (task_of Y) text.2 ∙ task_unconditional Y (flat_free X Y flat);
      }

-- ---- the step of an action

module _ (T : Task) (G : GroundTask) (w : Weights) (X : Target) (can : CanBeCompiled T G w) (is : IsCompiledTo G w X) (place : ℕ) (first : first_too_wide X ≡ Some place) where
  -- the first action that has too many conditions is one of a step that may have too many
  pub first_of_wide_step : (d : TargetAction) → IsOfWideStep T (get_or X.actions place d).name
  first_of_wide_step d =
      let found = position-Some is_too_wide X.actions place d first in
      let action = get_or X.actions place d in
      wide_actions_are_of_wide_steps T G w X can.grounding is.lean action (place, found.0, get_or_default X.actions place action d found.0) found.1

  -- and so the refusal of that step is the one of the first such action
  pub first_refused : (d : TargetAction) (refusal : Refusal) → IsRefusedByName T (get_or X.actions place d).name refusal → IsRefusedFirst T refusal
  first_refused d refusal by = record {
    at = by.at;
    first = record {
      target = X;
      of = is_target_of T G w X can is;
      place = place;
      first = first;
      action = get_or X.actions place d;
      stands = slice_get-get_or X.actions place d (position-Some is_too_wide X.actions place d first).0;
      is = by.is;
    };
  }

module _ (T : Task) (name : List ℕ) (of : IsOfWideStep T name) where
  pub number_within : of.number < length (steps T)
  number_within = slice_get_within (steps T) of.number of.step of.has

  pub number_small : length (steps T) ≤ step_count_limit → of.number < 2 ^ 32
  number_small few = omega (arith, number_within, few)

  some_is : {A : Type 0} (x y : A) → Some x ≡ Some y → x ≡ y
  some_is x y e = λ i. unwrap_or (e i) x

  -- the step of the number
  pub same_step : (number : ℕ) (step : Step) → number ≡ of.number → HasNumber T step number → step ≡ of.step
  same_step number step same has = some_is step of.step (sym has ∙ (λ i. slice_get (steps T) (same i)) ∙ of.has)

  own_action : WellFormed T → (step : Step) → step ≡ of.step → IsOwn T step
  own_action well step same = subst (IsOwn T) (sym same) ((steps_have_numbers T well).own of.number of.step of.has)

  -- its action exists
  pub some_action : {A : Type 0} → WellFormed T → (step : Step) → step ≡ of.step → action_named T step.action ≡ None → A
  some_action well step same none = let own = own_action well step same in absurd (let no : None ≡ Some own.action = sym none ∙ own.named in cc)

  -- the refusal stands at its action
  pub refused_by_name : (step : Step) (action : Action) (refusal : Refusal) → step ≡ of.step → action_named T step.action ≡ Some action → refusal ≡ refusal_at_word FlatTooWide role.Domain action.name → IsRefusedByName T name refusal
  refused_by_name step action refusal same named is = record {
    at = record {
      step = of.step;
      own = (of.number, number_within, get_or_from_slice_get (steps T) of.number of.step of.step of.has);
      wide = of.wide;
      action = action;
      named = sym (λ i. action_named T (same i).action) ∙ named;
      is = is;
    };
    is = record { number = of.number; named = of.named; has = of.has };
  }

-- ---- names

short_action : (test : Action → Bool) (actions : List Action) (action : Action) → list_all has_short_name actions ≡ true → find test actions ≡ Some action → length action.name.name < 2 ^ 32
short_action test actions action short found =
    let (k, at, passes) = find_found test actions action found in
    subst (λ (one : Action). length one.name.name < 2 ^ 32) (get_or_from_slice_get actions k action action at) (have_short_names actions short k action (slice_get_within actions k action at))

pub named_short : (T : Task) (name : Name) (action : Action) → list_all has_short_name T.domain.actions ≡ true → action_named T name ≡ Some action → length action.name.name < 2 ^ 32
unfolding action_named
named_short T name action = short_action _ T.domain.actions action
