-- The laws of the layers put together: the task of a compiled target is a faithful translation, and so is what its texts are read as.
use Rattle.std.proofs.Common.{◌≡◌, ◌∙◌, ℕ, ◌+◌, ◌&&◌, Bool, false, refl, sym, ap, subst, true, List, [], ◌∷◌, map, length, arith, pos, ◌+ℤ◌, ◌-ℤ◌}
use Rattle.std.specs.Prelude.{ℤ}
use Rattle.std.proofs.lemmas.Int.{ints}
use Rattle.std.proofs.lemmas.List.{length-map}
use Rattle.std.proofs.lemmas.Slice.Zip.{AllZip-long}
use Rattle.p3_task.specs.Constraints.{instances}
use Rattle.p3_task.specs.Erased.{erased}
use Rattle.p3_task.specs.Faithful.{Faithful, IsSound, HasOneSource, extra}
use Rattle.p3_task.specs.Lifting.{lift}
use Rattle.p3_task.specs.Names.{Name, is_empty}
use Rattle.p3_task.specs.Metrics.{value, loss, loss_at, base_loss, violated}
use Rattle.p3_task.specs.Offences.{WellFormed}
use Rattle.p3_task.specs.Plans.{Plan, steps_fit}
use Rattle.p3_task.specs.StepNumbers.{HasNumber, HasStepNumbers}
use Rattle.p3_task.specs.Validity.{Valid, is_valid}
use Rattle.p3_task.specs.declared.task.Task.{Task}
use Rattle.p3_task.proofs.OffsetLemmas.{faithful_offset_free}
use Rattle.p3_task.proofs.StepNumberLaws.{steps_have_numbers}
use Rattle.p3_formula.specs.GroundPlans.{GroundPlan, ground_cost, ground_loss}
use Rattle.p3_formula.specs.Targets.{TargetPlan, TargetValid, Compiled, IsSized, IsSoundFor, IsWellNamed, HasOneOrigin, Translates, ground_lift, target_cost}
use Rattle.p3_formula.specs.declared.target.Target.{Target}
use Rattle.p3_formula.specs.declared.target.Weights.{Weights}
use Rattle.p3_formula.specs.declared.task.GroundTask.{GroundTask}
use Rattle.p3_formula.proofs.NamedLaws.{translates, well_named}
use Rattle.p3_ground.specs.PlansByNumber.{AreAsked, AreNumbers, are_bare, names_of}
use Rattle.p3_ground.specs.StandsFor.{StandsFor, StandsBy, SoftStands}
use Rattle.p3_ground.proofs.Asked.{all_are_asked}
use Rattle.p3_ground.proofs.Counts.{counts_agree, losses_alike}
use Rattle.p3_ground.proofs.Extras.{extras_alike}
use Rattle.p3_ground.proofs.Lifts.{lift_alike}
use Rattle.p3_ground.proofs.PlanNumbers.{same_plan, same_numbers, has_numbers, valid_fits}
use Rattle.p3_ground.proofs.Validity.{valid_alike}
use Rattle.p3_metric.specs.Weighed.{HasWeights, IsLinearMetric, IsWeights}
use Rattle.p3_metric.proofs.MentionLaws.{counts_names}
use Rattle.p3_metric.proofs.WeighedLaws.{is_weights}
use Rattle.p3_writer.specs.TaskOf.{task_of}
use Rattle.p3_writer.specs.Texts.{IsDomainTextOf, IsProblemTextOf}
use Rattle.p3_writer.specs.Written.{IsWritten, bare}
use Rattle.p3_writer.proofs.WrittenShape.{is_written}
use Rattle.p3_embed.specs.Plans.{IsEmbeddedPlan}
use Rattle.p3_cli.specs.Embedding.{IsSource}
use Rattle.p3_cli.specs.WrittenText.{HasFaithfulText, HasText}

-- ---- plans of bare steps

bare_named : (names : TargetPlan) → names_of (map bare names) ≡ names
bare_named [] = refl
bare_named (name ∷ names) = ap (λ others. name ∷ others) (bare_named names)

no_args : (args : List Name) → is_empty args ≡ true → [] ≡ args
no_args [] e = refl
no_args (arg ∷ args) e = absurd (cc)

both_parts : (first second : Bool) → (first && second) ≡ true → (first ≡ true) × (second ≡ true)
both_parts true second e = (refl, e)
both_parts false second e = absurd (cc)

bare_again : (plan : Plan) → are_bare plan ≡ true → map bare (names_of plan) ≡ plan
bare_again [] e = refl
bare_again (step ∷ plan) e =
    let both = both_parts (is_empty step.args) (are_bare plan) e in
    λ i. record { action = step.action; args = no_args step.args both.0 i } ∷ bare_again plan both.1 i

bare_bare : (names : TargetPlan) → are_bare (map bare names) ≡ true
bare_bare [] = refl
bare_bare (name ∷ names) = bare_bare names

-- ---- the law

module _ (T : Task) (G : GroundTask) (w : Weights) (X : Target) (well : WellFormed T) (stands : StandsFor T G) (linear : IsLinearMetric T) (has : HasWeights T w) (sized : IsSized X) (named : IsWellNamed X) (translating : Translates G w X) where
  K : HasStepNumbers T
  K = steps_have_numbers T well

  S : StandsBy T stands.atoms G
  S = stands.stands

  asked : (plan : Plan) (numbers : GroundPlan) → AreNumbers T plan numbers → AreAsked T G plan numbers
  asked = all_are_asked T G stands.left_out

  weighed : IsWeights T w
  weighed = is_weights T linear (counts_names T well) w has

  written : IsWritten X
  written = is_written X sized named

  -- what a plan costs above the base
  loss_above : (plan : Plan) (numbers : GroundPlan) → AreNumbers T plan numbers → steps_fit T plan ≡ true → loss T plan ≡ base_loss T +ℤ pos (ground_loss G w numbers)
  unfolding loss
  loss_above plan numbers are fit =
      ap (loss_at T (violated T plan)) (counts_agree T stands.atoms G S K plan numbers (asked plan numbers are) fit).costs
      ∙ weighed.linear (violated T plan) (ground_cost G numbers)
      ∙ ap (λ n. base_loss T +ℤ pos n) (sym (losses_alike T stands.atoms G S K w has.count plan numbers (asked plan numbers are) fit))

  above_base : (l b : ℤ) (n : ℕ) → l ≡ b +ℤ pos n → pos n ≡ l -ℤ b
  above_base l b n e = omega (arith, ints, e)

  -- ---- a valid plan of the written task

  module _ (q : Plan) (valid : Valid (task_of X) q) where
    abbrev names : TargetPlan
    names = names_of q

    target_valid : TargetValid X names
    target_valid = sym (written.valid names) ∙ ap (is_valid (task_of X)) (sym (written.bare_steps q valid)) ∙ valid

    alike : AreNumbers T (lift T q) (ground_lift G names)
    alike = lift_alike T G S.step_count q (ap are_bare (written.bare_steps q valid) ∙ bare_bare names)

    is_sound : IsSoundFor G w X names
    is_sound = translating.sound names target_valid

    lifted_valid : Valid T (lift T q)
    lifted_valid = valid_alike T stands.atoms G S K (lift T q) (ground_lift G names) (asked (lift T q) (ground_lift G names) alike) ∙ is_sound.valid

    fit : steps_fit T (lift T q) ≡ true
    fit = valid_fits T (lift T q) lifted_valid

    sound : IsSound T (task_of X) q
    sound = record {
      valid = lifted_valid;
      cost = ap (value (task_of X)) (written.bare_steps q valid) ∙ written.value names ∙ ap pos is_sound.cost
          ∙ above_base (loss T (lift T q)) (base_loss T) (ground_loss G w (ground_lift G names)) (loss_above (lift T q) (ground_lift G names) alike fit);
    }

    long : length q ≡ length (lift T q) + 1 + length (instances T) + extra T (lift T q)
    long =
        sym (length-map q (λ step. step.action)) ∙ translating.length names target_valid
        ∙ (λ i. AllZip-long (HasNumber T) (lift T q) (ground_lift G names) alike i + 1 + AllZip-long (SoftStands T stands.atoms) (instances T) G.soft S.soft i
        + sym (extras_alike T w has.by_name stands.atoms G S K (lift T q) (ground_lift G names) (asked (lift T q) (ground_lift G names) alike) fit) i)

  -- ---- a valid plan of the task

  only_source : (p : Plan) (numbers : GroundPlan) → AreNumbers T p numbers → (one : HasOneOrigin G X numbers) → (q : Plan) → Valid (task_of X) q → lift T q ≡ p → q ≡ map bare one.origin
  only_source p numbers are one q valid lifts =
      written.bare_steps q valid
      ∙ ap (map bare) (one.only (names q valid) (target_valid q valid)
      (same_numbers T K p (ground_lift G (names q valid)) numbers (subst (λ plan. AreNumbers T plan (ground_lift G (names q valid))) lifts (alike q valid)) are))

  one_source_by : (p : Plan) (numbers : GroundPlan) → AreNumbers T p numbers → HasOneOrigin G X numbers → HasOneSource T (task_of X) p
  one_source_by p numbers are one =
      let source_numbers : ground_lift G (names_of (map bare one.origin)) ≡ numbers = ap (ground_lift G) (bare_named one.origin) ∙ one.lifts in
      record {
        source = map bare one.origin;
        valid = written.valid one.origin ∙ one.valid;
        lifts = same_plan T (lift T (map bare one.origin)) p numbers
            (subst (AreNumbers T (lift T (map bare one.origin))) source_numbers (lift_alike T G S.step_count (map bare one.origin) (bare_bare one.origin))) are;
        only = only_source p numbers are one;
      }

  one_source : (p : Plan) → Valid T p → HasOneSource T (task_of X) p
  one_source p valid =
      let (numbers, are) = has_numbers T K p (valid_fits T p valid) in
      one_source_by p numbers are (translating.one_to_one numbers (sym (valid_alike T stands.atoms G S K p numbers (asked p numbers are)) ∙ valid))

  -- ---- a plan that is embedded

  module _ (p q : Plan) (is : IsEmbeddedPlan T G X p q) where
    abbrev names_in_order : TargetPlan
    names_in_order = names_of q

    abbrev origin : HasOneOrigin G X is.numbers
    origin = record { origin = names_in_order; valid = is.embedded.valid; lifts = is.embedded.lifts; only = is.embedded.only }

    spelled : map bare names_in_order ≡ q
    spelled = bare_again q is.bare

    its_numbers : ground_lift G (names_of (map bare names_in_order)) ≡ is.numbers
    its_numbers = ap (ground_lift G) (bare_named names_in_order) ∙ is.embedded.lifts

    its_lift : lift T (map bare names_in_order) ≡ p
    its_lift =
        same_plan T (lift T (map bare names_in_order)) p is.numbers
        (subst (AreNumbers T (lift T (map bare names_in_order))) its_numbers (lift_alike T G S.step_count (map bare names_in_order) (bare_bare names_in_order))) is.are

    -- it is the one source of the plan
    pub is_source : IsSource T (task_of X) p q
    is_source = record {
      valid = subst (Valid (task_of X)) spelled (written.valid names_in_order ∙ is.embedded.valid);
      lifts = subst (λ source. lift T source ≡ p) spelled its_lift;
      only = λ other valid lifts. only_source p is.numbers is.are origin other valid lifts ∙ spelled;
    }

    pub source_cost : value (task_of X) q ≡ pos (target_cost X names_in_order)
    source_cost = ap (value (task_of X)) (sym spelled) ∙ written.value names_in_order

  pub translation_faithful : Faithful T (task_of X)
  translation_faithful = record {
    well_formed = written.well_formed;
    plain = written.plain;
    variable_free = written.variable_free;
    whole = written.whole;
    sound = sound;
    one_to_one = one_source;
    length = long;
  }

-- a compiled ground task is one
pub compiled_faithful : (T : Task) (G : GroundTask) (w : Weights) (X : Target) → WellFormed T → StandsFor T G → IsLinearMetric T → HasWeights T w → Compiled G w X → Faithful T (task_of X)
compiled_faithful T G w X well stands linear has compiled = translation_faithful T G w X well stands linear has compiled.sized (well_named X compiled.named) (translates G w X compiled)

-- ---- texts

pub text_of_task : (d p : List ℕ) (U : Task) → IsDomainTextOf d U.domain → IsProblemTextOf p U.problem → HasText d p U
text_of_task d p U domain problem =
    let read : Task = record { domain = domain.read; problem = problem.read } in
    let same : erased read ≡ erased U = λ i. record { domain = domain.same i; problem = problem.same i } in (
      read,
      record {
        domain = domain.expression;
        problem = problem.expression;
        domain_balanced = domain.balanced;
        problem_balanced = problem.balanced;
        texts = record { domain = domain.is_text; problem = problem.is_text };
      },
      same,
    )

-- offsets have no meaning
pub faithful_read : (T U read : Task) → erased read ≡ erased U → Faithful T U → Faithful T read
faithful_read T U read same faithful = (faithful_offset_free T read).0 (subst (Faithful (erased T)) (sym same) ((faithful_offset_free T U).1 faithful))

pub texts_faithful : (d p : List ℕ) (T U : Task) → Faithful T U → IsDomainTextOf d U.domain → IsProblemTextOf p U.problem → HasFaithfulText d p T
texts_faithful d p T U faithful domain problem =
    let text = text_of_task d p U domain problem in (text.0, text.1, faithful_read T U text.0 text.2 faithful)
