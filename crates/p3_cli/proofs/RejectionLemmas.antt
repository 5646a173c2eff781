-- There is one reason at most to make nothing of what is read, and none where something is made.
use Rattle.std.proofs.Common.{◌≡◌, ◌∙◌, ℕ, List, Some, None, true, false, sym, ap, subst, inl, inr, refl}
use Rattle.p3_base.specs.declared.refusal.Refusal.{Refusal}
use Rattle.p3_base.specs.declared.refusal.Side.TheVariants.{Source, Written}
use Rattle.p3_tree.specs.Commands.{Command}
use Rattle.p3_tree.specs.declared.command.CommandKind.{CommandKind}
use Rattle.p3_tree.specs.declared.command.CommandKind.TheVariants.{Compile, Lift, Embed, Evaluate, Generate, CompileFlat, Explain, Watch}
use Rattle.p3_task.specs.Lifting.{is_plain, lift}
use Rattle.p3_task.specs.PlanTexts.{plan_offence}
use Rattle.p3_task.specs.Plans.{Plan}
use Rattle.p3_task.specs.Refusals.First.{AreAccepted, IsFirstRefusal}
use Rattle.p3_task.specs.Validity.{Fault, Valid, first_fault, step_fault}
use Rattle.p3_task.specs.declared.task.Task.{Task}
use Rattle.p3_task.proofs.RefusalLaws.{nothing_is_refused}
use Rattle.p3_task.proofs.TextLemmas.{one_task_at_most}
use Rattle.p3_task.proofs.ValidityLemmas.{valid_where_no_fault}
use Rattle.p3_plans.proofs.PlanLaws.{a_plan_where_no_offence, one_plan_at_most}
use Rattle.p3_eval.specs.Judged.{fault_in}
use Rattle.p3_lift.specs.Lifting.{IsLiftFail, IsLifted, loss_above}
use Rattle.p3_lift.specs.declared.answers.Differ.TheVariants as differ
use Rattle.p3_lift.specs.declared.answers.LiftFail.{LiftFail}
use Rattle.p3_lift.specs.declared.answers.LiftFail.TheVariants as fail
use Rattle.p3_lift.specs.declared.answers.Lifted.{Lifted}
use Rattle.p3_reports.specs.declared.fault.Fault as named
use Rattle.p3_reports.specs.declared.refusal.Rejection.{Rejection}
use Rattle.p3_cli.specs.Ending as ending
use Rattle.p3_cli.specs.Ending.{Ending, status_of}
use Rattle.p3_cli.specs.Evaluation.{AreOfPlan, IsInvalidPlan, RejectsPlan, given_plan}
use Rattle.p3_cli.specs.Explaining.{IsUnfitPlan, RejectsExplaining}
use Rattle.p3_cli.specs.Lifting.{AreOfLift, RejectsLift, TellsFail, given_lift}
use Rattle.p3_cli.specs.Product.{MeansBy, RejectsBy, StopsBy}
use Rattle.p3_cli.specs.Refusing.{IsRefusal, RejectsTask}
use Rattle.p3_cli.specs.Texts.{AllTexts, Made, no_texts, sample_texts}
use Rattle.p3_cli.specs.Run.{MayBeShownBy, ShownBy}
use Rattle.p3_cli.specs.Store.{Reading, Texts, TooLong, Absent}

refused_status : (how : Ending) (rejection : Rejection) → how ≡ ending.Refused rejection → status_of how ≡ 2
refused_status how rejection is = ap status_of is

invalid_status : (how : Ending) (fault : named.Fault) → how ≡ ending.Invalid fault → status_of how ≡ 1
invalid_status how fault is = ap status_of is

-- a valid plan has no fault
no_fault : {A : Type 0} (T : Task) (plan : Plan) (fault : Fault) → Valid T plan → first_fault T plan ≡ Some fault → A
no_fault T plan fault valid first = let none : first_fault T plan ≡ None = (valid_where_no_fault T plan).0 valid in absurd (cc)

-- ---- of a task and a plan

module _ (texts : AllTexts) where
  -- of an accepted task and a plan without an offence nothing is refused
  nothing_of_plan : (T : Task) → AreAccepted Source texts.domain texts.problem T → plan_offence texts.plan ≡ None → (r : Refusal) → IsFirstRefusal (given_plan texts) r → ⊥
  nothing_of_plan T accepted free r (inl (inl first)) = accepted.readable r (inl first)
  nothing_of_plan T accepted free r (inl (inr (before, inl second))) = accepted.readable r (inr (before, inl second))
  nothing_of_plan T accepted free r (inl (inr (before, inr (also, inl offence)))) = cc
  nothing_of_plan T accepted free r (inl (inr (before, inr (also, inr none)))) = none.1
  nothing_of_plan T accepted free r (inr (readable, of_task)) = nothing_is_refused Source texts.domain texts.problem T accepted r (inr (accepted.readable, of_task))

  module _ (task : Task) (plan : Plan) (of : AreOfPlan texts.domain texts.problem texts.plan task plan) where
    free : plan_offence texts.plan ≡ None
    free = (a_plan_where_no_offence texts.plan).0 (record { plan = plan; spelled = of.spelled; few = of.few })

    -- a plan is judged only where nothing is refused
    not_refused : {A : Type 0} (how : Ending) → IsRefusal (given_plan texts) texts how → A
    not_refused how said = absurd (nothing_of_plan task of.accepted free said.refusal said.shows)

    not_invalid : Valid task plan → (how : Ending) → IsInvalidPlan texts.domain texts.problem texts.plan how → ⊥
    not_invalid valid how wrong =
        let one : task ≡ wrong.task = one_task_at_most texts.domain texts.problem task wrong.task of.accepted.task.reads wrong.texts.accepted.task.reads in
        let same : plan ≡ wrong.plan = one_plan_at_most texts.plan plan wrong.plan of.spelled wrong.texts.spelled in
        no_fault task plan wrong.fault valid ((λ i. first_fault (one i) (same i)) ∙ wrong.first)

    -- a valid plan is accepted
    plan_accepted : Valid task plan → (how : Ending) → RejectsPlan texts how → ⊥
    plan_accepted valid how (inl refused) = not_refused how refused
    plan_accepted valid how (inr wrong) = not_invalid valid how wrong

    not_unfit : step_fault task plan ≡ None → (how : Ending) → IsUnfitPlan texts.domain texts.problem texts.plan how → ⊥
    not_unfit none how wrong =
        let one : task ≡ wrong.task = one_task_at_most texts.domain texts.problem task wrong.task of.accepted.task.reads wrong.texts.accepted.task.reads in
        let same : plan ≡ wrong.plan = one_plan_at_most texts.plan plan wrong.plan of.spelled wrong.texts.spelled in
        let some : step_fault task plan ≡ Some wrong.unfit.fault = (λ i. step_fault (one i) (same i)) ∙ wrong.unfit.first in cc

    -- a plan whose steps all fit is explained
    fitting_accepted : step_fault task plan ≡ None → (how : Ending) → RejectsExplaining texts how → ⊥
    fitting_accepted fit how (inl refused) = not_refused how refused
    fitting_accepted fit how (inr wrong) = not_unfit fit how wrong

  explained_reason : (how other : Ending) → RejectsExplaining texts how → RejectsExplaining texts other → status_of how ≡ status_of other
  explained_reason how other (inl shown) (inl also) = refused_status how _ shown.says ∙ sym (refused_status other _ also.says)
  explained_reason how other (inr shown) (inr also) = invalid_status how _ shown.unfit.says ∙ sym (invalid_status other _ also.unfit.says)
  explained_reason how other (inl shown) (inr also) = not_refused also.task also.plan also.texts how shown
  explained_reason how other (inr shown) (inl also) = not_refused shown.task shown.plan shown.texts other also

  plan_reason : (how other : Ending) → RejectsPlan texts how → RejectsPlan texts other → status_of how ≡ status_of other
  plan_reason how other (inl shown) (inl also) = refused_status how _ shown.says ∙ sym (refused_status other _ also.says)
  plan_reason how other (inr shown) (inr also) = invalid_status how _ shown.says ∙ sym (invalid_status other _ also.says)
  plan_reason how other (inl shown) (inr also) = not_refused also.task also.plan also.texts how shown
  plan_reason how other (inr shown) (inl also) = not_refused shown.task shown.plan shown.texts other also

-- ---- of two tasks and a plan

module _ (texts : AllTexts) where
  module _ (T U : Task) (plan : Plan) (of : AreOfLift texts T U plan) where
    free_plan : plan_offence texts.plan ≡ None
    free_plan = (a_plan_where_no_offence texts.plan).0 (record { plan = plan; spelled = of.spelled; few = of.few })

    nothing_of_lift : (r : Refusal) → IsFirstRefusal (given_lift texts) r → ⊥
    nothing_of_lift r (inl (inl first)) = of.source.readable r (inl first)
    nothing_of_lift r (inl (inr (before, inl second))) = of.source.readable r (inr (before, inl second))
    nothing_of_lift r (inl (inr (before, inr (also, inl third)))) = of.written.readable r (inl third)
    nothing_of_lift r (inl (inr (before, inr (also, inr (readable, inl fourth))))) = of.written.readable r (inr (readable, inl fourth))
    nothing_of_lift r (inl (inr (before, inr (also, inr (readable, inr (last, inl offence)))))) = let other : None ≡ Some r = sym free_plan ∙ offence in absurd (cc)
    nothing_of_lift r (inl (inr (before, inr (also, inr (readable, inr (last, inr none)))))) = none.1
    nothing_of_lift r (inr (readable, inl of_source)) = nothing_is_refused Source texts.domain texts.problem T of.source r (inr (of.source.readable, inl of_source))
    nothing_of_lift r (inr (readable, inr (spelled, inl of_written))) =
        nothing_is_refused Written texts.written_domain texts.written_problem U of.written r (inr (of.written.readable, inl of_written))
    nothing_of_lift r (inr (readable, inr (spelled, inr none))) = none.1

    not_refused_lift : {A : Type 0} (how : Ending) → IsRefusal (given_lift texts) texts how → A
    not_refused_lift how said = absurd (nothing_of_lift said.refusal said.shows)

    -- what is said of the tasks and the plan of the texts is said of these
    of_these : (T' U' : Task) (plan' : Plan) → AreOfLift texts T' U' plan' → (why : LiftFail) → IsLiftFail T' U' plan' why → IsLiftFail T U plan why
    of_these T' U' plan' other why =
        let one : T' ≡ T = one_task_at_most texts.domain texts.problem T' T other.source.task.reads of.source.task.reads in
        let two : U' ≡ U = one_task_at_most texts.written_domain texts.written_problem U' U other.written.task.reads of.written.task.reads in
        let same : plan' ≡ plan = one_plan_at_most texts.plan plan' plan other.spelled of.spelled in
        λ shown. subst (λ p. IsLiftFail T U p why) same (subst (λ u. IsLiftFail T u plan' why) two (subst (λ t. IsLiftFail t U' plan' why) one shown))

    not_plain : {A : Type 0} → is_plain U ≡ true → is_plain U ≡ false → A
    not_plain plain other = absurd (cc)

    -- a plan that is lifted is lifted for no reason not to be
    not_unlifted : (lifted : Lifted) → IsLifted T U plan lifted → (why : LiftFail) (how : Ending) → IsLiftFail T U plan why → TellsFail why how → ⊥
    not_unlifted lifted is fail.NotPlain how shown says = not_plain is.of.plain shown
    not_unlifted lifted is (fail.Invalid told) how shown says = no_fault U plan (fault_in told) is.of.valid shown.1.0
    not_unlifted lifted is (fail.Mismatch (differ.Fault told)) how shown says = no_fault T (lift T plan) (fault_in told) (subst (Valid T) is.plan is.valid) shown.1.0
    not_unlifted lifted is (fail.Mismatch (differ.Numbers cost loss)) how shown says =
        shown.1.apart (shown.1.cost ∙ sym is.cost ∙ is.loss ∙ ap (loss_above T) is.plan ∙ sym shown.1.loss)
    not_unlifted lifted is fail.NoMemory how shown says = says

    lift_accepted : (lifted : Lifted) → IsLifted T U plan lifted → (how : Ending) → RejectsLift texts how → ⊥
    lift_accepted lifted is how (inl refused) = not_refused_lift how refused
    lift_accepted lifted is how (inr wrong) =
        not_unlifted lifted is wrong.unlifted.why how (of_these wrong.task wrong.written wrong.plan wrong.of wrong.unlifted.why wrong.unlifted.shows) wrong.unlifted.says

  -- whether the plan is not valid for the written task decides about the status
  abbrev fail_status : LiftFail → ℕ
  fail_status (fail.Invalid told) = 1
  fail_status fail.NotPlain = 2
  fail_status (fail.Mismatch other) = 2
  fail_status fail.NoMemory = 5

  told_status : (why : LiftFail) (how : Ending) → TellsFail why how → status_of how ≡ fail_status why
  told_status fail.NotPlain how says = ap status_of says
  told_status (fail.Invalid told) how says = ap status_of says
  told_status (fail.Mismatch other) how says = ap status_of says
  told_status fail.NoMemory how says = absurd says

  fails_alike : (T U : Task) (plan : Plan) (why other : LiftFail) (how end : Ending) → IsLiftFail T U plan why → IsLiftFail T U plan other → TellsFail why how → TellsFail other end → fail_status why ≡ fail_status other
  fails_alike T U plan fail.NoMemory other how end shown also says too = absurd says
  fails_alike T U plan fail.NotPlain fail.NoMemory how end shown also says too = absurd too
  fails_alike T U plan fail.NotPlain fail.NotPlain how end shown also says too = refl
  fails_alike T U plan fail.NotPlain (fail.Mismatch b) how end shown also says too = refl
  fails_alike T U plan fail.NotPlain (fail.Invalid b) how end shown also says too = let plain : is_plain U ≡ true = also.0 in absurd (cc)
  fails_alike T U plan (fail.Invalid a) fail.NoMemory how end shown also says too = absurd too
  fails_alike T U plan (fail.Invalid a) (fail.Invalid b) how end shown also says too = refl
  fails_alike T U plan (fail.Invalid a) fail.NotPlain how end shown also says too = let plain : is_plain U ≡ true = shown.0 in absurd (cc)
  fails_alike T U plan (fail.Invalid a) (fail.Mismatch b) how end shown also says too = no_fault U plan (fault_in a) also.0.valid shown.1.0
  fails_alike T U plan (fail.Mismatch a) fail.NoMemory how end shown also says too = absurd too
  fails_alike T U plan (fail.Mismatch a) fail.NotPlain how end shown also says too = refl
  fails_alike T U plan (fail.Mismatch a) (fail.Mismatch b) how end shown also says too = refl
  fails_alike T U plan (fail.Mismatch a) (fail.Invalid b) how end shown also says too = no_fault U plan (fault_in b) shown.0.valid also.1.0

  lift_reason : (how other : Ending) → RejectsLift texts how → RejectsLift texts other → status_of how ≡ status_of other
  lift_reason how other (inl shown) (inl also) = refused_status how _ shown.says ∙ sym (refused_status other _ also.says)
  lift_reason how other (inl shown) (inr also) = not_refused_lift also.task also.written also.plan also.of how shown
  lift_reason how other (inr shown) (inl also) = not_refused_lift shown.task shown.written shown.plan shown.of other also
  lift_reason how other (inr shown) (inr also) =
      told_status shown.unlifted.why how shown.unlifted.says
      ∙ fails_alike also.task also.written also.plan shown.unlifted.why also.unlifted.why how other
      (of_these also.task also.written also.plan also.of shown.task shown.written shown.plan shown.of shown.unlifted.why shown.unlifted.shows) also.unlifted.shows shown.unlifted.says also.unlifted.says
      ∙ sym (told_status also.unlifted.why other also.unlifted.says)

-- ---- of each command

task_reason : (texts : AllTexts) (how other : Ending) → RejectsTask texts how → RejectsTask texts other → status_of how ≡ status_of other
task_reason texts how other shown also = refused_status how _ shown.says ∙ sym (refused_status other _ also.says)

-- all reasons have one status, and one that may come comes only where none must
stop_reason : (kind : CommandKind) (number : ℕ) (texts : AllTexts) (how other : Ending) → StopsBy kind number texts how → RejectsBy kind number texts other → status_of how ≡ status_of other
stop_reason Compile n texts how other shown also = task_reason texts how other shown also
stop_reason Lift n texts how other shown also = lift_reason texts how other shown also
stop_reason Embed n texts how other shown also = plan_reason texts how other shown also
stop_reason Evaluate n texts how other shown also = plan_reason texts how other shown also
stop_reason Generate n texts how other shown also = plan_reason (sample_texts n) how other shown also
stop_reason CompileFlat n texts how other (inl shown) also = task_reason texts how other shown also
stop_reason CompileFlat n texts how other (inr may) also = absurd (nothing_is_refused Source texts.domain texts.problem may.shows.is.task may.shows.is.accepted also.refusal also.shows)
stop_reason Explain n texts how other shown also = explained_reason texts how other shown also
stop_reason Watch n texts how other shown also = task_reason texts how other shown also

-- what is told has the status of each reason that must come
pub stop_status : (command : Command) (read : Reading) (how other : Ending) → MayBeShownBy command read how → ShownBy command read other → status_of how ≡ status_of other
stop_status command (Texts texts) how other shown also = stop_reason command.kind command.number texts how other shown also
stop_status command (TooLong role) how other shown also = ap status_of (shown ∙ sym also)
stop_status command Absent how other shown also = absurd shown

-- where something is made, there is no reason not to
pub made_accepted : (kind : CommandKind) (number : ℕ) (texts : AllTexts) (made : Made) (report : List ℕ) → MeansBy kind number texts made report → (how : Ending) → RejectsBy kind number texts how → ⊥
made_accepted Compile n texts made report means how shown = nothing_is_refused Source texts.domain texts.problem means.task means.accepted shown.refusal shown.shows
made_accepted Lift n texts made report means how shown = lift_accepted texts means.task means.written means.plan means.of means.lifted means.is how shown
made_accepted Embed n texts made report means how shown = plan_accepted texts means.task means.plan means.texts means.valid how shown
made_accepted Evaluate n texts made report means how shown = plan_accepted texts means.task means.plan means.texts means.valid how shown
made_accepted Generate n texts made report means how shown =
    let of = means.reported in
    let same : record no_texts { domain = made.domain; problem = made.problem; plan = made.plan } ≡ sample_texts n = λ i. record no_texts { domain = means.domain i; problem = means.problem i; plan = means.plan i } in
    plan_accepted (sample_texts n) of.task of.plan (subst (λ (all : AllTexts). AreOfPlan all.domain all.problem all.plan of.task of.plan) same of.of) of.valid how shown
made_accepted CompileFlat n texts made report means how shown = nothing_is_refused Source texts.domain texts.problem means.task means.accepted shown.refusal shown.shows
made_accepted Explain n texts made report means how shown = fitting_accepted texts means.task means.plan means.texts means.explained.fit how shown
made_accepted Watch n texts made report means how shown = nothing_is_refused Source texts.domain texts.problem means.task means.accepted shown.refusal shown.shows
