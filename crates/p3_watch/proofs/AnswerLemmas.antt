-- What is answered to a line, by what the line has and what following its step tells.
use Rattle.std.proofs.Common.{◌≡◌, ◌∙◌, ℕ, ◌+◌, ◌<◌, ◌≤◌, Bool, true, false, List, [], ◌∷◌, ◌++◌, length, get_or, drop, refl, sym, ap, subst, arith, le-ltb, lt-ltb, length-drop, Option, Some, None}
use Rattle.std.specs.Prelude.{if◌then◌else◌, nat_lt, option_map}
use Rattle.std.proofs.lemmas.List.{length-take}
use Rattle.std.proofs.lemmas.Slice.Zip.{AllZip-long}
use Rattle.p3_base.specs.declared.refusal.Code.TheVariants.{TooManySteps}
use Rattle.p3_base.specs.declared.refusal.Refusal.{Refusal}
use Rattle.p3_task.specs.Plans.{Plan, last_state, visited}
use Rattle.p3_task.specs.PlanTexts.{IsPlanText, refusal, step_limit}
use Rattle.p3_task.specs.StepNumbers.{HasNumber}
use Rattle.p3_task.specs.Validity.{AtStep, Misfit, misfit}
use Rattle.p3_task.specs.Watching.{LineText, Empty, OneStep, Offends, Refused, answer_by, answer_to, line_text, tried}
use Rattle.p3_task.specs.declared.task.Step.{Step}
use Rattle.p3_task.specs.declared.task.Task.{Task}
use Rattle.p3_plans.specs.Lines.{IsLineStep}
use Rattle.p3_plans.specs.declared.line.LineStep.TheVariants as step
use Rattle.p3_plans.specs.declared.reader.PlanStep.{PlanStep}
use Rattle.p3_plans.proofs.PlanLaws.{one_plan_at_most}
use Rattle.p3_types.specs.Finds.{IsFound}
use Rattle.p3_types.specs.declared.finding.Found.{Found}
use Rattle.p3_types.specs.declared.finding.Found.TheVariants as found
use Rattle.p3_ground.specs.PlansByNumber.{AreNumbers}
use Rattle.p3_run.specs.Runs.{Ran, most_steps}
use Rattle.p3_eval.specs.Judged.{NamesMisfitOfFound, TellsOfFound, fault_in, ran_with}
use Rattle.p3_eval.specs.Judging.{IsAskedText}
use Rattle.p3_eval.specs.Runs.{BelongTogether, OfRun}
use Rattle.p3_eval.specs.declared.fault.PlanFault.{PlanFault}
use Rattle.p3_eval.proofs.JudgeLaws.{asked_found}
use Rattle.p3_eval.proofs.JudgeLemmas.{goes_on}
use Rattle.p3_watch.specs.Watching.{Answers, IsAnswered, IsAskedBy, IsTried, IsWithin}
use Rattle.p3_watch.specs.declared.watch.Line.{Line}
use Rattle.p3_watch.specs.declared.watch.Line.TheVariants as line
use Rattle.p3_watch.proofs.OffsetLemmas.{IsTextWithin, text_within}

-- ---- lines, by what they have

module _ (T : Task) (bytes : List ℕ) (old : Ran) where
  blank_by : (text : LineText) → IsLineStep bytes text step.Blank → OfRun T old (λ plan. Answers T plan (answer_by T plan text) old line.Blank)
  blank_by Empty is plan are = record { says = tt; done = are }
  blank_by (Offends offence) is plan are = absurd is
  blank_by (OneStep at own) is plan are = absurd is

  pub blank_is : IsLineStep bytes (line_text bytes) step.Blank → IsAnswered T bytes old old line.Blank
  unfolding answer_to
  blank_is is asked = blank_by (line_text bytes) is

  bad_by : (own : Refusal) (text : LineText) → IsLineStep bytes text (step.Bad own) → OfRun T old (λ plan. Answers T plan (answer_by T plan text) old (line.Refused own))
  bad_by own Empty is plan are = absurd is
  bad_by own (Offends offence) is plan are = record { says = is; done = are }
  bad_by own (OneStep at step) is plan are = absurd is

  pub bad_is : (own : Refusal) → IsLineStep bytes (line_text bytes) (step.Bad own) → IsAnswered T bytes old old (line.Refused own)
  unfolding answer_to
  bad_is own is asked = bad_by own (line_text bytes) is

  module _ (slice : PlanStep) (new : Ran) (told : Line) (tries : (own : Step) → IsPlanText slice.text.now (own ∷ []) → IsTried T slice.offset own old new told) where
    step_by : (text : LineText) → IsLineStep bytes text (step.Step slice) → IsAskedBy T old.task text → OfRun T old (λ plan. Answers T plan (answer_by T plan text) new told)
    step_by Empty is asked plan are = absurd is
    step_by (Offends offence) is asked plan are = absurd is
    step_by (OneStep at own) is asked plan are = subst (λ n. Answers T plan (answer_by T plan (OneStep n own)) new told) is.place (tries own is.spelled asked plan are)

    pub step_is : IsLineStep bytes (line_text bytes) (step.Step slice) → IsAnswered T bytes old new told
    unfolding answer_to
    step_is is asked = step_by (line_text bytes) is asked

-- ---- where it stands

bad_within_by : (bytes : List ℕ) (own : Refusal) (text : LineText) → IsTextWithin (length bytes) text → IsLineStep bytes text (step.Bad own) → own.pos.offset ≤ length bytes
bad_within_by bytes own Empty low is = absurd is
bad_within_by bytes own (OneStep at step) low is = absurd is
bad_within_by bytes own (Offends offence) low is = subst (λ (one : Refusal). one.pos.offset ≤ length bytes) (sym is) low

pub bad_within : (bytes : List ℕ) (own : Refusal) → IsLineStep bytes (line_text bytes) (step.Bad own) → own.pos.offset ≤ length bytes
bad_within bytes own is = bad_within_by bytes own (line_text bytes) (text_within bytes) is

within_more : (least most : ℕ) (told : Line) → least ≤ most → IsWithin least told → IsWithin most told
within_more least most line.Blank low is = tt
within_more least most line.Done low is = tt
within_more least most (line.Invalid fault) low is = tt
within_more least most (line.Refused refusal) low is = omega (arith, low, is)

module _ (bytes : List ℕ) (slice : PlanStep) where
  step_within_by : (text : LineText) → IsTextWithin (length bytes) text → IsLineStep bytes text (step.Step slice) → slice.offset ≤ length bytes
  step_within_by Empty low is = absurd is
  step_within_by (Offends offence) low is = absurd is
  step_within_by (OneStep at own) low is = subst (λ n. n ≤ length bytes) (sym is.place) low

  pub step_within : (told : Line) → IsLineStep bytes (line_text bytes) (step.Step slice) → IsWithin slice.offset told → IsWithin (length bytes) told
  step_within told is low = within_more slice.offset (length bytes) told (step_within_by (line_text bytes) (text_within bytes) is) low

  short_by : (text : LineText) → IsLineStep bytes text (step.Step slice) → length slice.text.now ≤ length bytes
  short_by Empty is = absurd is
  short_by (Offends offence) is = absurd is
  short_by (OneStep at own) is =
      let size = ap length is.slice in
      let taken = length-take (length slice.text.now) (drop slice.offset bytes) in
      let left = length-drop slice.offset bytes in
      omega (arith, size, taken, left)

  -- its text is no longer than the line
  pub step_short : IsLineStep bytes (line_text bytes) (step.Step slice) → length slice.text.now ≤ length bytes
  step_short is = short_by (line_text bytes) is

-- ---- steps

-- one step more, with its number
numbers_more : (T : Task) (plan : Plan) (numbers : List ℕ) (own : Step) (number : ℕ) → AreNumbers T plan numbers → HasNumber T own number → AreNumbers T (plan ++ own ∷ []) (numbers ++ number ∷ [])
numbers_more T [] [] own number are has = (has, tt)
numbers_more T [] (n ∷ numbers) own number are has = absurd are
numbers_more T (first ∷ plan) [] own number are has = absurd are
numbers_more T (first ∷ plan) (n ∷ numbers) own number are has = (are.0, numbers_more T plan numbers own number are.1 has)

module _ (T : Task) (at : ℕ) (own : Step) (old : Ran) where
  long : (plan : Plan) → AreNumbers T plan old.plan → length plan ≡ length old.plan
  long plan are = sym (AllZip-long (HasNumber T) plan old.plan are)

  -- as many are done as a run has at most
  pub full_is : most_steps ≤ length old.plan → IsTried T at own old old (line.Refused (refusal TooManySteps at 1))
  full_is full asked plan are =
      let same = long plan are in
      let no : nat_lt (length plan) step_limit ≡ false = le-ltb (length plan) step_limit (omega (arith, full, same)) in
      subst (λ (room : Bool). Answers T plan (if room then tried own (misfit T (last_state (visited T plan)) own) else Refused (refusal TooManySteps at 1)) old (line.Refused (refusal TooManySteps at 1)))
      (sym no) (record { says = refl; done = are })

  module _ (room : length old.plan < most_steps) (new : Ran) (told : Line) where
    room_is : (plan : Plan) → AreNumbers T plan old.plan → Answers T plan (tried own (misfit T (last_state (visited T plan)) own)) new told → Answers T plan (answer_by T plan (OneStep at own)) new told
    room_is plan are is =
        let same = long plan are in
        let yes : nat_lt (length plan) step_limit ≡ true = lt-ltb (length plan) step_limit (omega (arith, room, same)) in
        subst (λ (inside : Bool). Answers T plan (if inside then tried own (misfit T (last_state (visited T plan)) own) else Refused (refusal TooManySteps at 1)) new told) (sym yes) is

none_told : (number : ℕ) (why : Option Misfit) → None ≡ option_map (AtStep number) why → why ≡ None
none_told number None e = refl
none_told number (Some kind) e = absurd (cc)

record Told (number : ℕ) (fault : PlanFault) (why : Option Misfit) : Type 0 where
  kind : Misfit
  is : why ≡ Some kind
  says : fault_in fault ≡ AtStep number kind

some_told : (number : ℕ) (fault : PlanFault) (why : Option Misfit) → Some (fault_in fault) ≡ option_map (AtStep number) why → Told number fault why
some_told number fault None e = absurd (cc)
some_told number fault (Some kind) e = record { kind = kind; is = refl; says = cc }

-- a step that does not fit changes nothing
pub fault_keeps : (old : Ran) (finds : Found) (fault : PlanFault) → ran_with old finds (Some fault) ≡ old
fault_keeps old (found.Number number) fault = refl
fault_keeps old found.UnknownAction fault = refl
fault_keeps old found.Arguments fault = refl

module _ (T : Task) (at : ℕ) (text : List ℕ) (old new : Ran) (finds : Found) (together : BelongTogether T old.task old.weights) (room : length old.plan < most_steps)
    (known : (own : Step) → IsPlanText text (own ∷ []) → IsFound T own finds) where
  -- what may be asked of the step may be asked of each that has the text
  asked_text : (own : Step) → IsPlanText text (own ∷ []) → IsAskedBy T old.task (OneStep at own) → IsAskedText T old.task text
  asked_text own spelled asked step said number has =
      let same : step ≡ own = ap (λ (plan : Plan). get_or plan 0 step) (one_plan_at_most text (step ∷ []) (own ∷ []) said spelled) in
      asked number (subst (λ (one : Step). HasNumber T one number) same has)

  pub done_is : TellsOfFound old finds None → NamesMisfitOfFound old finds None → new ≡ ran_with old finds None
      → (own : Step) → IsPlanText text (own ∷ []) → IsTried T at own old new line.Done
  done_is tells names same own spelled asked plan are =
      let (number, has, is) = goes_on T old new text finds None together (asked_text own spelled asked) known tells same own spelled plan are in
      let fits = none_told (length plan + 1) _ (names T together plan are (asked_found T old.task own finds asked (known own spelled)) own (known own spelled)) in
      room_is T at own old room new line.Done plan are
      (subst (λ (why : Option Misfit). Answers T plan (tried own why) new line.Done) (sym fits)
      (record {
        says = tt;
        done = subst (AreNumbers T (plan ++ own ∷ [])) (sym (ap (λ (ran : Ran). ran.plan) is)) (numbers_more T plan old.plan own number are has);
      }))

  pub fault_is : (fault : PlanFault) → NamesMisfitOfFound old finds (Some fault) → new ≡ ran_with old finds (Some fault)
      → (own : Step) → IsPlanText text (own ∷ []) → IsTried T at own old new (line.Invalid fault)
  fault_is fault names same own spelled asked plan are =
      let tells = some_told (length plan + 1) fault _ (names T together plan are (asked_found T old.task own finds asked (known own spelled)) own (known own spelled)) in
      room_is T at own old room new (line.Invalid fault) plan are
      (subst (λ (why : Option Misfit). Answers T plan (tried own why) new (line.Invalid fault)) (sym tells.is)
      (record {
        says = tells.says;
        done = subst (AreNumbers T plan) (sym (ap (λ (ran : Ran). ran.plan) (same ∙ fault_keeps old finds fault))) are;
      }))

-- ---- lines whose steps have certain numbers
