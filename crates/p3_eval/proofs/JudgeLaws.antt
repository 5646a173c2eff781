-- What a step that is tried, or is none of the task's, tells of a plan; and plans judged by their steps.
use Rattle.std.proofs.Common.{◌≡◌, ◌∙◌, ℕ, zero, suc, ◌+◌, ◌<◌, ◌≤◌, refl, sym, ap, subst, Bool, not, List, [], ◌∷◌, ◌++◌, append_assoc, length, get_or, take, arith, Option, Some, None}
use Rattle.std.specs.Prelude.{IsTrue, is_some, option_map, if◌then◌else◌}
use Rattle.std.specs.List.{All, AllZip}
use Rattle.std.proofs.lemmas.List.{append-nil, length-take, take_all, take_more}
use Rattle.std.proofs.lemmas.Slice.Zip.{AllZip-long}
use Rattle.p3_task.specs.Goals.{hard_holds}
use Rattle.p3_task.specs.Plans.{Plan, arguments, cost_by, last_state, steps_fit, visited}
use Rattle.p3_task.specs.States.{State}
use Rattle.p3_task.specs.StepNumbers.{HasNumber}
use Rattle.p3_task.specs.Validity.{Arguments, AtStep, Misfit, NoCost, Precondition, UnknownAction, first_fault, misfit, misfit_by}
use Rattle.p3_task.specs.declared.task.Step.{Step}
use Rattle.p3_task.specs.declared.task.Task.{Task}
use Rattle.p3_types.specs.Finds.{HasOtherArguments, IsFound}
use Rattle.p3_types.specs.declared.finding.Found.{Found}
use Rattle.p3_types.specs.declared.finding.Found.TheVariants as found
use Rattle.p3_formula.specs.declared.task.GroundTask.{GroundTask}
use Rattle.p3_ground.specs.PlansByNumber.{AreAsked, AreNumbers}
use Rattle.p3_ground.specs.StandsFor.{LeftOutAt}
use Rattle.p3_ground.proofs.Asked.{those_are_asked}
use Rattle.p3_run.specs.Runs.{Ran, most_steps}
use Rattle.p3_run.specs.declared.answers.Stepped.{Stepped}
use Rattle.p3_run.specs.declared.answers.Stepped.TheVariants as stepped
use Rattle.p3_eval.specs.Judged.{HasDone, IsAskedFound, IsJudged, NamesMisfitOfFound, TellsOfFound, fault_in, fault_of_step, found_count, ran_with}
use Rattle.p3_eval.specs.Runs.{BelongTogether, IsFaultOfAll, IsStepped, OfItsPlan, OfItsStep}
use Rattle.p3_eval.specs.Steps.{AreFirst, GoesOnAs}
use Rattle.p3_eval.specs.declared.fault.FaultKind.TheVariants as kind
use Rattle.p3_eval.specs.declared.fault.PlanFault.{PlanFault}
use Rattle.p3_eval.proofs.RunLaws.{first_misfit}

pub unknown : (T : Task) (s : State) (step : Step) → IsFound T step found.UnknownAction → misfit T s step ≡ Some UnknownAction
unfolding misfit
unknown T s step none = ap (misfit_by T s step) none

pub other_arguments : (T : Task) (s : State) (step : Step) → HasOtherArguments T step → misfit T s step ≡ Some Arguments
unfolding misfit
other_arguments T s step other =
    ap (misfit_by T s step) other.named
    ∙ ap (λ (fitting : Bool). if not fitting then Some Arguments
    else (if not (hard_holds T s (arguments other.action step) other.action.pre.body) then Some Precondition
    else (if not (is_some (cost_by T step other.action)) then Some NoCost else None))) other.args

module _ (ran : Ran) (place : ℕ) (is : place ≡ length ran.plan + 1) where
  -- steps are counted from 1
  placed : (T : Task) (plan : Plan) → AreNumbers T plan ran.plan → (why : Misfit) → Some (AtStep (length plan + 1) why) ≡ Some (AtStep place why)
  placed T plan are why = ap (λ n. Some (AtStep n why)) (ap (λ n. n + 1) (sym (AllZip-long (HasNumber T) plan ran.plan are)) ∙ sym is)

  pub tells_of_number : (number : ℕ) (answer : Stepped) → OfItsStep ran number (IsStepped answer) → OfItsStep ran number (IsFaultOfAll answer) → TellsOfFound ran (found.Number number) (fault_of_step place answer)
  tells_of_number number stepped.Done fitting told = fitting
  tells_of_number number stepped.Precondition fitting told = λ T all plan are left step has rest. told T all plan are left step has rest Precondition refl ∙ placed T plan are Precondition
  tells_of_number number stepped.NoCost fitting told = λ T all plan are left step has rest. told T all plan are left step has rest NoCost refl ∙ placed T plan are NoCost

  -- why it does not fit, or that it fits
  pub names_of_number : (number : ℕ) (answer : Stepped) → OfItsStep ran number (IsStepped answer) → NamesMisfitOfFound ran (found.Number number) (fault_of_step place answer)
  names_of_number number stepped.Done fitting = λ T all plan are left step has. sym (ap (option_map (AtStep (length plan + 1))) (fitting T all plan are left step has))
  names_of_number number stepped.Precondition fitting = λ T all plan are left step has. sym (ap (option_map (AtStep (length plan + 1))) (fitting T all plan are left step has) ∙ placed T plan are Precondition)
  names_of_number number stepped.NoCost fitting = λ T all plan are left step has. sym (ap (option_map (AtStep (length plan + 1))) (fitting T all plan are left step has) ∙ placed T plan are NoCost)

  pub names_of_unknown : NamesMisfitOfFound ran found.UnknownAction (Some (record { step = place; kind = kind.UnknownAction }))
  names_of_unknown T all plan are left step none = sym (ap (option_map (AtStep (length plan + 1))) (unknown T (last_state (visited T plan)) step none) ∙ placed T plan are UnknownAction)

  pub names_of_arguments : NamesMisfitOfFound ran found.Arguments (Some (record { step = place; kind = kind.Arguments }))
  names_of_arguments T all plan are left step other = sym (ap (option_map (AtStep (length plan + 1))) (other_arguments T (last_state (visited T plan)) step other) ∙ placed T plan are Arguments)

  module _ (fit : OfItsPlan ran (λ T plan. IsTrue (steps_fit T plan))) where
    pub tells_of_unknown : TellsOfFound ran found.UnknownAction (Some (record { step = place; kind = kind.UnknownAction }))
    tells_of_unknown T all plan are left step none rest = first_misfit T plan step rest UnknownAction (fit T all plan are) (unknown T _ step none) ∙ placed T plan are UnknownAction

    pub tells_of_arguments : TellsOfFound ran found.Arguments (Some (record { step = place; kind = kind.Arguments }))
    tells_of_arguments T all plan are left step other rest = first_misfit T plan step rest Arguments (fit T all plan are) (other_arguments T _ step other) ∙ placed T plan are Arguments

-- what may be asked of a step may be asked of what it is found as
pub asked_found : (T : Task) (G : GroundTask) (step : Step) (answer : Found) → ((number : ℕ) → HasNumber T step number → LeftOutAt T G number) → IsFound T step answer → IsAskedFound T G answer
asked_found T G step (found.Number number) asked is = asked number is
asked_found T G step found.UnknownAction asked is = tt
asked_found T G step found.Arguments asked is = tt

-- ---- steps one by one

not_none : {A : Type 0} (o : Option A) (x : A) → o ≡ None → o ≡ Some x → ⊥
not_none None x e f = cc
not_none (Some y) x e f = cc

-- where one of two lists that belong together is cut, the other one is
record IsCut {A B : Type 0} (R : A → B → Type 0) (xs : List A) (ys : List B) (y : B) : Type 0 where
  front : List A
  one : A
  rest : List A
  parts : xs ≡ front ++ one ∷ rest
  before : AllZip R front ys
  at : R one y

cut : {A B : Type 0} (R : A → B → Type 0) (xs : List A) (ys : List B) (place : ℕ) (d : B) → AllZip R xs ys → place < length ys → IsCut R xs (take place ys) (get_or ys place d)
cut R [] [] place d all within = absurd (omega (arith, within))
cut R [] (y ∷ ys) place d all within = absurd all
cut R (x ∷ xs) [] place d all within = absurd all
cut R (x ∷ xs) (y ∷ ys) zero d all within = record { front = []; one = x; rest = xs; parts = refl; before = tt; at = all.0 }
cut R (x ∷ xs) (y ∷ ys) (suc place) d all within =
    let later = cut R xs ys place d all.1 (omega (arith, within)) in
    record {
      front = x ∷ later.front;
      one = later.one;
      rest = later.rest;
      parts = ap (λ list. x ∷ list) later.parts;
      before = (all.0, later.before);
      at = later.at;
    }

-- the plan goes on with a step that is found so
pub record IsNext (T : Task) (plan : Plan) (now : Ran) (answer : Found) : Type 0 where
  pub front : Plan
  pub step : Step
  pub rest : Plan
  pub parts : plan ≡ front ++ step ∷ rest
  pub done : AreNumbers T front now.plan
  pub is : IsFound T step answer
  pub asked : IsAskedFound T now.task answer

-- its fault is that of the plan
pub next_faults : (T : Task) (plan : Plan) (now : Ran) (answer : Found) → BelongTogether T now.task now.weights → IsNext T plan now answer
    → (fault : PlanFault) → TellsOfFound now answer (Some fault) → first_fault T plan ≡ Some (fault_in fault)
next_faults T plan now answer together next fault told = ap (first_fault T) next.parts ∙ told T together next.front next.done next.asked next.step next.is next.rest

pub fault_is_judged : (T : Task) (plan : Plan) (before after : Ran) (fault : PlanFault) → first_fault T plan ≡ Some (fault_in fault) → IsJudged T plan before after (Some fault)
fault_is_judged T plan before after fault is = record { fault = is; done = λ none. absurd (cc) }

-- a run of the same parts that has done the steps of these numbers
abbrev pub with_done : Ran → List ℕ → Ran
with_done ran numbers = record { task = ran.task; weights = ran.weights; plan = numbers }

pub none_done : (ran : Ran) (numbers : List ℕ) → ran.plan ≡ [] → ran ≡ with_done ran (take 0 numbers)
none_done ran numbers none = λ i. record { task = ran.task; weights = ran.weights; plan = none i }

module _ (before now : Ran) (numbers : List ℕ) (place : ℕ) (is : now ≡ with_done before (take place numbers)) where
  abbrev number : ℕ
  number = get_or numbers place 0

  pub one_more : (new : Ran) → place < length numbers → new ≡ ran_with now (found.Number number) None → new ≡ with_done before (take (place + 1) numbers)
  one_more new within goes = goes ∙ ap (λ ran. ran_with ran (found.Number number) None) is ∙ ap (with_done before) (sym (take_more numbers place 0 within))

  long : length now.plan ≤ place
  long = let same = ap (λ (ran : Ran). length ran.plan) is in let taken = length-take place numbers in omega (arith, same, taken)

  pub has_room : (next : Option Found) → found_count numbers next ≤ most_steps → place < length numbers → length now.plan < most_steps
  has_room None few within = let done = long in omega (arith, few, within, done)
  has_room (Some answer) few within = let done = long in omega (arith, few, within, done)

  pub has_room_behind : (next : Option Found) (answer : Found) → next ≡ Some answer → found_count numbers next ≤ most_steps → length now.plan < most_steps
  has_room_behind None answer goes few = absurd (cc)
  has_room_behind (Some other) answer goes few = let same = ap (λ (ran : Ran). length ran.plan) is in let taken = length-take place numbers in omega (arith, few, same, taken)

  module _ (T : Task) (all : BelongTogether T before.task before.weights) (left : All (LeftOutAt T before.task) numbers) (plan : Plan) (next : Option Found) (first : AreFirst T plan numbers next) where
    pub still_together : BelongTogether T now.task now.weights
    still_together = subst (λ (ran : Ran). BelongTogether T ran.task ran.weights) (sym is) all

    pub next_number : place < length numbers → IsNext T plan now (found.Number number)
    next_number within =
        let own = cut (HasNumber T) first.front numbers place 0 first.are within in
        record {
          front = own.front;
          step = own.one;
          rest = own.rest ++ first.rest;
          parts = first.parts ∙ ap (λ list. list ++ first.rest) own.parts ∙ append_assoc own.front (own.one ∷ own.rest) first.rest;
          done = subst (λ (ran : Ran). AreNumbers T own.front ran.plan) (sym is) own.before;
          is = own.at;
          asked = subst (λ (ran : Ran). LeftOutAt T ran.task number) (sym is) (left place 0 within);
        }

    module _ (past : length numbers ≤ place) where
      done_all : now ≡ with_done before numbers
      done_all = is ∙ ap (with_done before) (take_all place numbers past)

      front_done : AreNumbers T first.front now.plan
      front_done = subst (λ (ran : Ran). AreNumbers T first.front ran.plan) (sym done_all) first.are

      -- behind the last step of the plan
      pub has_done : next ≡ None → HasDone T plan before now
      has_done ends =
          let whole : plan ≡ first.front = first.parts ∙ ap (λ list. first.front ++ list) (subst (GoesOnAs T first.rest) ends first.behind) ∙ append-nil first.front in
          let are : AreNumbers T plan numbers = subst (λ list. AreNumbers T list numbers) (sym whole) first.are in
          record {
            task = ap (λ (ran : Ran). ran.task) is;
            weights = ap (λ (ran : Ran). ran.weights) is;
            numbers = subst (λ (ran : Ran). AreNumbers T plan ran.plan) (sym done_all) are;
            asked = subst (λ (ran : Ran). AreAsked T ran.task plan ran.plan) (sym done_all) (those_are_asked T before.task plan numbers left are);
          }

      -- at a step that has no number
      pub next_rest : (answer : Found) → next ≡ Some answer → IsNext T plan now answer
      next_rest answer goes = by answer (subst (GoesOnAs T first.rest) goes first.behind)
        where
          by : (answer : Found) → GoesOnAs T first.rest (Some answer) → IsNext T plan now answer
          by (found.Number own) (step, more, cuts, lacks) = absurd lacks
          by found.UnknownAction (step, more, cuts, lacks) = record {
            front = first.front;
            step = step;
            rest = more;
            parts = first.parts ∙ ap (λ list. first.front ++ list) cuts;
            done = front_done;
            is = lacks;
            asked = tt;
          }
          by found.Arguments (step, more, cuts, lacks) = record {
            front = first.front;
            step = step;
            rest = more;
            parts = first.parts ∙ ap (λ list. first.front ++ list) cuts;
            done = front_done;
            is = lacks;
            asked = tt;
          }

      -- such a step does not fit
      pub never_fits : (answer : Found) → next ≡ Some answer → TellsOfFound now answer None → ⊥
      never_fits answer goes told = by answer (subst (GoesOnAs T first.rest) goes first.behind) told
        where
          by : (answer : Found) → GoesOnAs T first.rest (Some answer) → TellsOfFound now answer None → ⊥
          by (found.Number own) (step, more, cuts, lacks) told = lacks
          by found.UnknownAction (step, more, cuts, lacks) told = not_none _ UnknownAction (told T still_together first.front front_done tt step lacks) (unknown T _ step lacks)
          by found.Arguments (step, more, cuts, lacks) told = not_none _ Arguments (told T still_together first.front front_done tt step lacks) (other_arguments T _ step lacks)

      pub end_is_judged : (fault : Option PlanFault) → next ≡ None → OfItsPlan now (λ T plan. first_fault T plan ≡ option_map fault_in fault) → IsJudged T plan before now fault
      end_is_judged fault ends told = record { fault = told T still_together plan (has_done ends).numbers; done = λ none. has_done ends }

      pub rest_is_judged : (answer : Found) (fault : Option PlanFault) (after : Ran) → next ≡ Some answer → TellsOfFound now answer fault → IsJudged T plan before after fault
      rest_is_judged answer None after goes told = absurd (never_fits answer goes told)
      rest_is_judged answer (Some fault) after goes told = fault_is_judged T plan before after fault (next_faults T plan now answer still_together (next_rest answer goes) fault told)
