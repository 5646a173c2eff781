-- What is told of a plan, by its parts.
use Rattle.std.proofs.Common.{arith, ◌≡◌, ◌<◌, ℕ, zero, suc, List, [], ◌∷◌, length, refl, sym, subst}
use Rattle.std.specs.Prelude.{is_none}
use Rattle.std.specs.List.{All, AllZip}
use Rattle.std.proofs.lemmas.Option.{slice_get_within}
use Rattle.p3_task.specs.Lifting.{steps}
use Rattle.p3_task.specs.Plans.{Plan}
use Rattle.p3_task.specs.StepNumbers.{HasNumber}
use Rattle.p3_task.specs.declared.task.Task.{Task}
use Rattle.p3_plans.specs.Laws.{HasPlan}
use Rattle.p3_plans.proofs.PlanLaws.{a_plan_where_no_offence}
use Rattle.p3_numbers.specs.Tasks.{IsNumberedTask}
use Rattle.p3_types.specs.declared.checked.Checked.{Checked}
use Rattle.p3_reasons.specs.Visits.{IsPlaced}
use Rattle.p3_reasons.specs.declared.visited.PlacedStep.{PlacedStep}
use Rattle.p3_accounts.specs.Accounts.{account_text}
use Rattle.p3_accounts.specs.Vocabularies.{vocabulary}
use Rattle.p3_accounts.specs.declared.account.Account.{Account}
use Rattle.p3_accounts.specs.declared.terms.Terms.{Terms}
use Rattle.p3_eval.specs.declared.steps.Steps.{Steps}
use Rattle.p3_cli.specs.Texts.{AllTexts}
use Rattle.p3_findings.specs.Accounts.{IsAccountOf}
use Rattle.p3_why.specs.Accounts.{AreGiven, IsToldOfPlan, name_of, read_of}

-- steps that have numbers have those of steps of the task
pub numbers_within : (T : Task) (front : Plan) (numbers : List ℕ) → AllZip (HasNumber T) front numbers → All (λ number. number < length (steps T)) numbers
numbers_within T [] [] are = λ place other less. absurd (omega (arith, less))
numbers_within T [] (number ∷ numbers) are = absurd are
numbers_within T (step ∷ front) [] are = absurd are
numbers_within T (step ∷ front) (number ∷ numbers) are = by (numbers_within T front numbers are.1)
  where
    by : All (λ number. number < length (steps T)) numbers → All (λ number. number < length (steps T)) (number ∷ numbers)
    by rest zero other less = slice_get_within (steps T) number step are.0
    by rest (suc place) other less = rest place other (omega (arith, less))

-- what the words of an account of the task and of these steps stand for
pub record AreTerms (names : List (List ℕ)) (checked : Checked) (placed : List PlacedStep) (terms : Terms) : Type 0 where
  pub domain : terms.domain.now ≡ name_of names 0
  pub problem : terms.problem.now ≡ name_of names 1
  pub plan : terms.plan.now ≡ name_of names 2
  pub actions : terms.actions.now ≡ checked.task.domain.actions
  pub numbers : terms.numbers.now ≡ checked.numbered.numbers
  pub numbered : IsNumberedTask checked.task checked.numbered
  pub steps : terms.steps.now ≡ placed

module _ (names : List (List ℕ)) (texts : AllTexts) (own : Checked) (of : Steps) (given : AreGiven own.task texts of) where
  its : HasPlan texts.plan
  its = (a_plan_where_no_offence texts.plan).1 given.has.free

  -- the numbers of the steps are those of steps of the task
  pub within : (checked : Checked) → checked ≡ own → (numbers : List ℕ) → numbers ≡ of.numbers.items → All (λ number. number < length (steps checked.task)) numbers
  within checked same numbers are =
      let first = given.has.are its.plan its.spelled in
      subst (λ (checked : Checked). All (λ number. number < length (steps checked.task)) numbers) (sym same)
      (subst (λ list. All (λ number. number < length (steps own.task)) list) (sym are) (numbers_within own.task first.front of.numbers.items first.are))

  module _ (placed : List PlacedStep) (terms : Terms) (account : Account) (is : IsAccountOf own.task own.numbered (read_of texts) account) where
    told_by : AreTerms names own placed terms → ((plan : Plan) → AllZip (HasNumber own.task) plan of.numbers.items → AllZip (IsPlaced own.task own.numbered) plan placed)
        → IsToldOfPlan names texts (account_text (vocabulary terms) account) (is_none account.verdict)
    told_by words are_placed =
        let first = given.has.are its.plan its.spelled in
        record {
          task = own.task;
          plan = its.plan;
          of = record { accepted = given.accepted; spelled = its.spelled; few = its.few };
          numbered = own.numbered;
          is_numbered = words.numbered;
          words = vocabulary terms;
          vocabulary = record {
            domain = words.domain;
            problem = words.problem;
            plan = words.plan;
            actions = words.actions;
            numbers = words.numbers;
            front = first.front;
            rest = first.rest;
            parts = first.parts;
            steps = subst (λ list. AllZip (IsPlaced own.task own.numbered) first.front list) (sym words.steps) (are_placed first.front first.are);
          };
          account = account;
          is = is its.plan its.spelled;
          told = refl;
          says = refl;
        }

    -- by the task as it was lent
    pub told : (checked : Checked) → checked ≡ own → (numbers : List ℕ) → numbers ≡ of.numbers.items → AreTerms names checked placed terms
        → ((plan : Plan) → AllZip (HasNumber checked.task) plan numbers → AllZip (IsPlaced checked.task checked.numbered) plan placed)
        → IsToldOfPlan names texts (account_text (vocabulary terms) account) (is_none account.verdict)
    told checked same numbers are words are_placed =
        told_by (subst (λ (checked : Checked). AreTerms names checked placed terms) same words)
        (subst (λ list. (plan : Plan) → AllZip (HasNumber own.task) plan list → AllZip (IsPlaced own.task own.numbered) plan placed) are
        (subst (λ (checked : Checked). (plan : Plan) → AllZip (HasNumber checked.task) plan numbers → AllZip (IsPlaced checked.task checked.numbered) plan placed) same are_placed))
