-- What the marks of a walked plan and the false preferences of its steps come to.
use Rattle.std.proofs.Common.{◌≡◌, ◌∙◌, ℕ, ◌+◌, true, List, ◌++◌, length, refl, sym, ap, subst, arith, Option}
use Rattle.std.specs.Prelude.{IsTrue, option_map}
use Rattle.std.proofs.Props.{props}
use Rattle.std.proofs.Math.Logic.{∥∥₁_elim}
use Rattle.p3_base.specs.declared.showing.Reason.{Reason}
use Rattle.p3_task.specs.Explanations.{reasons}
use Rattle.p3_task.specs.Plans.{Plan, steps_fit}
use Rattle.p3_task.specs.Validity.{first_fault}
use Rattle.p3_task.specs.declared.task.Task.{Task}
use Rattle.p3_task.proofs.StepNumberLaws.{steps_have_numbers}
use Rattle.p3_formula.specs.GroundPlans.{GroundPlan, ground_visited}
use Rattle.p3_formula.specs.declared.task.GroundTask.{GroundTask}
use Rattle.p3_ground.specs.PlansByNumber.{AreAsked}
use Rattle.p3_run.specs.Runs.{Ran}
use Rattle.p3_marks.specs.Marked.{Marked, shown_all}
use Rattle.p3_marks.specs.Reasons.{ground_reasons, operator_reasons, steps_reasons}
use Rattle.p3_marks.proofs.ReasonLaws.{marks_show}
use Rattle.p3_eval.specs.Judged.{HasDone, fault_in}
use Rattle.p3_eval.specs.Runs.{BelongTogether, OfItsPlan}
use Rattle.p3_eval.specs.declared.fault.PlanFault.{PlanFault}
use Rattle.p3_explain.specs.Walked.{IsMarked}
use Rattle.p3_explain.proofs.StandsLaws.{reasons_alike}
use Rattle.p3_explain.proofs.WalkLaws.{visited_long}

reasons-set : IsSet (List Reason)
reasons-set = Prim.hlevel props

whole : (G : GroundTask) (numbers : GroundPlan) → operator_reasons G (ground_visited G numbers) ++ steps_reasons G numbers ≡ ground_reasons G numbers
unfolding ground_reasons
whole G numbers = refl

module _ (T : Task) (ran : Ran) (all : BelongTogether T ran.task ran.weights) (plan : Plan) (are : AreAsked T ran.task plan ran.plan) (fit : steps_fit T plan ≡ true)
    (marks : Marked) (prefs : List Reason) (marked : IsMarked ran marks prefs) where
  pub explained : (count : ℕ) → count ≡ length ran.plan + 1 → (found : List Reason) → found ≡ shown_all ran.task count marks.groups ++ prefs → found ≡ reasons T plan
  explained count long found is =
      is
      ∙ (λ i. shown_all ran.task (states i) marks.groups ++ marked.told i)
      ∙ ap (λ list. list ++ steps_reasons ran.task ran.plan) (marks_show ran.task (ground_visited ran.task ran.plan) marks marked.right)
      ∙ whole ran.task ran.plan
      ∙ ∥∥₁_elim all.stands (reasons-set _ _) (λ stands. reasons_alike T stands.atoms ran.task stands.stands (steps_have_numbers T all.well) plan ran.plan are fit)
    where
      states : count ≡ length (ground_visited ran.task ran.plan)
      states = let v = visited_long ran.task ran.plan in omega (arith, long, v)

-- ---- a plan that was walked from the first state

module _ (T : Task) (plan : Plan) (before now : Ran) (all : BelongTogether T before.task before.weights) (done : HasDone T plan before now) (fits : OfItsPlan now (λ U other. IsTrue (steps_fit U other))) where
  together : BelongTogether T now.task now.weights
  together = subst (λ G. BelongTogether T G now.weights) (sym done.task) (subst (BelongTogether T before.task) (sym done.weights) all)

  pub walked_fit : IsTrue (steps_fit T plan)
  walked_fit = fits T together plan done.numbers

  pub walked_explains : (marks : Marked) (prefs : List Reason) → IsMarked now marks prefs → (found : List Reason) → found ≡ shown_all now.task (length now.plan + 1) marks.groups ++ prefs → found ≡ reasons T plan
  walked_explains marks prefs marked found told = explained T now together plan done.asked walked_fit marks prefs marked (length now.plan + 1) refl found told

  pub walked_faults : (fault : Option PlanFault) → OfItsPlan now (λ U other. first_fault U other ≡ option_map fault_in fault) → first_fault T plan ≡ option_map fault_in fault
  walked_faults fault told = told T together plan done.numbers
