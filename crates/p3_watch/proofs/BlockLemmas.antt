-- The block of a line, by what it comes to.
use Rattle.std.proofs.Common.{◌∙◌, ℕ, List, [], ◌∷◌, ◌++◌, refl, sym, ap, subst, Option, Some, None}
use Rattle.std.proofs.lemmas.List.{append-nil}
use Rattle.p3_base.specs.Outside.{IsPut}
use Rattle.p3_base.specs.declared.refusal.Refusal.{Refusal}
use Rattle.p3_tree.specs.Reports.Plans.{fault_line}
use Rattle.p3_tree.specs.Reports.Refusals.{refusal_line}
use Rattle.p3_tree.specs.Reports.Watching.{block, judged_lines, moved}
use Rattle.p3_task.specs.Watching.{Blank, Taken, Unfit, Refused}
use Rattle.p3_task.specs.declared.task.Task.{Task}
use Rattle.p3_reports.specs.Faults.{fault_named, fault_of}
use Rattle.p3_reports.proofs.FaultLemmas.{fault_is}
use Rattle.p3_run.specs.Runs.{Ran}
use Rattle.p3_eval.specs.Judged.{fault_in}
use Rattle.p3_eval.specs.Runs.{OfRun}
use Rattle.p3_eval.specs.declared.fault.PlanFault.{PlanFault}
use Rattle.p3_watch.specs.Watching.{OfAnswer}
use Rattle.p3_watch.specs.declared.watch.Line.TheVariants as line

pub none_put : (told : Option (List ℕ)) → IsPut [] told told
none_put None = refl
none_put (Some written) = ap Some (sym (append-nil written))

module _ (T : Task) (text : List ℕ) (at : ℕ) (ran : Ran) (Holds : List ℕ → Type 0) where
  pub done_block : OfRun T ran (λ plan. Holds (judged_lines T plan)) → OfAnswer T ran line.Done (λ plan answer. Holds (block T text at plan answer))
  done_block holds plan Blank is = absurd is.says
  done_block holds plan (Taken step) is = holds (plan ++ step ∷ []) is.done
  done_block holds plan (Unfit kind) is = absurd is.says
  done_block holds plan (Refused offence) is = absurd is.says

  pub invalid_block : (fault : PlanFault) → Holds (fault_line (fault_of (fault_named (fault_in fault)))) → OfAnswer T ran (line.Invalid fault) (λ plan answer. Holds (block T text at plan answer))
  invalid_block fault holds plan Blank is = absurd is.says
  invalid_block fault holds plan (Taken step) is = absurd is.says
  invalid_block fault holds plan (Unfit kind) is = subst Holds (ap fault_line (fault_is (fault_in fault) ∙ is.says)) holds
  invalid_block fault holds plan (Refused offence) is = absurd is.says

  pub refused_block : (own : Refusal) → Holds (refusal_line text (moved at own)) → OfAnswer T ran (line.Refused own) (λ plan answer. Holds (block T text at plan answer))
  refused_block own holds plan Blank is = absurd is.says
  refused_block own holds plan (Taken step) is = absurd is.says
  refused_block own holds plan (Unfit kind) is = absurd is.says
  refused_block own holds plan (Refused offence) is = subst (λ (one : Refusal). Holds (refusal_line text (moved at one))) is.says holds
