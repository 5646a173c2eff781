use Rattle.std.proofs.Common.{◌≡◌, ◌∙◌, ◌-◌, [], ◌∷◌, Some, refl, sym, ap, subst}
use Rattle.std.specs.Prelude.{slice_get}
use Rattle.p3_task.specs.PlanTexts.{IsPlanText}
use Rattle.p3_plans.proofs.SliceLemmas.{slices_are_texts_of_steps}
use Rattle.p3_plans.specs.Laws.{all_of}
use Rattle.p3_plans.specs.Steps.{StepText}
use Rattle.p3_accounts.specs.Spots.{spot_in}
use Rattle.p3_accounts.specs.declared.terms.InputFile.TheVariants as file
use Rattle.p3_reports.specs.Faults.{misfit_of}
use Rattle.p3_inapplicable.specs.Places.{slice_of}
use Rattle.p3_inapplicable.proofs.MisfitLemmas.{misfit-at}
use Rattle.p3_inapplicable.proofs.SplitLemmas.{begins-at}
use Rattle.p3_inapplicable.proofs.WordingLemmas.{text-at}
use Rattle.p3_inapplicable.proofs.heading.step_heading.Goals as goal

pub returns : goal.returns
returns c plan of =
    let text = c.args.text.now in
    let slices = (all_of text).steps in
    let found = misfit-at c.args.checked.now.task plan c.args.number (misfit_of c.args.kind) of.misfit.first in
    let (entry, given, spelled) = text-at slices plan (slices_are_texts_of_steps text plan of.spelled of.few) (c.args.number - 1) found.step found.at in
    let slice = c.step_slice-slice.result in
    let same : slice_of slice ≡ entry = c.step_slice-slice.ensures.given entry (ap (slice_get slices) c.saturating_sub.ensures ∙ given) in
    let own : IsPlanText slice.text.now (found.step ∷ []) = subst (λ (one : StepText). IsPlanText one.text (found.step ∷ [])) (sym same) spelled in
    let words : c.in_ok-words.words ≡ found.step = c.in_ok-words.ensures found.step own in
    let at : slice_get plan (c.args.number - 1) ≡ Some c.in_ok-words.words = found.at ∙ ap Some (sym words) in
    record {
      step = c.in_ok-words.words;
      at = at;
      offset = slice.offset;
      begins = begins-at text plan of.spelled of.few (c.args.number - 1) (slice_of slice) (given ∙ ap Some (sym same));
      spot = ap Some (c.spot.ensures ∙ ap (λ lines. spot_in file.Plan lines slice.offset) c.requires.lines);
      fault = c.in_ok-fault.field-0.fault;
      subject = refl;
      why = c.in_ok-fault.ensures plan at of.misfit;
    }
