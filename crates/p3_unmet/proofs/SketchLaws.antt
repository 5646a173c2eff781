-- Headings that take their answers from the front of all answers have each its own.
use Rattle.std.proofs.Common.{◌≡◌, ◌∙◌, List, [], ◌∷◌, ◌++◌, length, map, drop, refl, sym, ap, arith, append_assoc}
use Rattle.std.specs.Prelude.{flat_map, if◌then◌else◌, option_map, option_to_list, slice_get}
use Rattle.std.proofs.lemmas.List.{length-map}
use Rattle.std.proofs.Math.Seq.{drop-append_seam}
use Rattle.p3_numbers.specs.declared.task.NumberedTask.{NumberedTask}
use Rattle.p3_reasons.specs.declared.decision.Decision.{Decision}
use Rattle.p3_reasons.specs.declared.visited.PlacedStep.{PlacedStep}
use Rattle.p3_accounts.specs.declared.state.Shown.TheVariants.{Nowhere, States}
use Rattle.p3_accounts.specs.declared.state.ShownState.{ShownState}
use Rattle.p3_unmet.specs.Sketches.{Inquiry, Sketch, decision_in, decisions_of, heading_of, heading_with, headings_with, state_with, states_with}

-- ---- answers

-- ---- states

-- answers behind the last one are not looked at
states-front : (inquiries : List Inquiry) (own more : List Decision) → length own ≡ length inquiries → states_with inquiries (own ++ more) ≡ states_with inquiries own
states-front [] own more long = refl
states-front (inquiry ∷ inquiries) [] more long = absurd (omega arith)
states-front (inquiry ∷ inquiries) (decision ∷ own) more long = ap (λ rest. state_with inquiry decision ∷ rest) (states-front inquiries own more (omega arith))

-- one state takes the answer in front, where there is one
states-next : (inquiry : Inquiry) (inquiries : List Inquiry) (answers : List Decision)
    → states_with (inquiry ∷ inquiries) answers ≡ option_to_list (option_map (state_with inquiry) (slice_get answers 0)) ++ states_with inquiries (drop 1 answers)
states-next inquiry [] [] = refl
states-next inquiry (other ∷ inquiries) [] = refl
states-next inquiry inquiries (decision ∷ answers) = refl

-- a state more, of those that were asked about
pub states-more : (all left : List Inquiry) (inquiry : Inquiry) (first answers : List Decision) (states : List ShownState)
    → states ++ states_with (inquiry ∷ left) answers ≡ states_with all first
    → (states ++ option_to_list (option_map (state_with inquiry) (slice_get answers 0))) ++ states_with left (drop 1 answers) ≡ states_with all first
states-more all left inquiry first answers states so_far =
    append_assoc states _ _ ∙ ap (λ rest. states ++ rest) (sym (states-next inquiry left answers)) ∙ so_far

-- ---- headings

heading-front : (sketch : Sketch) (own more : List Decision) → length own ≡ length sketch.inquiries → heading_with sketch (own ++ more) ≡ heading_with sketch own
heading-front sketch own more long = ap (λ (states : List ShownState). record { spot = sketch.spot; subject = sketch.subject; shown = if sketch.nowhere then Nowhere else States states }) (states-front sketch.inquiries own more long)

module _ (X : NumberedTask) (steps : List PlacedStep) where
  own-count : (sketch : Sketch) → length (decisions_of X steps sketch) ≡ length sketch.inquiries
  own-count sketch = length-map sketch.inquiries (decision_in X steps sketch.slots)

  own-left : (sketch : Sketch) (more : List Decision) → drop (length sketch.inquiries) (decisions_of X steps sketch ++ more) ≡ more
  own-left sketch more = ap (λ count. drop count (decisions_of X steps sketch ++ more)) (sym (own-count sketch)) ∙ drop-append_seam (decisions_of X steps sketch) more

  pub headings-told : (sketches : List Sketch) → headings_with sketches (flat_map (decisions_of X steps) sketches) ≡ map (heading_of X steps) sketches
  headings-told [] = refl
  headings-told (sketch ∷ sketches) =
      let more = flat_map (decisions_of X steps) sketches in
      (λ i. heading-front sketch (decisions_of X steps sketch) more (own-count sketch) i ∷ headings_with sketches (own-left sketch more i))
      ∙ ap (λ rest. heading_of X steps sketch ∷ rest) (headings-told sketches)
