use Rattle.std.proofs.Common.{◌≡◌, ◌∙◌, ◌+◌, List, ◌∷◌, ◌++◌, drop, map, sym, ap, subst}
use Rattle.std.specs.Prelude.{option_map, option_to_list}
use Rattle.std.proofs.lemmas.List.{drop-drop, drop_more}
use Rattle.p3_unmet.specs.Sketches.{seen_inquiry, state_with, states_with}
use Rattle.p3_unmet.specs.declared.draft.Inquiry.{Inquiry}
use Rattle.p3_unmet.proofs.SketchLaws.{states-more}
use Rattle.p3_unmet.proofs.telling.shown_states.Goals as goal

pub loop-inquiry-preserved : goal.loop-inquiry-preserved
loop-inquiry-preserved c =
    let all = c.args.inquiries.now in
    let first = c.args.answers.now in
    let k = c.loop-inquiry.inquiry-index in
    let inquiry = c.inquiry-item.result in
    let states = c.loop-inquiry.states in
    let cut : drop k all ≡ inquiry ∷ drop (k + 1) all = drop_more all k inquiry c.loop-inquiry-test.true ∙ ap (λ (one : Inquiry). one ∷ drop (k + 1) all) (sym c.inquiry-item.is) in
    let left = map seen_inquiry (drop (k + 1) all) in
    record {
      states = (λ i. c.in_ok-push_state.ensures i ++ states_with left c.next-answer.new.self)
          ∙ (λ i. (states ++ option_to_list (option_map (state_with (seen_inquiry inquiry)) (c.next-answer.ensures.value i))) ++ states_with left (c.next-answer.ensures.left i))
          ∙ states-more (map seen_inquiry all) left (seen_inquiry inquiry) first c.loop-inquiry.answers states
          (subst (λ (list : List Inquiry). states ++ states_with (map seen_inquiry list) c.loop-inquiry.answers ≡ states_with (map seen_inquiry all) first) cut c.loop-inquiry.invariant.states);
      left = c.next-answer.ensures.left ∙ ap (drop 1) c.loop-inquiry.invariant.left ∙ drop-drop 1 k first;
    }
