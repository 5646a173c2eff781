use Rattle.std.proofs.Common.{◌≡◌, ◌∙◌, ◌++◌, ◌∷◌, [], true, false, sym, ap}
use Rattle.p3_steps.specs.Possible.{may_yet_begin}
use Rattle.p3_steps.proofs.CandidateLemmas.{none-chosen}
use Rattle.p3_steps.proofs.choices.first_kept.Goals as goal
use Rattle.p3_steps.proofs.choices.first_kept.Goals.{then-branch+in_ok-push, else-branch}

pub returns : goal.returns
returns c =
    let test = c.args.test.now in
    let none : c.as_slice.result.now ≡ [] = c.as_slice.ensures.value ∙ c.new-slots.ensures.items in
    let may : may_yet_begin test.numbers.now test.statics.now [] test.goal.now ≡ c.in_ok-may_yet_begin.field-0 =
    ap (λ slots. may_yet_begin test.numbers.now test.statics.now slots test.goal.now) (sym none) ∙ sym c.in_ok-may_yet_begin.ensures
    in
    elim c.if-branch.branch [
      | then-branch+in_ok-push w ↦ ap (λ kept. kept.items) w.kept-is ∙ w.in_ok-push.ensures.items ∙ ap (λ front. front ++ 0 ∷ []) c.new-kept.ensures.items
          ∙ none-chosen test.numbers.now test.statics.now test.goal.now true (may ∙ w.if-branch.true)
      | else-branch w ↦ ap (λ kept. kept.items) w.kept-is ∙ c.new-kept.ensures.items ∙ none-chosen test.numbers.now test.statics.now test.goal.now false (may ∙ w.if-branch.false)
    ]
