use Rattle.std.proofs.Common.{◌∙◌, ◌++◌}
use Rattle.p3_steps.specs.Candidates.{taken_at}
use Rattle.p3_steps.proofs.CandidateLemmas.{taken-more}
use Rattle.p3_steps.proofs.choices.push_all.Goals as goal

pub loop-place-preserved : goal.loop-place-preserved
loop-place-preserved c =
    let test = c.args.test.now in
    let N = test.numbers.now in
    let S = test.statics.now in
    let objects = c.args.objects.now in
    let place = c.loop-place.place in
    let invariant = c.loop-place.invariant in
    record {
      slots = c.in_ok-push_one.ensures.slots ∙ invariant.slots;
      taken =
          c.in_ok-push_one.ensures.taken
          ∙ (λ i. invariant.taken i ++ taken_at N S test.goal.now (invariant.slots i) objects c.args.first place)
          ∙ taken-more N S test.goal.now c.args.slots.now.items objects c.args.first place c.args.taken.now.items;
    }
