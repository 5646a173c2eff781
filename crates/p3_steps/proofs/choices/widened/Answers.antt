use Rattle.std.proofs.Common.{◌≡◌, ◌∙◌, length, ap, sym, subst}
use Rattle.std.specs.List.{All}
use Rattle.p3_steps.specs.Candidates.{ArePlaces}
use Rattle.p3_steps.specs.Links.{Tells}
use Rattle.p3_steps.proofs.CandidateLemmas.{choice-length}
use Rattle.p3_steps.proofs.PlaceLemmas.{when-lent}
use Rattle.p3_steps.proofs.choices.widened.Goals as goal

pub push_behind-requires-clause-links : goal.push_behind-requires-clause-links
push_behind-requires-clause-links c =
    let test = c.args.test.now in
    let size : length c.place_choice.new.slots.items ≡ length c.args.before.now = ap length c.in_ok-place_choice.ensures ∙ choice-length test.numbers.now c.args.before.now _ in
    subst (All (Tells test.numbers.now test.statics.now test.goal.now (length c.place_choice.new.slots.items))) (sym c.as_slice.ensures.value)
    (subst (λ n. All (Tells test.numbers.now test.statics.now test.goal.now n) c.in_ok-links.links.items) (sym size) c.in_ok-links.ensures)

pub push_behind-requires-clause-places : goal.push_behind-requires-clause-places
push_behind-requires-clause-places c =
    let all = length c.args.test.now.numbers.now.objects in
    let objects = c.args.objects.now in
    when-lent _ (λ places. ArePlaces all objects places.items) (λ those. ArePlaces all objects those.now) (λ places those given are. subst (ArePlaces all objects) (sym given.0) are) c.in_ok-useful.useful c.as_deref-places.result
    c.as_deref-places.ensures.cases c.in_ok-useful.ensures
