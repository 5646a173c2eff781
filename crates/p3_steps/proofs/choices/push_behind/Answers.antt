use Rattle.std.proofs.Common.{◌∙◌, ◌++◌, length, ap, subst}
use Rattle.std.specs.Prelude.{flat_map, IfSome}
use Rattle.std.proofs.lemmas.Result.{IfOk-equal}
use Rattle.p3_steps.specs.Candidates.{ArePlaces, RulesOut, taken_at}
use Rattle.p3_steps.proofs.PlaceLemmas.{taken-found}
use Rattle.p3_steps.proofs.choices.push_behind.Goals as goal

pub returns : goal.returns
returns c =
    let test = c.args.test.now in
    let N = test.numbers.now in
    let S = test.statics.now in
    let slots = c.args.slots.now.items in
    let objects = c.args.objects.now in
    let row = c.in-Some-2.row.now in
    let places = c.in-Some.places.now in
    let are : ArePlaces (length N.objects) objects places = subst (λ one. IfSome one (λ those. ArePlaces (length N.objects) objects those.now)) c.in-Some.is c.requires.places in
    let out : RulesOut N S test.goal.now slots row =
    subst (λ those. RulesOut N S test.goal.now those row) c.as_slice.ensures.value (subst (λ one. IfSome one (λ those. RulesOut N S test.goal.now c.as_slice.result.now those.now)) c.in-Some-2.is c.in_ok-row.ensures)
    in
    IfOk-equal c.push_found.result _ _ _ c.push_found.ensures
    (ap (λ more. c.args.taken.now.items ++ more)
    (ap (flat_map (taken_at N S test.goal.now slots objects c.args.first)) c.as_slice-2.ensures.value
    ∙ taken-found N S test.goal.now slots objects row places c.find_places.new.found.items are out c.in_ok-find_places.ensures.within c.in_ok-find_places.ensures.all c.args.first c.in_ok-find_places.ensures.rising))
