use Rattle.std.proofs.Common.{◌≡◌, ◌∙◌, ◌+◌, ◌≤◌, ◌++◌, List, [], ◌∷◌, Option, ℕ, length, take, true, sym, ap, subst, arith}
use Rattle.std.proofs.lemmas.List.{take_more, length-take-le, length-append}
use Rattle.p3_formula.specs.Weighted.{HasNameBelow}
use Rattle.p3_run.specs.Groups.{Watch, is_met, IsCounted}
use Rattle.p3_run.specs.Tallies.{Counted, recounted, CanAdd}
use Rattle.p3_run.proofs.TallyLaws.{small_items, can_add_more, tally_more}
use Rattle.p3_run.proofs.groups.tally_of.Goals as goal

pub recount-requires-clause-more : goal.recount-requires-clause-more
recount-requires-clause-more c =
    let by_name = c.args.by_name.now in
    let groups = c.args.groups.now in
    let index = c.loop-group.group-index in
    let watch : Watch = c.group-item.result in
    let passed : List Watch = take index groups in
    let below : HasNameBelow (length by_name) watch.name = subst (λ (w : Watch). HasNameBelow (length by_name) w.name) (sym c.group-item.is) (c.requires.named index watch c.loop-group-test.true) in
    let few : length (passed ++ watch ∷ []) ≤ 100001 =
    let l = length-append passed (watch ∷ []) in let t = length-take-le index groups (omega (arith, c.loop-group-test.true)) in omega (arith, l, t, c.loop-group-test.true, c.requires.few) in
    λ was is. subst (λ (name : Option ℕ). CanAdd by_name name c.loop-group.tally) (sym c.name.ensures)
    (can_add_more by_name passed watch (sym c.is_met-is.ensures ∙ is) (small_items by_name c.type_inv.by_name) c.loop-group.tally few below c.loop-group.invariant)

pub loop-group-preserved : goal.loop-group-preserved
loop-group-preserved c =
    let by_name = c.args.by_name.now in
    let groups = c.args.groups.now in
    let index = c.loop-group.group-index in
    let watch : Watch = c.group-item.result in
    let passed : List Watch = take index groups in
    let below : HasNameBelow (length by_name) watch.name = subst (λ (w : Watch). HasNameBelow (length by_name) w.name) (sym c.group-item.is) (c.requires.named index watch c.loop-group-test.true) in
    let more : take (index + 1) groups ≡ passed ++ watch ∷ [] = take_more groups index watch c.loop-group-test.true ∙ ap (λ (w : Watch). passed ++ w ∷ []) (sym c.group-item.is) in
    let tally_is : c.recount.new.tally ≡ recounted by_name watch.name true (is_met watch.stages) c.loop-group.tally =
    c.recount.ensures ∙ (λ i. recounted by_name (c.name.ensures i) true (c.is_met-is.ensures i) c.loop-group.tally) in
    subst (λ (list : List Watch). IsCounted by_name list c.recount.new.tally) (sym more)
    (subst (λ (one : Counted). IsCounted by_name (passed ++ watch ∷ []) one) (sym tally_is)
    (tally_more by_name passed watch c.loop-group.tally below c.loop-group.invariant))
