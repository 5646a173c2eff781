use Rattle.std.proofs.Common.{◌∙◌, ◌<◌, ◌^◌, List, ℕ, length, sym, ap, subst, arith}
use Rattle.std.specs.Prelude.{replicate}
use Rattle.std.specs.List.{All}
use Rattle.p3_formula.specs.declared.task.GroundStep.{GroundStep}
use Rattle.p3_run.specs.Groups.{Watch, AreNamedBelow, IsCounted}
use Rattle.p3_run.specs.Kept.{HasChangesUpTo, IsRunOf}
use Rattle.p3_run.proofs.TellLaws.{first_named, first_few, first_run}
use Rattle.p3_run.proofs.running.GroundRun.open.Goals as goal

pub tally_of-requires-clause-named : goal.tally_of-requires-clause-named
tally_of-requires-clause-named c =
    subst (λ (by_name : List ℕ). AreNamedBelow (length by_name) c.as_slice.result.now) (sym (c.bounded-by_name.ensures.are ∙ c.items.ensures))
    (subst (λ (list : List Watch). AreNamedBelow (length c.args.weights.now.by_name) list) (sym (c.as_slice.ensures.value ∙ c.in_ok-groups.ensures))
    (first_named c.args.task.now c.args.weights.now c.requires))

pub tally_of-requires-clause-few : goal.tally_of-requires-clause-few
tally_of-requires-clause-few c =
    let l = ap length (c.as_slice.ensures.value ∙ c.in_ok-groups.ensures) in
    let f = first_few c.args.task.now c.args.weights.now c.requires in
    omega (arith, l, f)

pub invariant_of-result : goal.invariant_of-result
invariant_of-result c =
    let G = c.args.task.now in
    let weights = c.args.weights.now in
    let found = c.in_ok-found.found.items in
    let room : All (HasChangesUpTo (length found)) G.steps = subst (λ (steps : List GroundStep). All (HasChangesUpTo (length found)) steps) c.items-2.ensures c.in_ok-found.ensures in
    let by_name_is = c.bounded-by_name.ensures.are ∙ c.items.ensures in
    subst (λ (plan : List ℕ). IsRunOf G weights c.in_ok-readers.readers.items found plan c.in_ok-state.state c.in_ok-groups.groups.items c.in_ok-soft.soft c.in_ok-prefs.prefs 0) (sym c.in_ok-done.ensures)
    (first_run G weights c.requires (subst (λ (list : List ℕ). All (λ (n : ℕ). n < 2 ^ 64) list) c.items.ensures c.bounded-by_name.ensures.small) c.in_ok-readers.readers.items found c.in_ok-state.state c.in_ok-groups.groups.items c.in_ok-soft.soft c.in_ok-prefs.prefs
    c.in_ok-readers.ensures room c.in_ok-state.ensures c.in_ok-groups.ensures
    (subst (λ (list : List Watch). IsCounted weights.by_name list c.in_ok-soft.soft) c.as_slice.ensures.value
    (subst (λ (by_name : List ℕ). IsCounted by_name c.as_slice.result.now c.in_ok-soft.soft) by_name_is c.in_ok-soft.ensures))
    (c.in_ok-prefs.ensures ∙ ap (λ (by_name : List ℕ). record { counts = replicate (length by_name) 0; worth = 0 }) by_name_is))
