use Rattle.std.proofs.Common.{◌≡◌, ◌∙◌, ◌∷◌, [], take, sym, ap}
use Rattle.std.specs.Prelude.{fold}
use Rattle.std.proofs.lemmas.Grind.{fold-append}
use Rattle.std.proofs.lemmas.List.{take_all}
use Rattle.p3_formula.proofs.NodeLemmas.{take-next}
use Rattle.p3_reasons.specs.Effects.{truth_of}
use Rattle.p3_reasons.specs.Outcomes.{Test}
use Rattle.p3_reasons.specs.Visits.{start_test, step_test, test_after}
use Rattle.p3_reasons.proofs.state_facts.StateFacts.after.Goals as goal

pub loop-placed-preserved : goal.loop-placed-preserved
loop-placed-preserved c =
    let X = c.args.task.now in
    let steps = c.args.steps.now in
    let i = c.loop-placed.placed-index in
    let placed = c.placed-item.result in
    let before : truth_of c.loop-placed.facts ≡ test_after X (take i steps) = λ j atom. c.loop-placed.invariant atom j in
    λ atom. c.in_ok-step.ensures atom ∙ ap (λ (test : Test). step_test X test placed atom) before
    ∙ ap (λ (test : Test). test atom) (sym (fold-append (step_test X) (start_test X) (take i steps) (placed ∷ [])) ∙ ap (fold (step_test X) (start_test X)) (take-next steps i placed placed c.loop-placed-test.true c.placed-item.is))

pub returns : goal.returns
returns c = λ atom. c.loop-placed.invariant atom ∙ ap (λ placed. test_after c.args.task.now placed atom) (take_all c.loop-placed.placed-index c.args.steps.now c.loop-placed-test.false)
