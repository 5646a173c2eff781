use Rattle.std.proofs.Common.{get_or, sym, subst}
use Rattle.std.proofs.lemmas.Result.{IfOk-weaker}
use Rattle.p3_cli.specs.Flattening.{IsOfWideStep, IsRefusedByName}
use Rattle.p3_cli.proofs.FlatteningLemmas.{first_of_wide_step, first_refused}
use Rattle.p3_cli.proofs.flattening.wide_action.Goals as goal

pub wide_step-requires : goal.wide_step-requires
wide_step-requires c =
    let whole = c.args.whole.now in
    let T = whole.checked.task in
    subst (λ actions. IsOfWideStep T (get_or actions c.args.place c.index-items-place.result).name) (sym c.items.ensures)
    (first_of_wide_step T whole.ground_task whole.weights c.args.target.now c.requires.can c.requires.is c.args.place c.requires.first c.index-items-place.result)

pub returns : goal.returns
returns c =
    let whole = c.args.whole.now in
    let T = whole.checked.task in
    let d = c.index-items-place.result in
    IfOk-weaker c.wide_step.result _ _ (λ refusal by.
    first_refused T whole.ground_task whole.weights c.args.target.now c.requires.can c.requires.is c.args.place c.requires.first d refusal
    (subst (λ actions. IsRefusedByName T (get_or actions c.args.place d).name refusal) c.items.ensures by))
    c.wide_step.ensures
