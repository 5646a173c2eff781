use Rattle.std.proofs.Common.{◌∙◌, ◌++◌, [], ◌∷◌, true, false, map, sym, ap}
use Rattle.std.proofs.lemmas.List.{append-nil}
use Rattle.p3_simulation.specs.Naming.{current_name}
use Rattle.p3_compile.proofs.WideSteps.{wide_one}
use Rattle.p3_compile.proofs.begun.push_current.Goals as goal

pub returns-in_ok-push : goal.returns-in_ok-push
returns-in_ok-push c =
    c.in_ok-push.ensures.ok
    ∙ ap (λ name. c.args.names.now ++ name ∷ []) c.in_ok-numbered.ensures
    ∙ ap (λ list. c.args.names.now ++ map current_name list) (sym (wide_one c.args.by_name.now c.args.step.now true (sym c.is_wide.ensures ∙ c.if-is_wide.true)))

pub returns-else-is_wide : goal.returns-else-is_wide
returns-else-is_wide c =
    sym (append-nil c.args.names.now)
    ∙ ap (λ list. c.args.names.now ++ map current_name list) (sym (wide_one c.args.by_name.now c.args.step.now false (sym c.is_wide.ensures ∙ c.if-is_wide.false)))
