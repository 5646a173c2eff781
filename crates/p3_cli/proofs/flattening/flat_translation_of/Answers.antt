use Rattle.std.proofs.Common.{sym, subst}
use Rattle.p3_flat.proofs.FlatLaws.{can_be_flattened}
use Rattle.p3_compile.specs.Compiling.{IsCompiledTo}
use Rattle.p3_cli.specs.Translation.{CanBeCompiled}
use Rattle.p3_cli.proofs.FlatteningLemmas.{has_flat_text, is_sized, is_well_named}
use Rattle.p3_cli.proofs.flattening.flat_translation_of.Goals as goal

pub flatten-requires : goal.flatten-requires
flatten-requires c = can_be_flattened c.in_ok-target.target c.in_ok-target.ensures.compiled.named

pub written_flat-requires-clause-sized : goal.written_flat-requires-clause-sized
written_flat-requires-clause-sized c =
    let whole = c.args.whole.now in
    let T = whole.checked.task in
    let G = c.ground_task.result.now in
    let w = c.weights.result.now in
    let can : CanBeCompiled T G w = subst (λ ground. CanBeCompiled T ground w) (sym c.ground_task.ensures) (subst (λ weights. CanBeCompiled T whole.ground_task weights) (sym c.weights.ensures.weights) c.requires) in
    is_sized T G w c.in_ok-target.target c.in-Ok.flat can c.in_ok-target.ensures.compiled c.in-Ok.ensures.flat

pub written_flat-requires-clause-named : goal.written_flat-requires-clause-named
written_flat-requires-clause-named c =
    let whole = c.args.whole.now in
    let T = whole.checked.task in
    let G = c.ground_task.result.now in
    let w = c.weights.result.now in
    let can : CanBeCompiled T G w = subst (λ ground. CanBeCompiled T ground w) (sym c.ground_task.ensures) (subst (λ weights. CanBeCompiled T whole.ground_task weights) (sym c.weights.ensures.weights) c.requires) in
    is_well_named T G w c.in_ok-target.target c.in-Ok.flat can c.in_ok-target.ensures.compiled c.in-Ok.ensures.flat

pub returns-in-Ok-clause-text : goal.returns-in-Ok-clause-text
returns-in-Ok-clause-text c =
    let whole = c.args.whole.now in
    let T = whole.checked.task in
    let G = c.ground_task.result.now in
    let w = c.weights.result.now in
    let can : CanBeCompiled T G w = subst (λ ground. CanBeCompiled T ground w) (sym c.ground_task.ensures) (subst (λ weights. CanBeCompiled T whole.ground_task weights) (sym c.weights.ensures.weights) c.requires) in
    let made = c.in_ok-written_flat-in-Ok in
    has_flat_text T G w c.in_ok-target.target c.in-Ok.flat can c.in_ok-target.ensures.compiled c.in-Ok.ensures.flat made.field-0.made.domain.items made.field-0.made.problem.items made.ensures.text

pub wide_action-requires-clause-is : goal.wide_action-requires-clause-is
wide_action-requires-clause-is c =
    let whole = c.args.whole.now in
    let target = c.in_ok-target in
    let made : IsCompiledTo c.ground_task.result.now c.weights.result.now target.target = record { compiled = target.ensures.compiled; tidy = target.ensures.tidy; lean = target.ensures.lean; assembled = target.ensures.assembled } in
    subst (λ ground. IsCompiledTo ground whole.weights target.target) c.ground_task.ensures (subst (λ weights. IsCompiledTo c.ground_task.result.now weights target.target) c.weights.ensures.weights made)
