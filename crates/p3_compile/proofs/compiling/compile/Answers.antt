use Rattle.std.proofs.Common.{sym, subst}
use Rattle.std.proofs.lemmas.Result.{IfOk-weaker}
use Rattle.p3_formula.specs.declared.target.Target.{Target}
use Rattle.p3_compile.specs.Compiling.{HasEnds, IsCompiledTo}
use Rattle.p3_compile.proofs.EndActions.{ends_named}
use Rattle.p3_compile.proofs.compiling.compile.Goals as goal

pub target-requires : goal.target-requires
target-requires c = ends_named c.args.task.now c.args.weights.now c.in_ok-begun.begun c.in_ok-begun.ensures

pub returns : goal.returns
returns c =
    let G = c.args.task.now in
    let weights = c.args.weights.now in
    let begun = c.in_ok-begun.begun in
    let actions = c.in_ok-actions.actions in
    let compiled : (target : Target) → HasEnds begun actions target → IsCompiledTo G weights target = λ target has.
    subst (IsCompiledTo G weights) (sym has.is) (c.begun_targets_are_compiled.ensures G weights begun actions has.ends c.requires c.in_ok-begun.ensures c.in_ok-actions.ensures has.are) in
    record {
      compiled = IfOk-weaker c.target.result _ _ (λ target has. (compiled target has).compiled) c.target.ensures;
      tidy = IfOk-weaker c.target.result _ _ (λ target has. (compiled target has).tidy) c.target.ensures;
      lean = IfOk-weaker c.target.result _ _ (λ target has. (compiled target has).lean) c.target.ensures;
      assembled = IfOk-weaker c.target.result _ _ (λ target has. (compiled target has).assembled) c.target.ensures;
    }
