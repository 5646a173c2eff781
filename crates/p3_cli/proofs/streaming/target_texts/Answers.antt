use Rattle.std.proofs.Common.{◌∙◌, ap, sym, subst}
use Rattle.p3_formula.specs.Conditions.{IsReady}
use Rattle.p3_formula.specs.declared.task.GroundTask.{GroundTask}
use Rattle.p3_compile.specs.Compiling.{IsBegun}
use Rattle.p3_cli.proofs.streaming.target_texts.Goals as goal

pub taking_goal-requires : goal.taking_goal-requires
taking_goal-requires g c = subst (λ task. IsReady task c.args.weights.now) (sym c.requires.0) c.requires.1

pub texts_of-texts-requires : goal.texts_of-texts-requires
texts_of-texts-requires g c =
    let steps = c.replace-steps.ensures.value ∙ ap (λ (task : GroundTask). task.steps) c.taking_goal.ensures.left ∙ ap (λ (task : GroundTask). task.steps) c.requires.0 in
    record { ready = c.requires.1; is = subst (λ task. IsBegun task c.args.weights.now c.in_ok-begun.begun) c.requires.0 c.in_ok-begun.ensures.begun; all = steps }
