use Rattle.std.proofs.Common.{refl, subst}
use Rattle.std.specs.Prelude.{IfOk}
use Rattle.p3_cli.specs.Streaming.{AreCompiledTexts}
use Rattle.p3_cli.specs.declared.texts.Made.{Made}
use Rattle.p3_cli.proofs.streaming.compiled_texts.Goals as goal

pub target_texts-texts-requires : goal.target_texts-texts-requires
target_texts-texts-requires c = (refl, c.into_parts-checked.ensures.ready)

pub returns : goal.returns
returns c =
    let parts = c.into_parts-checked.ensures in
    subst (λ task. IfOk c.target_texts-texts.result (λ (texts : Made). AreCompiledTexts task c.args.whole.weights texts.domain.items texts.problem.items)) parts.ground_task
    (subst (λ weights. IfOk c.target_texts-texts.result (λ (texts : Made). AreCompiledTexts c.into_parts-checked.result.1 weights texts.domain.items texts.problem.items)) parts.weights c.target_texts-texts.ensures)
