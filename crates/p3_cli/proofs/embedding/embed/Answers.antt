use Rattle.std.proofs.Common.{◌∙◌, ap, subst, sym}
use Rattle.p3_tree.specs.Reports.Plans.{embedded_lines}
use Rattle.p3_formula.specs.Targets.{Compiled}
use Rattle.p3_compile.specs.Compiling.{IsCompiledTo}
use Rattle.p3_embed.specs.Plans.{steps_at}
use Rattle.p3_reports.specs.Reports.{report_text}
use Rattle.p3_cli.specs.Texts.{all_texts}
use Rattle.p3_cli.proofs.EmbeddingLemmas.{embedded_words, is_embedded, steps_counted}
use Rattle.p3_cli.proofs.ProductLemmas.{its_texts, rejected_plan, the_plan, the_steps}
use Rattle.p3_cli.proofs.TranslationLemmas.{is_laid_out}
use Rattle.p3_cli.proofs.embedding.embed.Goals as goal

pub returns-in-Err-clause-err : goal.returns-in-Err-clause-err
returns-in-Err-clause-err c =
    let whole = c.in_ok-whole in
    rejected_plan (all_texts c.args.texts.now) whole.whole.checked.task whole.ensures.accepted whole.ensures.free whole.steps
    whole.ensures.are c.in-Err.ending c.in-Err.ensures.err

pub embedding_of-requires-clause-named : goal.embedding_of-requires-clause-named
embedding_of-requires-clause-named c =
    let whole = c.in_ok-whole in
    let T = whole.whole.checked.task in
    let X = c.in_ok-target.target in
    let are = whole.ensures.are in
    let plan = the_plan (all_texts c.args.texts.now) T whole.ensures.accepted whole.ensures.free whole.steps are in
    let compiled = subst (λ ground. Compiled ground whole.whole.weights X) c.ground_task.ensures (subst (λ weights. Compiled c.ground_task.result.now weights X) c.weights.ensures.weights c.in_ok-target.ensures.compiled) in
    embedded_words T whole.whole.ground_task whole.whole.weights X plan.plan (steps_at X c.in-Ok.source.places.items) compiled
    (c.in-Ok.ensures.plan plan.plan (the_steps (all_texts c.args.texts.now) T whole.ensures.accepted whole.ensures.free whole.steps are))

pub returns-clause-means : goal.returns-clause-means
returns-clause-means c =
    let whole = c.in_ok-whole in
    let T = whole.whole.checked.task in
    let G = whole.whole.ground_task in
    let w = whole.whole.weights in
    let X = c.in_ok-target.target in
    let are = whole.ensures.are in
    let plan = the_plan (all_texts c.args.texts.now) T whole.ensures.accepted whole.ensures.free whole.steps are in
    let has = the_steps (all_texts c.args.texts.now) T whole.ensures.accepted whole.ensures.free whole.steps are in
    let source = c.in-Ok in
    let made = c.in_ok-made in
    let compiled = subst (λ ground. Compiled ground w X) c.ground_task.ensures (subst (λ weights. Compiled c.ground_task.result.now weights X) c.weights.ensures.weights c.in_ok-target.ensures.compiled) in
    record {
      task = T;
      plan = plan.plan;
      texts = its_texts (all_texts c.args.texts.now) T whole.ensures.accepted whole.ensures.free whole.steps are;
      valid = source.ensures.valid plan.plan has;
      embedded =
          is_embedded T G w X whole.ensures.ready compiled plan.plan (steps_at X source.source.places.items) source.source.cost (source.ensures.plan plan.plan has) source.ensures.cost
          made.made.made.domain.items made.made.made.problem.items made.made.made.plan.items (report_text made.made.report)
          made.ensures.text.domain_text made.ensures.text.problem_text made.ensures.plan
          (made.ensures.report ∙ ap (λ count. embedded_lines T count source.source.cost) (sym (steps_counted X source.source.places.items)));
    }

pub returns-clause-layout : goal.returns-clause-layout
returns-clause-layout c =
    let whole = c.in_ok-whole in
    let T = whole.whole.checked.task in
    let G = whole.whole.ground_task in
    let w = whole.whole.weights in
    let target = c.in_ok-target in
    let X = target.target in
    let made = c.in_ok-made in
    let made_is : IsCompiledTo c.ground_task.result.now c.weights.result.now X = record { compiled = target.ensures.compiled; tidy = target.ensures.tidy; lean = target.ensures.lean; assembled = target.ensures.assembled } in
    let is = subst (λ ground. IsCompiledTo ground w X) c.ground_task.ensures (subst (λ weights. IsCompiledTo c.ground_task.result.now weights X) c.weights.ensures.weights made_is) in
    record {
      task = T;
      accepted = whole.ensures.accepted;
      laid_out = is_laid_out T G w X whole.ensures.ready is made.made.made.domain.items made.made.made.problem.items made.ensures.text.domain made.ensures.text.problem;
    }
