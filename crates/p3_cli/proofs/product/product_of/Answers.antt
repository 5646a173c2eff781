use Rattle.p3_cli.proofs.ResultLemmas.{if_both, if_ok}
use Rattle.p3_cli.proofs.product.product_of.Goals as goal

pub returns-in-Compile-clause-ok : goal.returns-in-Compile-clause-ok
returns-in-Compile-clause-ok c = rw c.in-Compile.is (if_both c.translate.result (λ product means layout. record { means = means; layout = layout }) c.translate.ensures.means c.translate.ensures.layout)

pub returns-in-Lift-clause-ok : goal.returns-in-Lift-clause-ok
returns-in-Lift-clause-ok c = rw c.in-Lift.is (if_both c.lift.result (λ product means layout. record { means = means; layout = layout }) c.lift.ensures.means c.lift.ensures.lines)

pub returns-in-Embed-clause-ok : goal.returns-in-Embed-clause-ok
returns-in-Embed-clause-ok c =
    rw c.in-Embed.is
    (if_both c.embed.result (λ product means layout. record { means = means; layout = layout }) c.embed.ensures.means (if_both c.embed.result (λ product layout lines. (layout, lines)) c.embed.ensures.layout c.embed.ensures.lines))

pub returns-in-Generate-clause-ok : goal.returns-in-Generate-clause-ok
returns-in-Generate-clause-ok c = rw c.in-Generate.is (if_ok c.sample.result (λ product means. record { means = means; layout = tt }) c.sample.ensures.means)

pub returns-in-CompileFlat-clause-ok : goal.returns-in-CompileFlat-clause-ok
returns-in-CompileFlat-clause-ok c = rw c.in-CompileFlat.is (if_ok c.flat_translate.result (λ product means. record { means = means; layout = tt }) c.flat_translate.ensures.means)
