use Rattle.std.proofs.Common.{◌∙◌, sym, subst, Some}
use Rattle.std.specs.Prelude.{IsSome}
use Rattle.p3_task.specs.Grammar.Words.{numeral_place}
use Rattle.p3_task.specs.declared.metric.Num.TheVariants.{Number}
use Rattle.p3_outline.specs.Nodes.{expression_of}
use Rattle.p3_syntax.specs.Trees.{the_word}
use Rattle.p3_syntax.proofs.HeadLemmas.{some_first}
use Rattle.p3_syntax.proofs.MetricLemmas.{other_word}
use Rattle.p3_syntax.proofs.tree.metrics.num_word.Goals as goal

pub numeral-requires : goal.numeral-requires
numeral-requires c =
    let e = expression_of c.args.view in
    let other = other_word e (the_word c.word-word.result) c.word-word.ensures (sym c.is.ensures ∙ c.if-is.false) in
    record { tree = some_first (numeral_place e) (λ numeral. Some (Number numeral)) (subst IsSome other c.requires.tree) }
