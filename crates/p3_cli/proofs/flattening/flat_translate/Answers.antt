use Rattle.std.proofs.Common.{inr}
use Rattle.p3_cli.specs.Flattening.{IsRefusedFirst, StopsFlat}
use Rattle.p3_cli.specs.Refusing.{Says}
use Rattle.p3_cli.specs.Texts.{all_texts}
use Rattle.p3_cli.proofs.ResultLemmas.{if_both, if_err}
use Rattle.p3_cli.proofs.SpelledLemmas.{says_more}
use Rattle.p3_cli.proofs.flattening.flat_translate.Goals as goal

pub returns-clause-means : goal.returns-clause-means
returns-clause-means c =
    let whole = c.in_ok-whole in
    if_both c.flat_translation_of-made.result (λ made text told. record {
      task = whole.whole.checked.task;
      accepted = whole.ensures.accepted;
      text = text;
      told = told;
    }) c.flat_translation_of-made.ensures.text c.flat_translation_of-made.ensures.report

pub returns-clause-err : goal.returns-clause-err
returns-clause-err c =
    let texts = all_texts c.args.texts.now in
    let whole = c.in_ok-whole in
    if_err c.flat_translation_of-made.result
    (says_more (Says texts (IsRefusedFirst whole.whole.checked.task)) (StopsFlat texts) (λ how said. inr (record {
      refusal = said.refusal;
      shows = record { is = record { task = whole.whole.checked.task; accepted = whole.ensures.accepted; at = said.shows.at }; first = said.shows.first };
      says = said.says;
    })))
    c.flat_translation_of-made.ensures.err
