use Rattle.std.proofs.Common.{◌∙◌, ◌-◌, ◌∷◌, sym, ap, Some, arith}
use Rattle.std.specs.Str.{str_to_ascii_lowercase}
use Rattle.p3_task.specs.Grammar.Words.{◌>>=◌}
use Rattle.p3_task.specs.PlanTexts.{Names}
use Rattle.p3_places.specs.Machine.{step}
use Rattle.p3_places.specs.Places.{grammar_table, on_word}
use Rattle.p3_places.specs.Walks.{only_if}
use Rattle.p3_places.proofs.StackLemmas.{innermost, only_on_top}
use Rattle.p3_places.proofs.walk.PlacesWalk.pass_word.Goals as goal

pub returns : goal.returns
returns c =
    let word = str_to_ascii_lowercase c.args.text.now in
    let last = innermost c.args.self.now.open.items (c.len-count.result - 1) c.index_mut.result.now (omega (arith, c.len-count.ensures, c.if-count-eq0.false)) in
    ap (only_if c.pass_word.result) (last.changed c.pass_word.new.state)
    ∙ only_on_top c.pass_word.result c.pass_word.new.state last.outer
    ∙ ap (λ found. found >>= λ next. Some (next ∷ last.outer)) (c.pass_word.ensures ∙ ap (λ state. on_word state word) c.index_mut.ensures.value)
    ∙ ap (λ stack. step grammar_table stack (Names word)) (sym last.is)
