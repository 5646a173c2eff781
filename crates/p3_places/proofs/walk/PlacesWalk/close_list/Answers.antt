use Rattle.std.proofs.Common.{◌≡◌, ◌∙◌, ◌-◌, [], ◌∷◌, sym, ap, reverse, get_or, if◌then◌else◌, true, Some, None, arith}
use Rattle.std.proofs.lemmas.List.{reverse-append}
use Rattle.p3_task.specs.PlanTexts.{Closes}
use Rattle.p3_places.specs.Machine.{step}
use Rattle.p3_places.specs.Places.{grammar_table, is_final, after}
use Rattle.p3_places.proofs.StackLemmas.{innermost}
use Rattle.p3_places.proofs.walk.PlacesWalk.close_list.Goals as goal

pub returns : goal.returns
returns c =
    let items = c.pop.new.self.items in
    let place = c.len-count.result - 1 in
    let last = c.in-Some.last in
    let around = innermost items place c.index_mut.result.now (omega (arith, c.len-count.ensures, c.if-count-eq0.false)) in
    let above = get_or items place c.index_mut.result.now in
    let final : is_final last ≡ true = sym c.is_final.ensures ∙ c.if-not-is_final.false in
    let stack = ap reverse c.in-Some.ensures.items ∙ reverse-append items (last ∷ []) ∙ ap (λ states. last ∷ states) around.is in
    ap Some (around.changed c.pass_list.new.above)
    ∙ ap (λ state. Some (state ∷ around.outer)) (c.pass_list.ensures ∙ ap (λ state. after state last) c.index_mut.ensures.value)
    ∙ ap (λ b. if b then Some (after above last ∷ around.outer) else None) (sym final)
    ∙ ap (λ states. step grammar_table states Closes) (sym stack)
