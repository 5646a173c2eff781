use Rattle.std.proofs.Common.{rules, ◌≡◌, ◌∙◌, ◌++◌, ◌∷◌, [], sym, ap, append_assoc}
use Rattle.std.specs.Vec.Iter.{into_iter_items}
use Rattle.p3_meanings.proofs.SaidLemmas.{numbered_more}
use Rattle.p3_meanings.proofs.unnumbered.numbered.Goals as goal

pub loop-item-preserved : goal.loop-item-preserved
loop-item-preserved c =
    let next : into_iter_items c.loop-item.item-iterator ≡ c.in-Some.item ∷ into_iter_items c.next.new.self = search rules in
    record {
      whole = append_assoc c.loop-item.yielded (c.in-Some.item ∷ []) (into_iter_items c.next.new.self) ∙ ap (λ items. c.loop-item.yielded ++ items) (sym next) ∙ c.loop-item.invariant.whole;
      counted = search rules;
      meanings =
          c.in_ok-push.ensures.ok
          ∙ ap (λ meaning. c.loop-item.meanings ++ meaning ∷ []) c.with_number.ensures
          ∙ numbered_more c.loop-item.yielded c.in-Some.item c.loop-item.meanings c.in_ok-number.number c.loop-item.invariant.meanings (c.in_ok-number.ensures ∙ c.len-in-loop-item.ensures);
    }
