use Rattle.std.proofs.Common.{rules, map, ap}
use Rattle.std.proofs.lemmas.List.Sorted.{answers_always}
use Rattle.p3_resolve.specs.Words.{name_of, named_word}
use Rattle.p3_resolve.proofs.SortLemmas.{sorted-placed}
use Rattle.p3_resolve.proofs.names_of_task.in_order.Goals as goal

pub returns : goal.returns
returns c =
    ap (map name_of) (sorted-placed named_word c.args.named.items c.sort_by_key.new.self.items
    (c.in_ok-sort_by_key.ensures.sorted (λ x. x.at) (answers_always _ _ _ (λ f a r g called. search rules)))
    (c.in_ok-sort_by_key.ensures.stable (λ x. x.at) (answers_always _ _ _ (λ f a r g called. search rules))))
