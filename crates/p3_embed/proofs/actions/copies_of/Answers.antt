use Rattle.std.proofs.Common.{◌∙◌, List, ap, arith, rules, subst}
use Rattle.std.specs.List.Sorted.{IsPermutation}
use Rattle.std.proofs.lemmas.List.{take_all}
use Rattle.std.proofs.lemmas.List.Sorted.{IsNonDecreasingBy-from_sort_by_key}
use Rattle.p3_embed.specs.Actions.{counted_from}
use Rattle.p3_embed.specs.declared.actions.Counted.{Counted}
use Rattle.p3_embed.proofs.ActionLists.{counted_next}
use Rattle.p3_embed.proofs.actions.copies_of.Goals as goal

pub loop-place-preserved : goal.loop-place-preserved
loop-place-preserved c = rw (c.in_ok-push_counted.ensures, c.loop-place.invariant) (counted_next c.args.counts.now c.loop-place.place (omega arith))

pub returns : goal.returns
returns c = record {
  same = subst (λ (list : List Counted). IsPermutation list c.sort_by_key.new.self.items)
      (c.loop-place.invariant ∙ ap (counted_from 0) (take_all c.loop-place.place c.args.counts.now (omega arith))) c.in_ok-sort_by_key.ensures.permutation;
  rising = IsNonDecreasingBy-from_sort_by_key (λ (one : Counted). one.number) c.sort_by_key.new.self.items c.in_ok-sort_by_key.ensures.sorted (λ a r f' k. search rules);
}
