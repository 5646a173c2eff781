use Rattle.std.proofs.Common.{rules, sym}
use Rattle.std.proofs.lemmas.List.Sorted.{IsPermutation-map, IsNonDecreasingBy-from_sort_by_key}
use Rattle.p3_regress.proofs.sorted.by_atom.Goals as goal

pub returns-clause-same : goal.returns-clause-same
returns-clause-same c = rw (sym c.in_ok-sorted.ensures) (IsPermutation-map (λ change. change.now) _ _ c.in_ok-sort_by_key.ensures.permutation)

pub returns-clause-rising : goal.returns-clause-rising
returns-clause-rising c = IsNonDecreasingBy-from_sort_by_key (λ change. change.now.atom) c.sort_by_key.new.self.items c.in_ok-sort_by_key.ensures.sorted (λ a r f' k. search rules)
