use Rattle.std.specs.List.{Contains}
use Rattle.std.proofs.lemmas.List.Elements.{All-contains_itself, All-weaker, Contains-get_or}
use Rattle.std.proofs.lemmas.List.Filters.{dedup_is}
use Rattle.std.proofs.lemmas.List.Kept.{Contains-dedup_nat, Contains-from_dedup}
use Rattle.std.proofs.lemmas.List.Sorted.{Contains-permutation, IsPermutation-sym}
use Rattle.std.proofs.lemmas.Map.Keys.{IsStrictlyIncreasing-dedup}
use Rattle.p3_steps.proofs.places.sort.Goals as goal

pub returns-clause-rising : goal.returns-clause-rising
returns-clause-rising c = rw (dedup_is _ _ _ c.dedup.ensures.filtered) (IsStrictlyIncreasing-dedup _ c.sort_unstable.ensures.sorted)

pub returns-clause-keeps : goal.returns-clause-keeps
returns-clause-keeps c k d within =
    rw (dedup_is _ _ _ c.dedup.ensures.filtered) (Contains-dedup_nat _ _ (Contains-permutation _ _ _ c.sort_unstable.ensures.permutation (Contains-get_or c.args.found.now.items k d within)))

pub returns-clause-only : goal.returns-clause-only
returns-clause-only c =
    rw (dedup_is _ _ _ c.dedup.ensures.filtered)
    (All-weaker (Contains _) (Contains c.args.found.now.items)
    (λ number kept. Contains-permutation _ _ number (IsPermutation-sym _ _ c.sort_unstable.ensures.permutation) (Contains-from_dedup _ _ number kept)) _ (All-contains_itself _))
