use Rattle.std.proofs.Common.{rules}
use Rattle.std.proofs.lemmas.List.Sorted.{IsNonDecreasingBy-from_sort_by_key}
use Rattle.p3_regress.specs.declared.readers.PartReader.{PartReader}
use Rattle.p3_regress.proofs.readers.by_rising_atom.Goals as goal

pub returns-clause-rising : goal.returns-clause-rising
returns-clause-rising c = IsNonDecreasingBy-from_sort_by_key (λ (one : PartReader). one.atom) c.sort_by_key.new.self.items c.in_ok-sort_by_key.ensures.sorted (λ a r f' k. search rules)
