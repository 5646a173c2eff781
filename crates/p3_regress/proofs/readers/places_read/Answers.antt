use Rattle.std.proofs.Common.{◌∙◌, ap, subst}
use Rattle.std.specs.List.Sorted.{IsPermutation}
use Rattle.std.proofs.lemmas.List.{take_all}
use Rattle.std.proofs.lemmas.List.Sorted.{IsNonDecreasingBy-from_sort}
use Rattle.p3_regress.specs.Sorted.{lent}
use Rattle.p3_regress.proofs.ReaderLemmas.{places_in, read_there}
use Rattle.p3_regress.proofs.readers.places_read.Goals as goal

pub returns-clause-read : goal.returns-clause-read
returns-clause-read c =
    read_there c.args.readers.now (lent c.args.changes.now) c.sort.new.self.items
    (subst (λ some. IsPermutation some c.sort.new.self.items)
    (c.loop-change.invariant ∙ ap (λ some. places_in c.args.readers.now (lent some)) (take_all c.loop-change.change-index c.args.changes.now c.loop-change-test.false))
    c.in_ok-sort.ensures.permutation)

pub returns-clause-rising : goal.returns-clause-rising
returns-clause-rising c = IsNonDecreasingBy-from_sort (λ place. place) c.sort.new.self.items c.in_ok-sort.ensures.sorted
