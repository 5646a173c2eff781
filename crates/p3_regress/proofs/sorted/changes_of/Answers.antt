use Rattle.std.proofs.Common.{rules, ◌-◌, nat_lt, nat_le, length, take, drop}
use Rattle.std.proofs.lemmas.List.Sorted.{IsPartitionPoint-from_clause, IsPartitionedBy-ltb, IsPartitionedBy-leb, IsNonDecreasingBy-take, IsNonDecreasingBy-drop}
use Rattle.p3_regress.proofs.SortedLemmas.{found, found_named}
use Rattle.p3_regress.proofs.sorted.changes_of.Goals as goal

pub returns-clause-after : goal.returns-clause-after
returns-clause-after c =
    let changes = c.args.changes.now in
    let start = c.partition_point-start.result in
    let rest = take (length changes - start) (drop start changes) in
    let rising = IsNonDecreasingBy-take (λ change. change.now.atom) (length changes - start) (drop start changes) (IsNonDecreasingBy-drop (λ change. change.now.atom) start changes c.requires) in
    found c.args.atom changes start c.partition_point-count.result c.partition_point-start.ensures.bound
    (IsPartitionPoint-from_clause (λ change. nat_lt change.now.atom c.args.atom) changes start c.partition_point-start.ensures.partitioned (IsPartitionedBy-ltb (λ change. change.now.atom) changes c.args.atom c.requires) (λ a r f' k. search rules))
    (IsPartitionPoint-from_clause (λ change. nat_le change.now.atom c.args.atom) rest c.partition_point-count.result c.partition_point-count.ensures.partitioned (IsPartitionedBy-leb (λ change. change.now.atom) rest c.args.atom rising) (λ a r f' k. search rules))

pub returns-clause-named : goal.returns-clause-named
returns-clause-named c =
    let changes = c.args.changes.now in
    let start = c.partition_point-start.result in
    let rest = take (length changes - start) (drop start changes) in
    let rising = IsNonDecreasingBy-take (λ change. change.now.atom) (length changes - start) (drop start changes) (IsNonDecreasingBy-drop (λ change. change.now.atom) start changes c.requires) in
    found_named c.args.atom changes start c.partition_point-count.result c.partition_point-start.ensures.bound
    (IsPartitionPoint-from_clause (λ change. nat_lt change.now.atom c.args.atom) changes start c.partition_point-start.ensures.partitioned (IsPartitionedBy-ltb (λ change. change.now.atom) changes c.args.atom c.requires) (λ a r f' k. search rules))
    (IsPartitionPoint-from_clause (λ change. nat_le change.now.atom c.args.atom) rest c.partition_point-count.result c.partition_point-count.ensures.partitioned (IsPartitionedBy-leb (λ change. change.now.atom) rest c.args.atom rising) (λ a r f' k. search rules))
