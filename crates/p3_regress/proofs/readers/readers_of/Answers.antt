use Rattle.std.proofs.Common.{rules, ◌-◌, nat_lt, nat_le, length, take, drop}
use Rattle.std.proofs.lemmas.List.Sorted.{IsPartitionPoint-from_clause, IsPartitionedBy-ltb, IsPartitionedBy-leb, IsNonDecreasingBy-take, IsNonDecreasingBy-drop}
use Rattle.p3_regress.specs.declared.readers.PartReader.{PartReader}
use Rattle.p3_regress.proofs.ReaderLemmas.{found}
use Rattle.p3_regress.proofs.readers.readers_of.Goals as goal

pub returns : goal.returns
returns c =
    let readers = c.args.readers.now in
    let start = c.partition_point-start.result in
    let count = c.partition_point-count.result in
    let rest = take (length readers - start) (drop start readers) in
    let rising = IsNonDecreasingBy-take (λ (one : PartReader). one.atom) (length readers - start) (drop start readers) (IsNonDecreasingBy-drop (λ (one : PartReader). one.atom) start readers c.requires) in
    found c.args.atom readers start count c.partition_point-start.ensures.bound
    (IsPartitionPoint-from_clause (λ (one : PartReader). nat_lt one.atom c.args.atom) readers start c.partition_point-start.ensures.partitioned (IsPartitionedBy-ltb (λ (one : PartReader). one.atom) readers c.args.atom c.requires) (λ a r f' k. search rules))
    c.partition_point-count.ensures.bound
    (IsPartitionPoint-from_clause (λ (one : PartReader). nat_le one.atom c.args.atom) rest count c.partition_point-count.ensures.partitioned (IsPartitionedBy-leb (λ (one : PartReader). one.atom) rest c.args.atom rising) (λ a r f' k. search rules))
