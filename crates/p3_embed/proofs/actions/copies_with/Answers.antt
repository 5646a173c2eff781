use Rattle.std.proofs.Common.{rules, ◌-◌, nat_lt, nat_le, length, take, drop}
use Rattle.std.proofs.lemmas.List.Sorted.{IsPartitionPoint-from_clause, IsPartitionedBy-ltb, IsPartitionedBy-leb, IsNonDecreasingBy-take, IsNonDecreasingBy-drop}
use Rattle.p3_embed.specs.declared.actions.Counted.{Counted}
use Rattle.p3_embed.proofs.ActionLists.{found_between}
use Rattle.p3_embed.proofs.actions.copies_with.Goals as goal

pub returns : goal.returns
returns c =
    let copies = c.args.copies.now in
    let start = c.partition_point-start.result in
    let count = c.partition_point-count.result in
    let rest = take (length copies - start) (drop start copies) in
    let rising = IsNonDecreasingBy-take (λ (one : Counted). one.number) (length copies - start) (drop start copies) (IsNonDecreasingBy-drop (λ (one : Counted). one.number) start copies c.requires) in
    found_between (λ (one : Counted). one.number) c.args.number copies start count c.partition_point-start.ensures.bound
    (IsPartitionPoint-from_clause (λ (one : Counted). nat_lt one.number c.args.number) copies start c.partition_point-start.ensures.partitioned (IsPartitionedBy-ltb (λ (one : Counted). one.number) copies c.args.number c.requires) (λ a r f' k. search rules))
    c.partition_point-count.ensures.bound
    (IsPartitionPoint-from_clause (λ (one : Counted). nat_le one.number c.args.number) rest count c.partition_point-count.ensures.partitioned (IsPartitionedBy-leb (λ (one : Counted). one.number) rest c.args.number rising) (λ a r f' k. search rules))
