use Rattle.std.proofs.Common.{rules, nat_le}
use Rattle.std.proofs.lemmas.List.Sorted.{IsPartitionPoint-from_clause}
use Rattle.p3_accounts.proofs.LineLemmas.{line_is, parted}
use Rattle.p3_accounts.proofs.lines.line_at.Goals as goal

pub returns-clause-line : goal.returns-clause-line
returns-clause-line c text are within =
    let starts = c.args.starts.now in
    let offset = c.args.offset in
    let line = c.partition_point.result in
    line_is text starts are offset within line c.partition_point.ensures.bound
    (IsPartitionPoint-from_clause (λ start. nat_le start offset) starts line c.partition_point.ensures.partitioned (parted text starts are offset within) (λ a r f' k. search rules))
