use Rattle.std.proofs.Common.{List, subst}
use Rattle.p3_resolve.proofs.HavingLemmas.{is-range}
use Rattle.p3_resolve.specs.Ranges.{IsRange}
use Rattle.p3_task.specs.Types.{names_of}
use Rattle.p3_task.specs.declared.task.Task.{Task}
use Rattle.p3_task.specs.declared.term.Ref.{Ref}
use Rattle.p3_resolve.proofs.ranges.range.Goals as goal

pub returns : goal.returns
returns c =
    let below = c.in_ok-below.below in
    let range = c.in_ok-range.range in
    subst (λ (T : Task). IsRange T (names_of c.args.types.now) range) c.in_ok-below.ensures.task (subst (λ (types : List Ref). IsRange below.task.now (names_of types) range) c.in_ok-below.ensures.types
    (is-range below.task.now below.types.now range c.in_ok-range.ensures.named c.in_ok-range.ensures.rising c.in_ok-range.ensures.within))
