use Rattle.std.proofs.Common.{◌<◌, [], length, get_or, sym, subst, arith}
use Rattle.std.proofs.lemmas.List.{get_or_default}
use Rattle.p3_task.specs.Types.{declared_pairs, names_of}
use Rattle.p3_numbers.specs.Names.{with_names}
use Rattle.p3_hierarchy.specs.Spans.{IsSearched}
use Rattle.p3_hierarchy.proofs.SpanLemmas.{searched-none, searched-more, searched-all}
use Rattle.p3_hierarchy.proofs.kinds.Kinds.down_from.Goals as goal

pub loop-at-init : goal.loop-at-init
loop-at-init c exact =
    let pairs = declared_pairs c.args.self.now.task.now in
    let names = c.args.self.now.order.value.names in
    let highs = names_of c.args.types.now in
    subst (λ found. IsSearched pairs names highs 0 found c.new-spans.result.items) (sym c.in_ok-found.ensures)
    (subst (IsSearched pairs names highs 0 (with_names [] highs)) (sym c.new-spans.ensures.items) (searched-none pairs names highs))

pub loop-at-preserved : goal.loop-at-preserved
loop-at-preserved c exact =
    let found = c.loop-at.found in
    let at = c.loop-at.at in
    let within : at < length found = omega arith in
    searched-more (declared_pairs c.args.self.now.task.now) c.args.self.now.order.value.names (names_of c.args.types.now) c.args.self.now.order.value.spans.items at found c.loop-at.spans.items
    (get_or found at []) c.follow.new.found c.follow.new.spans.items exact within (get_or_default found at [] (get_or found at []) within) c.in_ok-follow.ensures (c.loop-at.invariant exact)

pub returns : goal.returns
returns c exact =
    searched-all (declared_pairs c.args.self.now.task.now) c.args.self.now.order.value.names (names_of c.args.types.now) c.loop-at.at c.loop-at.found c.loop-at.spans.items (omega arith) (c.loop-at.invariant exact)
