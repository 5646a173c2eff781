use Rattle.std.proofs.Common.{◌≡◌, ◌∙◌, List, ap, sym, subst, map, false, arith}
use Rattle.std.specs.Str.{str_to_ascii_lowercase}
use Rattle.p3_task.specs.Names.{Name, has_name}
use Rattle.p3_numbers.specs.Slots.{name_at}
use Rattle.p3_types.specs.Finds.{IsRange, IsNarrowed}
use Rattle.p3_types.proofs.FindLemmas.{none_among, too_few, stretch_none, stretch_more, stretch_end}
use Rattle.p3_types.proofs.finding.choice_number.Goals as goal

pub returns-then-count-eq0 : goal.returns-then-count-eq0
returns-then-count-eq0 c = none_among c.args.numbers.now c.args.ranges.now c.args.args.now (sym c.requires.count ∙ c.if-count-eq0.true)

pub returns-then-args-ranges : goal.returns-then-args-ranges
returns-then-args-ranges c = too_few c.args.numbers.now c.args.ranges.now c.args.args.now (λ same. omega (arith, same, c.if-args-ranges.true))

pub narrowed-requires-clause-range : goal.narrowed-requires-clause-range
narrowed-requires-clause-range c =
    subst (λ names. IsRange names c.objects_of-objects.result.now) (sym c.items.ensures)
    (subst (IsRange c.args.numbers.now.objects) (sym c.objects_of-objects.ensures) (c.requires.ranges c.loop-place.place 0 c.loop-place-test.true))

pub returns-in-None : goal.returns-in-None
returns-in-None c =
    let N = c.args.numbers.now in
    let objects = c.objects_of-objects.result.now in
    let word : str_to_ascii_lowercase c.bytes-word.result.now ≡ c.index-args-place.result = ap str_to_ascii_lowercase c.bytes-word.ensures.bytes ∙ c.bytes-word.ensures.lowered in
    let none : has_name (map (name_at N.objects) objects) c.index-args-place.result ≡ false =
    (λ i. has_name (map (name_at (sym c.items.ensures i)) objects) (sym word i)) ∙ c.in-None.ensures in
    stretch_none N c.args.ranges.now c.args.args.now c.loop-place.place c.loop-place.stretch c.loop-place.stretch objects c.index-args-place.result c.loop-place-test.true (omega arith) c.objects_of-objects.ensures c.index-args-place.is
    c.loop-place.invariant none

pub loop-place-preserved : goal.loop-place-preserved
loop-place-preserved c =
    let N = c.args.numbers.now in
    let objects = c.objects_of-objects.result.now in
    let stretch = c.loop-place.stretch in
    let inner = c.in-Some.inner in
    let word : str_to_ascii_lowercase c.bytes-word.result.now ≡ c.index-args-place.result = ap str_to_ascii_lowercase c.bytes-word.ensures.bytes ∙ c.bytes-word.ensures.lowered in
    let narrow : IsNarrowed N.objects objects stretch c.index-args-place.result inner =
    subst (λ (name : Name). IsNarrowed N.objects objects stretch name inner) word
    (subst (λ (names : List Name). IsNarrowed names objects stretch (str_to_ascii_lowercase c.bytes-word.result.now) inner) c.items.ensures c.in-Some.ensures) in
    stretch_more N c.args.ranges.now c.args.args.now c.loop-place.place stretch inner objects c.index-args-place.result c.loop-place-test.true (omega arith) c.objects_of-objects.ensures c.index-args-place.is
    c.loop-place.invariant narrow

pub returns : goal.returns
returns c = stretch_end c.args.numbers.now c.args.ranges.now c.args.args.now c.loop-place.place c.loop-place.stretch (omega arith) (omega arith) c.loop-place.invariant
