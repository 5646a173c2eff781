use Rattle.std.proofs.Common.{◌∙◌, ap, map}
use Rattle.std.proofs.lemmas.List.{take_all}
use Rattle.p3_task.specs.Types.{declared_objects}
use Rattle.p3_task.proofs.OnceLemmas.{each_once}
use Rattle.p3_hierarchy.specs.Objects.{name_of, object_names}
use Rattle.p3_numbers.specs.Places.{number_in}
use Rattle.p3_resolve.specs.ByNumber.{repeated_in}
use Rattle.p3_resolve.proofs.ByNumberLemmas.{declared_in, entry-placed, number-placed, repeated-next}
use Rattle.p3_resolve.proofs.by_number.ByNumber.repeated.Goals as goal

pub keep-requires : goal.keep-requires
keep-requires c =
    let one = c.one-item.result in
    let names = object_names c.args.objects.now.task.now in
    number-placed names one.number (name_of one.declared.now)
    (entry-placed c.declarations-one-items.result.now c.loop-one.one-index one c.loop-one-test.true c.one-item.is names c.declarations-one-items.ensures.placed) (each_once _)
    ∙ (λ i. number_in (object_names (c.requires i)) (name_of one.declared.now))

pub loop-one-preserved : goal.loop-one-preserved
loop-one-preserved c =
    repeated-next c.declarations-one-items.result.now c.loop-one.one-index c.one-item.result c.loop-one-test.true c.one-item.is (declared_objects c.args.self.now.task.now)
    (map (λ item. item.now) c.loop-one.repeated.items) _ c.loop-one.invariant c.in_ok-keep.ensures

pub returns : goal.returns
returns c =
    let T = c.args.self.now.task.now in
    c.loop-one.invariant
    ∙ ap (repeated_in (declared_objects T)) (ap declared_in (take_all c.loop-one.one-index c.declarations-one-items.result.now c.loop-one-test.false) ∙ c.declarations-one-items.ensures.listed ∙ (λ i. declared_objects (c.requires i)))
