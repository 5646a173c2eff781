use Rattle.std.proofs.Common.{◌∙◌, ◌<◌, ap, length, subst, arith}
use Rattle.std.proofs.lemmas.List.{length-replicate, length-set, take_all}
use Rattle.std.proofs.lemmas.Option.{slice_get_within}
use Rattle.p3_task.proofs.OnceLemmas.{each_once}
use Rattle.p3_hierarchy.specs.Objects.{object_names}
use Rattle.p3_resolve.specs.ByNumber.{AreFiled}
use Rattle.p3_resolve.proofs.ByNumberLemmas.{declared_in, entry-placed, filed-next, filed-none}
use Rattle.p3_resolve.proofs.by_number.filed.Goals as goal

pub loop-one-init : goal.loop-one-init
loop-one-init c = record {
  size = ap length c.in_ok-table.ensures ∙ length-replicate _ _ ∙ c.len.ensures ∙ ap length c.names.ensures;
  filed = filed-none (object_names c.args.objects.now.task.now) _ c.in_ok-table.table.items c.in_ok-table.ensures;
}

pub file-requires : goal.file-requires
file-requires c =
    let names = object_names c.args.objects.now.task.now in
    let entries = c.declarations-one-items.result.now in
    let within = slice_get_within names _ _ (entry-placed entries c.loop-one.one-index c.one-item.result c.loop-one-test.true c.one-item.is names c.declarations-one-items.ensures.placed) in
    let size = c.loop-one.invariant.size in
    omega (arith, within, size)

pub loop-one-preserved : goal.loop-one-preserved
loop-one-preserved c =
    let names = object_names c.args.objects.now.task.now in
    let entries = c.declarations-one-items.result.now in
    let one = c.one-item.result in
    let placed = entry-placed entries c.loop-one.one-index one c.loop-one-test.true c.one-item.is names c.declarations-one-items.ensures.placed in
    let within = slice_get_within names _ _ placed in
    let size = c.loop-one.invariant.size in
    let inside : one.number < length c.loop-one.table.items = omega (arith, within, size) in
    record {
      size = ap length c.in_ok-file.ensures ∙ length-set _ _ _ ∙ size;
      filed = filed-next entries c.loop-one.one-index one c.loop-one-test.true c.one-item.is names c.loop-one.table.items c.file.new.table.items (each_once _) placed inside c.in_ok-file.ensures c.loop-one.invariant.filed;
    }

pub returns : goal.returns
returns c =
    let names = object_names c.args.objects.now.task.now in
    let entries = c.declarations-one-items.result.now in
    subst (λ items. AreFiled names items c.loop-one.table.items) (ap declared_in (take_all c.loop-one.one-index entries c.loop-one-test.false) ∙ c.declarations-one-items.ensures.listed) c.loop-one.invariant.filed
