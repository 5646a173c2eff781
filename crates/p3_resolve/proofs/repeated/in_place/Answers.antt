use Rattle.std.proofs.Common.{ap, map, refl, arith}
use Rattle.p3_hierarchy.specs.declared.declarations.Declaration.{Declaration}
use Rattle.p3_resolve.proofs.RepeatedLemmas.{declared-more, in-place-none, in-place-more}
use Rattle.p3_resolve.proofs.repeated.in_place.Goals as goal

pub loop-item-init : goal.loop-item-init
loop-item-init c = record {
  declared = ap (map (λ (entry : Declaration). entry.declared.now)) c.new-entries.ensures.items;
  numbers = in-place-none c.new-entries.result.items c.new-entries.ensures.items;
}

pub loop-item-preserved : goal.loop-item-preserved
loop-item-preserved c =
    let entry : Declaration = record { declared = c.item-item.result; number = c.len-number.result } in
    record {
      declared = declared-more c.args.items.now c.loop-item.item-index c.item-item.result c.loop-item.entries.items c.push.new.self.items entry
          c.loop-item-test.true c.item-item.is c.loop-item.invariant.declared refl c.in_ok-push.ensures.items;
      numbers = in-place-more c.loop-item.entries.items c.push.new.self.items entry c.loop-item.invariant.numbers (omega (arith, c.len-number.ensures, c.loop-item.entries.ok.0)) c.in_ok-push.ensures.items;
    }
