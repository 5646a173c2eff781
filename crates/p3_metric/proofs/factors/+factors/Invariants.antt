use Rattle.std.proofs.Common.{◌≡◌, take}
use Rattle.std.specs.List.{list_any}
use Rattle.p3_metric.specs.Factors.{first_product_in, has_mention, have_two_mentions}
use Rattle.p3_metric.proofs.factors.+factors.Given as goal

abbrev pub invariant-found_in_all-loop-part : goal.invariant-found_in_all-loop-part
invariant-found_in_all-loop-part l = record {
  mention : l.all.mention ≡ list_any has_mention (take l.part-index l.parts);
  product : l.all.product ≡ first_product_in (take l.part-index l.parts);
  two_mentions : l.two_mentions ≡ have_two_mentions (take l.part-index l.parts);
}
