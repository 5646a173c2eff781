use Rattle.std.proofs.Common.{◌≡◌, map, take}
use Rattle.p3_resolve.specs.Numbers.{names_in, NumbersMore}
use Rattle.p3_resolve.proofs.numbers.number_headers.Given as goal

abbrev pub invariant-loop-header : goal.invariant-loop-header
invariant-loop-header l = record {
  same : l.keys ≡ names_in l.lists.items;
  numbers : NumbersMore (take l.header-index l.headers) l.fn.keys (map (λ one. one.items) l.fn.numbers.items) l.keys (map (λ one. one.items) l.numbers.items);
}
