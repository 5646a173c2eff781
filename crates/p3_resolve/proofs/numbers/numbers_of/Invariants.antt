use Rattle.std.proofs.Common.{◌≡◌, take}
use Rattle.p3_resolve.specs.Numbers.{names_in, Keeps, AreNumbers}
use Rattle.p3_resolve.proofs.numbers.numbers_of.Given as goal

abbrev pub invariant-loop-parameter : goal.invariant-loop-parameter
invariant-loop-parameter l = record {
  same : l.keys ≡ names_in l.lists.items;
  kept : Keeps l.fn.keys l.keys;
  numbers : AreNumbers l.keys l.numbers.items (take l.parameter-index l.parameters);
}
