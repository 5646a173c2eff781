use Rattle.std.proofs.Common.{◌≤◌, take}
use Rattle.std.specs.List.{flat_map}
use Rattle.p3_base.specs.Outside.{IsPut}
use Rattle.p3_accounts.specs.Vocabularies.{vocabulary}
use Rattle.p3_accounts.proofs.item.put_all.Given as goal

-- what comes before it is put
abbrev pub invariant-loop-thing : goal.invariant-loop-thing
invariant-loop-thing g l = record {
  put : IsPut (flat_map (g.T.Printed.text (vocabulary l.terms)) (take l.thing-index l.things)) (g.S.Sink.seen l.fn.out).written (g.S.Sink.seen l.out).written;
  faults_grow : (g.S.Sink.seen l.fn.out).faults ≤ (g.S.Sink.seen l.out).faults;
}
