use Rattle.std.proofs.Common.{◌≤◌, take}
use Rattle.p3_base.specs.Outside.{IsPut}
use Rattle.p3_accounts.specs.Shares.{name_shares_text}
use Rattle.p3_accounts.proofs.shares.put_name_shares.Given as goal

-- what comes before it is put
abbrev pub invariant-loop-share : goal.invariant-loop-share
invariant-loop-share g l = record {
  put : IsPut (name_shares_text l.terms.numbers.now l.places (take l.share-index l.shares)) (g.S.Sink.seen l.fn.out).written (g.S.Sink.seen l.out).written;
  faults_grow : (g.S.Sink.seen l.fn.out).faults ≤ (g.S.Sink.seen l.out).faults;
}
