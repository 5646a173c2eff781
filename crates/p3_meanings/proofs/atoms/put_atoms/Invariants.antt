use Rattle.std.proofs.Common.{◌≤◌, map, take}
use Rattle.p3_base.specs.Outside.{IsPut}
use Rattle.p3_accounts.specs.Vocabularies.{vocabulary}
use Rattle.p3_meanings.specs.Atoms.{atom_said}
use Rattle.p3_meanings.specs.Said.{said_lines}
use Rattle.p3_meanings.proofs.atoms.put_atoms.Given as goal

-- those before it are put
abbrev pub invariant-loop-number : goal.invariant-loop-number
invariant-loop-number g l = record {
  put : IsPut (said_lines (vocabulary l.telling.terms.now) 0 (map (atom_said l.telling.terms.now.numbers.now) (take l.number l.atoms))) (g.S.Sink.seen l.fn.out).written (g.S.Sink.seen l.out).written;
  faults_grow : (g.S.Sink.seen l.fn.out).faults ≤ (g.S.Sink.seen l.out).faults;
}
