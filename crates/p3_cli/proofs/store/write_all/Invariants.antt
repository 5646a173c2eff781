use Rattle.std.proofs.Common.{◌≡◌, ◌≤◌, take}
use Rattle.p3_cli.specs.Store.{files, holding_all, writings}
use Rattle.p3_cli.specs.Texts.{all_made}
use Rattle.p3_cli.proofs.store.write_all.Given as goal

-- the outputs so far are written
abbrev pub invariant-loop-place : goal.invariant-loop-place
invariant-loop-place g l =
    let seen = g.F.Files.seen in
    record {
      held : (seen l.files).held ≡ holding_all (take l.place (writings (files l.roles l.names) (all_made l.made))) (seen l.fn.files).held;
      reads : (seen l.fn.files).read_faults ≤ (seen l.files).read_faults;
      writes : (seen l.fn.files).write_faults ≤ (seen l.files).write_faults;
    }
