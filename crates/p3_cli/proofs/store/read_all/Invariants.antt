use Rattle.std.proofs.Common.{◌≡◌, ◌≤◌, IsTrue, drop, take}
use Rattle.p3_cli.specs.Asked.{asked_inputs}
use Rattle.p3_cli.specs.Outcome.{ReadsAll}
use Rattle.p3_cli.specs.Store.{AreStored}
use Rattle.p3_cli.specs.Texts.{all_texts}
use Rattle.p3_cli.proofs.store.read_all.Given as goal

-- the inputs so far are read
abbrev pub invariant-loop-input : goal.invariant-loop-input
invariant-loop-input g l =
    let files = g.F.Files in
    record {
      held : (files.seen l.files).held ≡ (files.seen l.fn.files).held;
      reads : (files.seen l.fn.files).read_faults ≤ (files.seen l.files).read_faults;
      writes : (files.seen l.fn.files).write_faults ≤ (files.seen l.files).write_faults;
      named : IsTrue (files.seen l.files).is_sure → AreStored (files.seen l.fn.files).held (asked_inputs (drop l.input-index l.inputs));
      read : ReadsAll (files.seen l.fn.files).held (asked_inputs (take l.input-index l.inputs)) (all_texts l.texts);
    }
