use Rattle.p3_compile.proofs.CopyLists.{copies_tidy}
use Rattle.p3_compile.proofs.narrow.narrow_copies.Goals as goal

pub returns : goal.returns
returns c =
    let number = c.args.step.now.number in
    let split = c.in_ok-copies.ensures in
    let made = c.in_ok-copies-2.ensures in
    record {
      split = record {
        copies = c.in_ok-copies.copies;
        one_copy = split.one_copy;
        no_copy = split.no_copy;
        shown = split.shown;
        atoms = split.atoms;
        are = made.are number c.args.go;
      };
      tidy = copies_tidy c.args.go number c.args.effects c.in_ok-copies.copies _ (made.are number c.args.go) (made.simpler number c.args.go);
      simpler = made.simpler number c.args.go;
    }
