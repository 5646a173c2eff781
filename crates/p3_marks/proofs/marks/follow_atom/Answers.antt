use Rattle.std.proofs.Common.{◌≡◌, ◌∙◌, ◌<◌, List, [], length, sym, subst, arith}
use Rattle.std.specs.List.{All}
use Rattle.std.proofs.lemmas.List.{get_or_default}
use Rattle.p3_run.specs.Groups.{IsReader}
use Rattle.p3_run.specs.Readers.{readers_at}
use Rattle.p3_run.specs.declared.readers.OperatorReader.{OperatorReader}
use Rattle.p3_marks.proofs.marks.follow_atom.Goals as goal

pub renew_all-requires-clause-readers : goal.renew_all-requires-clause-readers
renew_all-requires-clause-readers c =
    let readers = c.args.readers.now in
    let atom = c.args.atom in
    let there : atom < length readers = omega (arith, c.requires.within, c.requires.bits, c.requires.readers.atoms) in
    let e : c.items.result.now ≡ readers_at readers atom = c.items.ensures ∙ c.index-readers-atom.is ∙ get_or_default readers atom c.index-readers-atom.result [] there in
    subst (λ (list : List OperatorReader). All (IsReader c.args.task.now) list) (sym e) (c.requires.readers.within atom)
