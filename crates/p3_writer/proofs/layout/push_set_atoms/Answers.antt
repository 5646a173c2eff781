use Rattle.std.proofs.Common.{◌∙◌, ◌++◌, append_assoc, sym, ap, arith}
use Rattle.p3_writer.proofs.LayoutLemmas.{set_atoms_from}
use Rattle.p3_writer.proofs.layout.push_set_atoms.Goals as goal

pub loop-atom-preserved : goal.loop-atom-preserved
loop-atom-preserved c =
    rw c.in_ok-push_set_atom.ensures (append_assoc c.loop-atom.out.items _ _
    ∙ ap (λ text. c.loop-atom.out.items ++ text)
    (sym (set_atoms_from c.args.bits.now c.args.names.now c.loop-atom.atom c.get.result c.index-names-atom.result (omega (arith, c.requires, c.loop-atom-test.true)) c.loop-atom-test.true c.get.ensures c.index-names-atom.is))
    ∙ c.loop-atom.invariant)
