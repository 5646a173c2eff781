use Rattle.std.proofs.Common.{◌∙◌, sym, ap, slice_get}
use Rattle.std.specs.Prelude.{bytes_eq}
use Rattle.std.specs.List.{list_any}
use Rattle.p3_expansion.proofs.AtomLemmas.{found-with, found-key, has-keys}
use Rattle.p3_expansion.proofs.atoms.Atoms.number_of.Goals as goal

pub returns-in-Some-clause-atoms : goal.returns-in-Some-clause-atoms
returns-in-Some-clause-atoms c =
    found-with c.args.self.now c.args.atom.now
    (ap (list_any (bytes_eq c.args.atom.now)) (sym c.self.view_is) ∙ sym (has-keys (λ words. words.items) c.self.inside.words.keys c.args.atom.now) ∙ sym c.in-Some.ensures.found)

pub returns-in-Some-clause-stored : goal.returns-in-Some-clause-stored
returns-in-Some-clause-stored c =
    ap (λ atoms. slice_get atoms c.in-Some.number) (sym c.self.view_is)
    ∙ found-key (λ words. words.items) c.self.inside.words.keys c.in-Some.number c.args.atom.now (sym c.in-Some.ensures.index)
