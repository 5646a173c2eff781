use Rattle.std.proofs.Common.{◌∙◌, ap, map}
use Rattle.p3_expansion.specs.Atoms.{with_atom}
use Rattle.p3_expansion.proofs.AtomLemmas.{insert-keys, stored-key}
use Rattle.p3_expansion.proofs.atoms.Atoms.insert.Goals as goal

pub returns-clause-atoms : goal.returns-clause-atoms
returns-clause-atoms c =
    ap (map (λ words. words.items)) c.in_ok-number.ensures.keys ∙ insert-keys (λ words. words.items) c.self.inside.words.keys c.args.atom
    ∙ ap (λ atoms. with_atom atoms c.args.atom.items) c.self.view_is

pub returns-clause-stored : goal.returns-clause-stored
returns-clause-stored c =
    let s = c.in_ok-number.ensures.stored in
    stored-key (λ words. words.items) c.insert_full.new.self.keys c.in_ok-number.number s.0 c.args.atom.items s.1 s.2
