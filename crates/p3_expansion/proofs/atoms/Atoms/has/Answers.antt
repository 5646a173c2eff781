use Rattle.std.proofs.Common.{◌∙◌, ap}
use Rattle.std.specs.Prelude.{bytes_eq}
use Rattle.std.specs.List.{list_any}
use Rattle.p3_expansion.proofs.AtomLemmas.{has-keys}
use Rattle.p3_expansion.proofs.atoms.Atoms.has.Goals as goal

pub returns : goal.returns
returns c = c.contains.ensures ∙ has-keys (λ words. words.items) c.self.inside.words.keys c.args.atom.now ∙ ap (list_any (bytes_eq c.args.atom.now)) c.self.view_is
