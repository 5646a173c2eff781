use Rattle.std.proofs.Common.{subst}
use Rattle.p3_expansion.specs.Atoms.{AreDistinct}
use Rattle.p3_expansion.proofs.AtomLemmas.{one-number}
use Rattle.p3_expansion.proofs.atoms.Atoms.len.Goals as goal

pub returns-clause-distinct : goal.returns-clause-distinct
returns-clause-distinct c = subst AreDistinct c.self.view_is (one-number (λ words. words.items) c.self.inside.words.keys c.len.ensures.unique)
