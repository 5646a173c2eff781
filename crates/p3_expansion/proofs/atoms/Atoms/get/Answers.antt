use Rattle.std.proofs.Common.{◌∙◌, slice_get, Some, sym, ap}
use Rattle.p3_task.proofs.OnceLemmas.{map_at}
use Rattle.p3_expansion.proofs.atoms.Atoms.get.Goals as goal

pub returns-in-Some-clause-stored : goal.returns-in-Some-clause-stored
returns-in-Some-clause-stored c =
    ap (λ atoms. slice_get atoms c.args.number) (sym c.self.view_is)
    ∙ map_at (λ words. words.items) c.self.inside.words.keys c.args.number c.in-Some.atom.now (sym c.in-Some.ensures.key) ∙ ap Some (sym c.as_slice.ensures.value)
