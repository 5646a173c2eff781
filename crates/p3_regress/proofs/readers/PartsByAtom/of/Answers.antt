use Rattle.std.proofs.Common.{◌∙◌, ap, map, subst}
use Rattle.std.specs.List.Sorted.{IsPermutation}
use Rattle.p3_formula.specs.AtomLists.{atoms_of}
use Rattle.p3_regress.specs.Readers.{readers_from}
use Rattle.p3_regress.specs.Parts.{parts_of}
use Rattle.p3_regress.proofs.PartLaws.{are_listed}
use Rattle.p3_regress.proofs.readers.PartsByAtom.of.Goals as goal

pub returns : goal.returns
returns c = λ listed.
    are_listed (parts_of c.args.form.now) c.in_ok-readers-2.readers.items
    (subst (λ readers. IsPermutation readers c.in_ok-readers-2.readers.items) (c.in_ok-readers.ensures ∙ ap (λ parts. readers_from 0 (map atoms_of parts)) c.parts_of-parts.ensures) c.in_ok-readers-2.ensures.same)
