use Rattle.std.proofs.Common.{◌≡◌, ◌∙◌, sym, ap, subst}
use Rattle.std.specs.Prelude.{fold, flat_map, OnOk}
use Rattle.p3_expansion.specs.Atoms.{with_atom}
use Rattle.p3_reasons.specs.Gathering.{atoms_of}
use Rattle.p3_reasons.proofs.GatheringLemmas.{atoms-One, atoms-All}
use Rattle.p3_reasons.proofs.gathered.+listing.Goals as goal

pub list_atoms-returns-in_ok-number_of-in-One : goal.list_atoms-returns-in_ok-number_of-in-One
list_atoms-returns-in_ok-number_of-in-One t c =
    c.in_ok-number_of-in-One.ensures.atoms ∙ ap (with_atom c.args.found.now) c.items.ensures
    ∙ ap (fold with_atom c.args.found.now) (sym (ap atoms_of c.in-One.is ∙ atoms-One c.in-One.atom))

pub list_atoms-returns-in-All : goal.list_atoms-returns-in-All
list_atoms-returns-in-All t c =
    subst (λ atoms. OnOk c.list_all_atoms.result (c.list_all_atoms.new.found ≡ fold with_atom c.args.found.now atoms))
    (ap (flat_map atoms_of) c.items-in-All.ensures ∙ sym (ap atoms_of c.in-All.is ∙ atoms-All c.in-All.parts)) c.list_all_atoms.ensures
