use Rattle.std.proofs.Common.{◌∙◌, ◌++◌, ◌∷◌, [], true, false, sym, ap}
use Rattle.std.proofs.lemmas.Option.{IfSome_then}
use Rattle.p3_steps.specs.Possible.{atom_may, may_yet_be}
use Rattle.p3_steps.proofs.PossibleLemmas.{may-Atom}
use Rattle.p3_steps.proofs.links.links_of.Goals as goal

pub returns-in_ok-links-in-Atom : goal.returns-in_ok-links-in-Atom
returns-in_ok-links-in-Atom c =
    let N = c.args.test.now.numbers.now in
    let S = c.args.test.now.statics.now in
    IfSome_then c.in_ok-links-in-Atom.links c.in_ok-links-in-Atom.ensures
    (λ links tells slots object size missing.
    ap (λ one. may_yet_be N S (slots ++ object ∷ []) one true) c.in-Atom.is ∙ may-Atom N S false (slots ++ object ∷ []) c.in-Atom.predicate c.in-Atom.args true
    ∙ ap (λ args. atom_may N S (slots ++ object ∷ []) c.in-Atom.predicate args true) (sym c.items.ensures) ∙ tells slots object size missing)
