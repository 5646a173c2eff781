use Rattle.std.proofs.Common.{◌∙◌, true, ◌++◌, ◌∷◌, [], ap}
use Rattle.p3_formula.specs.Simplified.{joined, spread}
use Rattle.p3_formula.specs.declared.form.Form.TheVariants.{Atom}
use Rattle.p3_compile.proofs.parts.behind_atom.Goals as goal

pub returns : goal.returns
returns c =
    let parts = c.in_ok-push_spread.ensures ∙ ap (λ list. list ++ spread c.args.form) (c.in_ok-push.ensures.items ∙ ap (λ list. list ++ Atom c.args.atom ∷ []) c.in_ok-parts.ensures.items) in
    c.all_of.ensures ∙ ap (joined true) parts
