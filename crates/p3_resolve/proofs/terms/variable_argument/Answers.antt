use Rattle.std.proofs.Common.{◌≡◌, ◌∙◌, Option, Some, None, refl}
use Rattle.std.specs.Prelude.{find, is_some, option_map}
use Rattle.p3_task.specs.Names.{same_name}
use Rattle.p3_task.specs.Types.{type_names}
use Rattle.p3_resolve.specs.Tables.{parameter_of}
use Rattle.p3_resolve.proofs.TermLemmas.{variable-step}
use Rattle.p3_resolve.proofs.terms.variable_argument.Goals as goal

is_some-mapped : {A B : Type 0} (f : A → B) (found : Option A) → is_some found ≡ is_some (option_map f found)
is_some-mapped f None = refl
is_some-mapped f (Some x) = refl

pub returns-clause-found : goal.returns-clause-found
returns-clause-found c =
    let declared = option_map (λ variable. (variable.now.name.name, type_names variable.now.types)) c.variable_of-declaration.result in
    c.note.ensures ∙ variable-step c.args.tables.now.task.now c.args.walk.now.scope (parameter_of c.args.declared c.args.place) c.args.found.now c.args.variable.now
    c.is_some.result c.variable_fits-fits.result declared (c.is_some.ensures ∙ is_some-mapped _ c.variable_of-declaration.result)
    (c.variable_of-declaration.ensures ∙ (λ i. find (λ entry. same_name entry.0 c.args.variable.now.name) (c.walk.view_is i).scope)) c.variable_fits-fits.ensures
