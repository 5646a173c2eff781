use Rattle.std.proofs.Common.{◌∙◌, sym, ap}
use Rattle.std.specs.Prelude.{option_map}
use Rattle.p3_resolve.proofs.VariableLemmas.{at_slot, entry_of, slot-within, variable-found}
use Rattle.p3_resolve.proofs.terms.variable_of.Goals as goal

pub at-requires : goal.at-requires
at-requires c = slot-within c.args.scope.now c.args.name.now c.in-Some.slot (sym c.in-Some.ensures)

pub returns-in-None : goal.returns-in-None
returns-in-None c =
    sym (variable-found c.args.scope.now c.args.name.now ∙ ap (λ slot. option_map entry_of (at_slot c.args.scope.now slot)) (sym c.in-None.ensures))

pub returns-in-Some : goal.returns-in-Some
returns-in-Some c =
    sym (variable-found c.args.scope.now c.args.name.now ∙ ap (λ slot. option_map entry_of (at_slot c.args.scope.now slot)) (sym c.in-Some.ensures) ∙ ap (option_map entry_of) c.at.ensures)
