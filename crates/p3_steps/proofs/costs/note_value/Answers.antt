use Rattle.std.proofs.Common.{◌∙◌, refl, sym, ap, cond, Some}
use Rattle.std.specs.HashMap.{get}
use Rattle.std.specs.Option.{option_copied}
use Rattle.p3_steps.specs.Costs.{is_same_key}
use Rattle.p3_steps.proofs.CostLemmas.{adds-new}
use Rattle.p3_steps.proofs.costs.note_value.Goals as goal

pub returns-in_ok-insert-in-None : goal.returns-in_ok-insert-in-None
returns-in_ok-insert-in-None c =
    adds-new c.args.places c.args.value.now c.args.table.now c.insert.new.self (c.args.value.now.function, c.items.result) refl c.items.ensures
    (sym c.get.ensures.value ∙ ap option_copied c.in-None.is)
    (λ other. c.in_ok-insert-in-None.ensures.updates.0 other ∙ (λ i. cond (is_same_key (c.args.value.now.function, c.items.result) other) (Some (c.units_at.ensures i)) (get is_same_key c.args.table.now other)))
