use Rattle.std.proofs.Common.{◌≡◌, ◌∙◌, ◌-◌, ◌<◌, List, ap, sym, subst, length, get_or, arith}
use Rattle.p3_numbers.specs.Choices.{choice_count, choice}
use Rattle.p3_numbers.specs.declared.task.NumberedAction.{NumberedAction}
use Rattle.p3_types.specs.Finds.{IsStepAt}
use Rattle.p3_types.proofs.PlacedLemmas.{placed_between}
use Rattle.p3_types.proofs.StepTableLemmas.{count_between}
use Rattle.p3_types.proofs.TableLemmas.{well_formed_from, numbered_from}
use Rattle.p3_types.proofs.checked.Checked.placed.Goals as goal

pub chosen-requires-clause-count : goal.chosen-requires-clause-count
chosen-requires-clause-count c =
    let S = c.args.self.now in
    let place = c.interval_of-place.result in
    let item = c.index-items-place.result in
    let within : place < length S.task.domain.actions = omega (arith, c.interval_of-place.ensures.within, c.table-table.ensures.len) in
    let at : item ≡ get_or S.numbered.actions place item = c.index-items-place.is ∙ ap (λ (all : List NumberedAction). get_or all place item) c.items.ensures in
    count_between S.task S.numbered c.table-table.result.now (well_formed_from S.task S.well_formed) (numbered_from S.task S.numbered S.names S.numbering S.covers S.trees) (c.table-table.ensures.table ∙ S.firsts)
    c.requires.few place item within at ∙ ap (choice_count S.numbered.numbers) (sym c.items-2.ensures)

pub returns : goal.returns
returns c =
    let S = c.args.self.now in
    let N = S.numbered.numbers in
    let place = c.interval_of-place.result in
    let item = c.index-items-place.result in
    let rest = c.args.number - get_or c.table-table.result.now place 0 in
    let within : place < length S.task.domain.actions = omega (arith, c.interval_of-place.ensures.within, c.table-table.ensures.len) in
    let at : item ≡ get_or S.numbered.actions place item = c.index-items-place.is ∙ ap (λ (all : List NumberedAction). get_or all place item) c.items.ensures in
    let objects : c.from.result ≡ choice N item.ranges rest = c.from.ensures ∙ c.in_ok-objects.ensures ∙ ap (λ ranges. choice N ranges rest) c.items-2.ensures in
    subst (λ action. IsStepAt S.task N c.args.number action c.from.result) (sym c.in_ok-action.ensures)
    (subst (IsStepAt S.task N c.args.number place) (sym objects)
    (placed_between S.task S.numbered c.table-table.result.now (well_formed_from S.task S.well_formed) (numbered_from S.task S.numbered S.names S.numbering S.covers S.trees) (c.table-table.ensures.table ∙ S.firsts)
    c.requires.few place c.args.number item within at c.interval_of-place.ensures.low c.interval_of-place.ensures.high))
