use Rattle.std.proofs.Common.{◌∙◌, Some, ap, sym, subst, map}
use Rattle.std.specs.Str.{str_to_ascii_lowercase}
use Rattle.p3_task.specs.Names.{has_name}
use Rattle.p3_types.specs.Finds.{IsNumberAt}
use Rattle.p3_types.proofs.FindLemmas.{action_name, unknown_action, found_action, found_number, other_arguments}
use Rattle.p3_types.proofs.NameOrderLemmas.{slice_within}
use Rattle.p3_types.proofs.TableLemmas.{well_formed_from}
use Rattle.p3_types.proofs.checked.Checked.find.Goals as goal

pub returns-in_default : goal.returns-in_default
returns-in_default c =
    let word = ap str_to_ascii_lowercase c.bytes.ensures.bytes ∙ c.bytes.ensures.lowered in
    unknown_action c.args.self.now.task c.items-actions.result.now c.items-actions.ensures c.args.step.now.action (ap (has_name (map action_name c.items-actions.result.now)) (sym word) ∙ c.in_default.ensures)

pub number_at-requires-clause-within : goal.number_at-requires-clause-within
number_at-requires-clause-within c =
    let S = c.args.self.now in
    let found = found_action S.task (well_formed_from S.task S.well_formed) c.items-actions.result.now c.items-actions.ensures (str_to_ascii_lowercase c.bytes.result.now) c.in-Some.place c.in-Some.ensures in
    slice_within S.task.domain.actions c.in-Some.place found.action found.at

pub returns-in-Some-number_at : goal.returns-in-Some-number_at
returns-in-Some-number_at c =
    let S = c.args.self.now in
    let word = ap str_to_ascii_lowercase c.bytes.ensures.bytes ∙ c.bytes.ensures.lowered in
    let found = found_action S.task (well_formed_from S.task S.well_formed) c.items-actions.result.now c.items-actions.ensures c.args.step.now.action c.in-Some.place (c.in-Some.ensures ∙ ap Some word) in
    found_number S.task c.args.step.now c.in-Some.place c.in-Some-number_at.number c.items.result.now found c.items.ensures
    (subst (IsNumberAt S.task c.in-Some.place c.items.result.now) c.in-Some-number_at.is c.number_at.ensures)

pub returns-in-None : goal.returns-in-None
returns-in-None c =
    let S = c.args.self.now in
    let word = ap str_to_ascii_lowercase c.bytes.ensures.bytes ∙ c.bytes.ensures.lowered in
    let found = found_action S.task (well_formed_from S.task S.well_formed) c.items-actions.result.now c.items-actions.ensures c.args.step.now.action c.in-Some.place (c.in-Some.ensures ∙ ap Some word) in
    other_arguments S.task c.args.step.now c.in-Some.place c.items.result.now found c.items.ensures
    (subst (IsNumberAt S.task c.in-Some.place c.items.result.now) c.in-None.is c.number_at.ensures)
