use Rattle.std.proofs.Common.{◌∙◌, ap, refl, List, ℕ, length, get_or, ◌-◌}
use Rattle.p3_types.proofs.TableLemmas.{well_formed_from, numbered_from}
use Rattle.p3_types.proofs.StepTableLemmas.{table_length, actions_length, start_is, last_is}
use Rattle.p3_types.proofs.checked.Checked.table.Goals as goal

pub returns-clause-len : goal.returns-clause-len
returns-clause-len c =
    let S = c.args.self.now in
    ap length c.as_slice.ensures.value ∙ table_length S.task S.numbered S.first_steps.items (well_formed_from S.task S.well_formed) (numbered_from S.task S.numbered S.names S.numbering S.covers S.trees) S.firsts

pub returns-clause-actions : goal.returns-clause-actions
returns-clause-actions c =
    let S = c.args.self.now in
    actions_length S.task S.numbered S.first_steps.items (well_formed_from S.task S.well_formed) (numbered_from S.task S.numbered S.names S.numbering S.covers S.trees) S.firsts

pub returns-clause-start : goal.returns-clause-start
returns-clause-start c =
    let S = c.args.self.now in
    ap (λ (all : List ℕ). get_or all 0 0) c.as_slice.ensures.value ∙ start_is S.task S.numbered S.first_steps.items (well_formed_from S.task S.well_formed) (numbered_from S.task S.numbered S.names S.numbering S.covers S.trees) S.firsts

pub returns-clause-last : goal.returns-clause-last
returns-clause-last c =
    let S = c.args.self.now in
    ap (λ (all : List ℕ). get_or all (length all - 1) 0) c.as_slice.ensures.value
    ∙ last_is S.task S.numbered S.first_steps.items (well_formed_from S.task S.well_formed) (numbered_from S.task S.numbered S.names S.numbering S.covers S.trees) S.firsts _ refl
