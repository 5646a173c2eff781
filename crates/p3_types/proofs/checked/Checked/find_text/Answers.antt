use Rattle.std.proofs.Common.{◌∙◌, List, Some, ap, sym, subst, map}
use Rattle.std.specs.Str.{str_to_ascii_lowercase}
use Rattle.p3_task.specs.Names.{has_name}
use Rattle.p3_task.specs.declared.task.Action.{Action}
use Rattle.p3_types.specs.Finds.{IsNumberAt}
use Rattle.p3_types.specs.NameOrders.{IsNameOrder, action_names}
use Rattle.p3_lexer.specs.StepWords.{words_left}
use Rattle.p3_types.proofs.FindLemmas.{action_name, unknown_action, found_action, found_number, other_arguments}
use Rattle.p3_types.proofs.NameOrderLemmas.{slice_within}
use Rattle.p3_types.proofs.TableLemmas.{well_formed_from}
use Rattle.p3_types.proofs.WordLemmas.{no_step, word_is_action, words_are_args}
use Rattle.p3_types.proofs.checked.Checked.find_text.Goals as goal

pub returns-in_default : goal.returns-in_default
returns-in_default c = λ step is. absurd (no_step c.args.text.now c.new-lexer.result c.next-open.new.self c.next-open.result c.new-lexer.ensures.starts c.next-open.ensures.tokens c.in_default.ensures.word step is)

pub returns-in_default-find_name : goal.returns-in_default-find_name
returns-in_default-find_name c = λ step is.
    let action = word_is_action c.args.text.now c.new-lexer.result c.next-open.new.self c.next-open.result c.new-lexer.ensures.starts c.next-open.ensures.tokens (str_to_ascii_lowercase c.in-Some.word.now) (words_left c.next_word.new.self) c.in-Some.ensures.word step is in
    unknown_action c.args.self.now.task c.items-actions.result.now c.items-actions.ensures step.action (ap (has_name (map action_name c.items-actions.result.now)) (sym action) ∙ c.in_default-find_name.ensures)

pub find_name-requires : goal.find_name-requires
find_name-requires c =
    let S = c.args.self.now in
    subst (λ (actions : List Action). IsNameOrder (map action_name actions) c.as_slice.result.now) (sym c.items-actions.ensures)
    (subst (IsNameOrder (action_names S.task)) (sym c.as_slice.ensures.value) S.action_order)

pub number_of_words-requires-clause-within : goal.number_of_words-requires-clause-within
number_of_words-requires-clause-within c =
    let S = c.args.self.now in
    let place = c.in-Some-find_name.place in
    let found = found_action S.task (well_formed_from S.task S.well_formed) c.items-actions.result.now c.items-actions.ensures (str_to_ascii_lowercase c.in-Some.word.now) place c.in-Some-find_name.ensures in
    slice_within S.task.domain.actions place found.action found.at

pub returns-in_default-number_of_words : goal.returns-in_default-number_of_words
returns-in_default-number_of_words c = λ step is.
    let S = c.args.self.now in
    let place = c.in-Some-find_name.place in
    let word = str_to_ascii_lowercase c.in-Some.word.now in
    let args = words_left c.next_word.new.self in
    let action = word_is_action c.args.text.now c.new-lexer.result c.next-open.new.self c.next-open.result c.new-lexer.ensures.starts c.next-open.ensures.tokens word args c.in-Some.ensures.word step is in
    let same = words_are_args c.args.text.now c.new-lexer.result c.next-open.new.self c.next-open.result c.new-lexer.ensures.starts c.next-open.ensures.tokens word args c.in-Some.ensures.word step is in
    let found = found_action S.task (well_formed_from S.task S.well_formed) c.items-actions.result.now c.items-actions.ensures step.action place (c.in-Some-find_name.ensures ∙ ap Some action) in
    other_arguments S.task step place args found same (subst (IsNumberAt S.task place args) c.in_default-number_of_words.is c.number_of_words.ensures)

pub returns : goal.returns
returns c = λ step is.
    let S = c.args.self.now in
    let place = c.in-Some-find_name.place in
    let word = str_to_ascii_lowercase c.in-Some.word.now in
    let args = words_left c.next_word.new.self in
    let action = word_is_action c.args.text.now c.new-lexer.result c.next-open.new.self c.next-open.result c.new-lexer.ensures.starts c.next-open.ensures.tokens word args c.in-Some.ensures.word step is in
    let same = words_are_args c.args.text.now c.new-lexer.result c.next-open.new.self c.next-open.result c.new-lexer.ensures.starts c.next-open.ensures.tokens word args c.in-Some.ensures.word step is in
    let found = found_action S.task (well_formed_from S.task S.well_formed) c.items-actions.result.now c.items-actions.ensures step.action place (c.in-Some-find_name.ensures ∙ ap Some action) in
    found_number S.task step place c.in-Some-number_of_words.number args found same (subst (IsNumberAt S.task place args) c.in-Some-number_of_words.is c.number_of_words.ensures)
