-- What the items of lines are printed as.
use Rattle.std.specs.Prelude.{ℕ, List, length, codes}
use Rattle.std.specs.Fmt.{decimal}
use Rattle.p3_reports.specs.Joined.{joined}
use Rattle.p3_accounts.specs.Operators.{operator_word}
use Rattle.p3_accounts.specs.Spots.{spot_before}
use Rattle.p3_accounts.specs.States.{moment_text, operand_text, truth_word}
use Rattle.p3_accounts.specs.Subjects.{argument_of, bindings_text, counted, preference_text}
use Rattle.p3_accounts.specs.Vocabularies.{Vocabulary}
use Rattle.p3_accounts.specs.Words.{atom_text, numbered_step_text, step_text, value_text}
use Rattle.p3_accounts.specs.declared.item.Item.{Item}
use Rattle.p3_accounts.specs.declared.item.Item.TheVariants as item

abbrev pub item_text : Vocabulary → Item → List ℕ
item_text V (item.Text text) = text.now
item_text V (item.Name name) = name.now
item_text V (item.Number number) = decimal number
item_text V (item.Parameters number) = counted number (codes "parameter")
item_text V (item.Arguments step) = counted (length step.now.args) (codes "argument")
item_text V (item.Argument step number) = argument_of step.now number
item_text V (item.Before spot) = spot_before V spot
item_text V (item.Words step) = step_text step.now
item_text V (item.Step number) = numbered_step_text V number
item_text V (item.Atom atom) = atom_text V.numbers atom.now
item_text V (item.Value value) = value_text V.numbers value.now
item_text V (item.Preference name) = preference_text V name
item_text V (item.Operator operator) = operator_word operator
item_text V (item.Bindings bindings) = bindings_text V bindings.now
item_text V (item.Moment state) = moment_text V state
item_text V (item.Operand operand) = operand_text operand
item_text V (item.Truth holds) = truth_word holds

-- one behind another
abbrev pub items_text : Vocabulary → List Item → List ℕ
items_text V items = joined (item_text V) items
