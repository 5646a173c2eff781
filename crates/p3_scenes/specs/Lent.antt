-- What lent parts of trees are.
use Rattle.std.specs.Prelude.{List, map, Option, option_map}
use Rattle.std.specs.Borrow.{Bor}
use Rattle.p3_base.specs.Operators.{over}
use Rattle.p3_base.specs.declared.operator.Operator.{Operator}
use Rattle.p3_task.specs.Names.{Name}
use Rattle.p3_numbers.specs.NumberedModal.{NumberedModal}
use Rattle.p3_numbers.specs.Places.{Variables}
use Rattle.p3_numbers.specs.declared.condition.NumberedCondition.{NumberedCondition}

abbrev pub lent_words : List (Bor Name) → Variables
lent_words words = map (λ (word : Bor Name). word.now) words

abbrev pub lent_operator : Operator (Bor NumberedCondition) → NumberedModal
lent_operator operator = over (λ (condition : Bor NumberedCondition). condition.now) operator

abbrev pub lent_name : Option (Bor Name) → Option Name
lent_name name = option_map (λ (word : Bor Name). word.now) name
