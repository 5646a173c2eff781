-- What words and parts of views stand for.
use Rattle.std.specs.Prelude.{◌≡◌, ℕ, ◌+◌, ◌-◌, ◌*◌, ◌^◌, ◌<◌, ◌++◌, Bool, true, false, ◌&&◌, if◌then◌else◌, List, [], ◌∷◌, length, map, codes, Option, Some, None}
use Rattle.std.specs.Str.{str_to_ascii_lowercase}
use Rattle.p3_task.specs.Grammar.Words.{◌>>=◌, ListPart, Place, choose}
use Rattle.p3_task.specs.Grammar.Formulas.{formula_place, formula_forms, atom_form}
use Rattle.p3_task.specs.Grammar.Goals.{goal_place, goal_forms, each_form}
use Rattle.p3_task.specs.Grammar.Constraints.{modal_forms, inner_forms, inner_place, constraint_place, single_form}
use Rattle.p3_task.specs.Grammar.Constraints as constraint
use Rattle.p3_task.specs.declared.formula.Formula.{Formula}
use Rattle.p3_task.specs.Modal.{Modal}
use Rattle.p3_task.specs.declared.constraint.Constraint.{Constraint}
use Rattle.p3_task.specs.declared.goal.PreGoal.{PreGoal}
use Rattle.p3_task.specs.declared.goal.PreGoal.TheVariants.{Plain}
use Rattle.p3_syntax.specs.declared.tree.goals.NamedBody.{NamedBody}
use Rattle.p3_task.specs.declared.expression.Expression.{Expression, Word, Group'}
use Rattle.p3_task.specs.declared.term.Ref.{Ref}
use Rattle.p3_task.specs.declared.effect.Numeral.{Numeral}
use Rattle.p3_outline.specs.declared.view.View.{View}
use Rattle.p3_outline.specs.declared.view.Parts.{Parts}
use Rattle.p3_syntax.specs.declared.tree.numerals.Decimal.{Decimal}
use Rattle.p3_task.specs.Names.{Name, same_name}
use Rattle.p3_task.specs.Decimals.{is_decimal, digits_of, digits_value, places_of}
use Rattle.p3_syntax.specs.declared.tree.words.TextWord.{TextWord}
use Rattle.p3_syntax.specs.declared.tree.parts.HeadedParts.{HeadedParts}
use Rattle.p3_outline.specs.Nodes.{expression_of, expressions_of}

abbrev pub the_word : TextWord → Ref
the_word word = record { name = str_to_ascii_lowercase word.text.now; at = word.at }

abbrev pub the_pair : View × View → Expression × Expression
the_pair both = (expression_of both.0, expression_of both.1)

abbrev pub the_head : HeadedParts → Ref × List Expression
the_head list = (the_word list.word, expressions_of list.behind)

-- expressions, each with what a place makes of it
abbrev pub listed : {A : Type 0} → (Expression → A) → List Expression → List (ListPart A)
listed place list = map (λ e. record { raw = e; tree = place e }) list

-- ---- numbers

-- a number with one digit more
abbrev pub with_digit : ℕ → ℕ → ℕ
with_digit value digit = value * 10 + (digit - 48)

-- the word is a number with these digits
pub record IsDecimalOf (decimal : Decimal) (word : Name) : Type 0 where
  pub number : is_decimal word ≡ true
  pub digits : digits_of word ≡ decimal.whole.now ++ decimal.places.now
  pub places : places_of word ≡ length decimal.places.now

abbrev pub decimal_value : Decimal → ℕ
decimal_value decimal = digits_value (decimal.whole.now ++ decimal.places.now)

abbrev pub numeral_with : List ℕ → ℕ → Decimal → Numeral
numeral_with word at decimal = record { at = at; len = length word; digits = decimal_value decimal; places = length decimal.places.now }

-- the fields of a number hold what they are to
pub record HasRoomFor (word : List ℕ) (decimal : Decimal) : Type 0 where
  pub len : length word < 2 ^ 32
  pub digits : decimal_value decimal < 2 ^ 64
  pub places : length decimal.places.now < 2 ^ 32

pub record HasRoom (word : Name) : Type 0 where
  pub len : length word < 2 ^ 32
  pub digits : digits_value (digits_of word) < 2 ^ 64

abbrev pub HasRoomAt : Expression → Type 0
HasRoomAt (Word at text) = HasRoom text
HasRoomAt (Group' at shape parts) = Unit {0}

-- ---- formulas

-- what a form makes of parts
abbrev pub form_at : (List (ListPart (Option Formula)) → Option Formula) → Parts → Option Formula
form_at form parts = form (listed formula_place (expressions_of parts))

-- the parts of a list with this first word
abbrev pub with_head : Ref → List Expression → List Expression
with_head head behind = Word head.at head.name ∷ behind

-- the atom with this first word
abbrev pub atom_by : Ref → Parts → Option Formula
atom_by head behind = atom_form (listed formula_place (with_head head (expressions_of behind)))

-- the formula of a list with this first word
abbrev pub formula_of : Ref → List Expression → Option Formula
formula_of head behind = choose head.name formula_forms (λ others. atom_form (listed formula_place (with_head head behind))) (listed formula_place behind)

abbrev pub formula_by : TextWord → Parts → Option Formula
formula_by word behind = formula_of (the_word word) (expressions_of behind)

-- ---- goals

-- a word for forms that don't look at theirs
abbrev pub any_word : Ref
any_word = record { name = []; at = 0 }

abbrev pub the_named : NamedBody → Option Ref × Expression
the_named found = (found.name, expression_of found.body)

abbrev pub each_goal : Parts → Option PreGoal
each_goal behind = each_form any_word (listed goal_place (expressions_of behind))

-- the formula of a list with this first word, as a goal
abbrev pub plain_of : Ref → List Expression → Option PreGoal
plain_of head behind = formula_of head behind >>= λ tree. Some (Plain tree)

-- the goal of a list with this first word
abbrev pub goal_of : Ref → List Expression → Option PreGoal
goal_of head behind = choose head.name goal_forms (λ word others. plain_of head behind) head (listed goal_place behind)

abbrev pub goal_by : TextWord → Parts → Option PreGoal
goal_by word behind = goal_of (the_word word) (expressions_of behind)

-- ---- constraints

-- the operator of a list with this first word
abbrev pub modal_by : List ℕ → Parts → Option Modal
modal_by word behind = choose (str_to_ascii_lowercase word) modal_forms (λ behind. None) (expressions_of behind)

-- a constraint, in which preferences may stand or not
abbrev pub constraint_at : Bool → Place Constraint
constraint_at true = constraint_place
constraint_at false = inner_place

abbrev pub both_constraints : Bool → Parts → Option Constraint
both_constraints may_be_soft behind = constraint.both_form any_word (listed (constraint_at may_be_soft) (expressions_of behind))

abbrev pub each_constraint : Bool → Parts → Option Constraint
each_constraint may_be_soft behind = constraint.each_form any_word (listed (constraint_at may_be_soft) (expressions_of behind))

abbrev pub soft_constraint : TextWord → Parts → Option Constraint
soft_constraint word behind = constraint.preference_form (the_word word) (listed constraint_place (expressions_of behind))

-- the constraint of a list with this first word
abbrev pub constraint_of : Bool → Expression → Ref → List Expression → Option Constraint
constraint_of may_be_soft e head behind =
    (if may_be_soft && same_name (codes "preference") head.name then constraint.preference_form else choose head.name inner_forms (λ head behind. single_form e))
    head (listed (constraint_at may_be_soft) behind)

abbrev pub constraint_by : Bool → View → TextWord → Parts → Option Constraint
constraint_by may_be_soft view word behind = constraint_of may_be_soft (expression_of view) (the_word word) (expressions_of behind)
