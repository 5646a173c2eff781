-- Constructs that are left out by name, wherever they stand in a balanced text (the profile's list).
use Rattle.std.specs.Prelude.{ℕ, Bool, true, false, not, ◌&&◌, List, [], ◌∷◌, ◌++◌, map, codes, if◌then◌else◌, Option, Some, None}
use Rattle.std.specs.List.{list_any}
use Rattle.std.specs.Option.{option_map_or}
use mathlib.Core.Former.{Count}
use Rattle.p3_base.specs.Words.{is_name}
use Rattle.p3_task.specs.Names.{Name, same_name, has_name, total_cost}
use Rattle.p3_task.specs.Decimals.{is_decimal}
use Rattle.p3_task.specs.Grammar.Words.{expressions, word_place}
use Rattle.p3_task.specs.declared.expression.Expression.{Expression, Group', Row_of-Expression, end_of-Expression, more_of-Expression}
use Rattle.p3_task.specs.declared.expression.Expression.TheVariants as expression
use Rattle.p3_task.specs.declared.term.Ref.{Ref}

-- a list with one of these words at its head
abbrev pub left_out : List Name
left_out = map codes (":durative-action" ∷ ":derived" ∷ ":axiom" ∷ ":length" ∷ "within" ∷ "always-within" ∷ "hold-during" ∷ "hold-after" ∷ "assign" ∷ "decrease" ∷ "scale-up" ∷ "scale-down" ∷ "/" ∷ "<" ∷ ">" ∷ "<=" ∷ ">=" ∷ [])

abbrev pub has_some : List Name → List Name → Bool
has_some names wanted = list_any (has_name names) wanted

-- the word, where the test passes
abbrev pub word_when : Bool → Ref → List Ref
word_when true word = word ∷ []
word_when false word = []

abbrev pub is_word_called : Ref → List ℕ → Bool
is_word_called word text = same_name word.name text

-- the word at the head of an expression that is a list
abbrev pub first_word : List Expression → Option Ref
first_word [] = None
first_word (first ∷ others) = word_place first

abbrev pub head_of : Expression → Option Ref
head_of (expression.Word at text) = None
head_of (Group' at shape parts) = first_word (expressions parts)

abbrev pub is_number_or_list : Expression → Bool
is_number_or_list (expression.Word at text) = is_decimal text
is_number_or_list (Group' at shape parts) = true

abbrev pub second_is_number : List Expression → Bool
second_is_number (expression.Word at text ∷ others) = is_decimal text
second_is_number _ = false

-- an increase of something else than the total cost
abbrev pub unless_total_cost : Option Ref → List Ref
unless_total_cost None = []
unless_total_cost (Some word) = word_when (not (is_word_called word total_cost)) word

abbrev pub other_increase : List Expression → List Ref
other_increase [] = []
other_increase (second ∷ others) = unless_total_cost (head_of second)

-- a word other than `number` behind a `-`
abbrev pub not_a_number : Bool → List Expression → List Ref
not_a_number is_behind [] = []
not_a_number is_behind (Group' at shape parts ∷ rest) = not_a_number false rest
not_a_number is_behind (expression.Word at text ∷ rest) = word_when (is_behind && not (same_name text (codes "number"))) (record { name = text; at = at }) ++ not_a_number (same_name text (codes "-")) rest

-- what a list shows: its head and the other elements, the heads of the lists around it, and that of the innermost one
abbrev pub shown_by : List Name → Option Name → Ref → List Expression → List Ref
shown_by around innermost head behind =
    word_when (has_name left_out head.name) head
    ++ word_when (is_word_called head (codes "either") && has_some around (map codes (":types" ∷ ":constants" ∷ ":objects" ∷ []))) head
    ++ word_when (is_word_called head (codes "increase") && has_some around (map codes ("when" ∷ "forall" ∷ []))) head
    ++ (if is_word_called head (codes "increase") then other_increase behind else [])
    ++ (if is_word_called head (codes ":functions") then not_a_number false behind else [])
    ++ word_when (is_word_called head (codes "at") && option_map_or (same_name (codes ":init")) innermost false && second_is_number behind) head
    ++ word_when (is_word_called head (codes "=") && not (has_name around (codes ":init")) && list_any is_number_or_list behind) head
    ++ word_when (has_name around (codes ":metric") && is_name head.name && not (is_word_called head (codes "is-violated")) && not (is_word_called head total_cost)) head

unfoldable mutual
  pub constructs : List Name → Option Name → Expression → List Ref
  constructs around innermost (expression.Word at text) = word_when (same_name text (codes "total-time")) (record { name = text; at = at })
  constructs around innermost (Group' at shape parts) = constructs_of around innermost parts

  pub constructs_of : List Name → Option Name → {n : Count} → Row_of-Expression n → List Ref
  constructs_of around innermost end_of-Expression = []
  constructs_of around innermost (more_of-Expression (expression.Word at text) rest) =
      shown_by around innermost (record { name = text; at = at }) (expressions rest)
      ++ constructs around (Some text) (expression.Word at text) ++ constructs_all (text ∷ around) (Some text) rest
  constructs_of around innermost (more_of-Expression (Group' at shape parts) rest) = constructs_of around None parts ++ constructs_all around None rest

  pub constructs_all : List Name → Option Name → {n : Count} → Row_of-Expression n → List Ref
  constructs_all around innermost end_of-Expression = []
  constructs_all around innermost (more_of-Expression part rest) = constructs around innermost part ++ constructs_all around innermost rest
