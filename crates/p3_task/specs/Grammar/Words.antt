-- Words, lists and places of the grammar. A place gives the tree of each of its texts, so that a text has one tree at most.
-- Over an equation stands its production: `x*` is any number of x, `x+` at least one, `[x]` one or none, and `|` a choice; what stands in quotes stands in the text.
use Rattle.std.specs.Prelude.{◌≡◌, Bool, List, [], ◌∷◌, map, length, if◌then◌else◌, Option, Some, None}
use mathlib.Core.Former.{Count}
pub use Rattle.p3_base.specs.Words.{is_digit, is_name, is_variable, reserved_words, is_function_name, is_predicate_name}
pub use Rattle.p3_task.specs.Decimals.{is_decimal, digits_of, digits_value, places_of}
use Rattle.p3_task.specs.Names.{Name, same_name}
use Rattle.p3_task.specs.declared.expression.Expression.{Expression, Word, Group', Row_of-Expression, end_of-Expression, more_of-Expression}
use Rattle.p3_task.specs.declared.term.Ref.{Ref}
use Rattle.p3_task.specs.declared.effect.Numeral.{Numeral}

infixl 10 ◌>>=◌
abbrev pub ◌>>=◌ : {A B : Type 0} → Option A → (A → Option B) → Option B
None >>= next = None
(Some a) >>= next = next a

abbrev pub Place : Type 0 → Type 0
Place A = Expression → Option A

-- the expression is a text of the tree at the place
abbrev pub IsText : {A : Type 0} → Place A → Expression → A → Type 0
IsText place e tree = place e ≡ Some tree

-- a part of a list: the expression, and what a place makes of it
pub record ListPart (A : Type 0) : Type 0 where
  pub raw : Expression
  pub tree : A

-- ---- a place that goes down a tree, given at a word and at a list with its parts

abbrev mutual
  pub descend : {A : Type 0} → (Expression → A) → (Expression → List (ListPart A) → A) → Expression → A
  descend word list (Word at text) = word (Word at text)
  descend word list (Group' at shape parts) = list (Group' at shape parts) (descend_parts word list parts)

  pub descend_parts : {A : Type 0} → (Expression → A) → (Expression → List (ListPart A) → A) → {n : Count} → Row_of-Expression n → List (ListPart A)
  descend_parts word list end_of-Expression = []
  descend_parts word list (more_of-Expression part rest) = record { raw = part; tree = descend word list part } ∷ descend_parts word list rest

abbrev pub expressions : {n : Count} → Row_of-Expression n → List Expression
expressions end_of-Expression = []
expressions (more_of-Expression part rest) = part ∷ expressions rest

abbrev pub raws : {A : Type 0} → List (ListPart A) → List Expression
raws parts = map (λ part. part.raw) parts

-- ---- lists of trees

-- each part has a tree
abbrev pub all_trees : {A : Type 0} → List (Option A) → Option (List A)
all_trees [] = Some []
all_trees (tree ∷ trees) = do
  first ← tree
  rest ← all_trees trees
  Some (first ∷ rest)

abbrev pub each_at : {A : Type 0} → Place A → List Expression → Option (List A)
each_at place list = all_trees (map place list)

abbrev pub only : {A : Type 0} → List A → Option A
only (first ∷ []) = Some first
only _ = None

abbrev pub pair : {A : Type 0} → List A → Option (A × A)
pair (first ∷ second ∷ []) = Some (first, second)
pair _ = None

-- ---- words

abbrev pub word_place : Place Ref
word_place (Word at text) = Some (record { name = text; at = at })
word_place (Group' at shape parts) = None

abbrev pub parts_place : Place (List Expression)
parts_place (Word at text) = None
parts_place (Group' at shape parts) = Some (expressions parts)

-- a word that passes a test
abbrev pub word_if : (Name → Bool) → Place Ref
word_if test e = do
  word ← word_place e
  if test word.name then Some word else None

-- name: a letter, and then any bytes of a word
abbrev pub name_place : Place Ref
name_place = word_if is_name

-- variable: `?` and at least one byte more
abbrev pub variable_place : Place Ref
variable_place = word_if is_variable

-- the name of a function is no reserved word, and that of a predicate is not `total-cost` either
abbrev pub function_place : Place Ref
function_place = word_if is_function_name

abbrev pub predicate_place : Place Ref
predicate_place = word_if is_predicate_name

-- number: digits, or digits with one `.` that is neither first nor last; superfluous zeros are allowed
abbrev pub numeral_place : Place Numeral
numeral_place e = do
  word ← word_if is_decimal e
  Some (record { at = word.at; len = length word.name; digits = digits_value (digits_of word.name); places = places_of word.name })

-- ---- lists that begin with a word

abbrev pub is_word : Name → Place Ref
is_word text = word_if (same_name text)

-- the word at the head, and what stands behind it
abbrev pub headed : {A : Type 0} → (A → Expression) → List A → Option (Ref × List A)
headed raw [] = None
headed raw (first ∷ behind) = word_place (raw first) >>= λ word. Some (word, behind)

-- the form of a list that begins with this word, or else the last one
abbrev pub choose : {F : Type 0} → Name → List (Name × F) → F → F
choose word [] other = other
choose word (form ∷ forms) other = if same_name form.0 word then form.1 else choose word forms other
