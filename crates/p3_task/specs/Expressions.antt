-- What tokens spell.
use Rattle.std.specs.Prelude.{◌≡◌, ℕ, nat_lt, if◌then◌else◌, fold, map, List, [], ◌∷◌, ◌++◌, length, Option, Some, None, is_none}
use Rattle.p3_task.specs.Tokens.{Token, Open, Close, Word, tokens_of}
use Rattle.p3_task.specs.declared.expression.Expression.{Expression, Group', Row_of-Expression, end_of-Expression, more_of-Expression}
use Rattle.p3_task.specs.declared.expression.Expression.TheVariants as expression

-- an expression does not keep where its `)` stand
abbrev pub kept : Token → Token
kept (Close at) = Close 0
kept token = token

-- A word spells itself; a list is `(`, the spellings of its parts, and `)`.
unfoldable mutual
  pub spelling : Expression → List Token
  spelling (expression.Word at text) = Word at text ∷ []
  spelling (Group' at shape parts) = Open at ∷ spellings parts ++ Close 0 ∷ []

  pub spellings : {shape : _} → Row_of-Expression shape → List Token
  spellings end_of-Expression = []
  spellings (more_of-Expression part parts) = spelling part ++ spellings parts

abbrev pub Spells : List Token → Expression → Type 0
Spells tokens e = map kept tokens ≡ spelling e

-- a group that is open: the offset of its `(`, and its parts so far
pub record Group : Type 0 where
  pub at : ℕ
  pub parts : List Expression

-- how far reading has come: some groups are open, the innermost first; one expression is whole; or no expression begins with these tokens
pub data Reading : Type 0 where
  Within : (groups : List Group) → Reading
  Whole : (e : Expression) → Reading
  Stopped : Reading

-- an expression is a part of the innermost group, or is the whole
abbrev pub with_part : Expression → List Group → Reading
with_part e [] = Whole e
with_part e (group ∷ outer) = Within (record { at = group.at; parts = group.parts ++ e ∷ [] } ∷ outer)

abbrev pub closed : List Group → Reading
closed [] = Stopped
closed (group ∷ outer) = with_part (expression.Group group.at group.parts) outer

-- one more token, where no group may be open above the limit
abbrev pub read_token : ℕ → Reading → Token → Reading
read_token limit (Within groups) (Open at) = if nat_lt (length groups) limit then Within (record { at = at; parts = [] } ∷ groups) else Stopped
read_token limit (Within groups) (Close at) = closed groups
read_token limit (Within groups) (Word at text) = with_part (expression.Word at text) groups
read_token limit (Whole e) token = Stopped
read_token limit Stopped token = Stopped

abbrev pub whole_of : Reading → Option Expression
whole_of (Whole e) = Some e
whole_of _ = None

-- the one expression that the tokens spell, with no list above the limit
unfoldable pub expression_of : ℕ → List Token → Option Expression
expression_of limit tokens = whole_of (fold (read_token limit) (Within []) tokens)

-- the one expression that a text spells
abbrev pub expression_of_text : ℕ → List ℕ → Option Expression
expression_of_text limit text =
    let found = tokens_of text in
    if is_none found.foreign then expression_of limit found.tokens else None
