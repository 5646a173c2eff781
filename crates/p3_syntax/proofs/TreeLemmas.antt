-- Lists, and the parts of their trees.
use Rattle.std.proofs.Common.{◌≡◌, refl, ap, List, [], ◌∷◌, map, Option, Some, None}
use Rattle.std.specs.Prelude.{IsSome}
use mathlib.Core.Former.{Count}
use Rattle.p3_task.specs.Grammar.Words.{◌>>=◌, ListPart, raws, descend, descend_parts, expressions, parts_place, word_place, headed}
use Rattle.p3_task.specs.declared.expression.Expression.{Expression, Group', Row_of-Expression, end_of-Expression, more_of-Expression}
use Rattle.p3_task.specs.declared.expression.Expression.TheVariants as expression
use Rattle.p3_task.specs.declared.term.Ref.{Ref}
use Rattle.p3_outline.specs.Nodes.{elements}
use Rattle.p3_syntax.specs.Trees.{listed}

-- the parts of an expression that has any
pub has_parts : (e : Expression) → IsSome (parts_place e) → parts_place e ≡ Some (elements e)
has_parts (expression.Word at text) has = absurd cc
has_parts (Group' at shape parts) has = refl

-- the parts of a list, each with what the place makes of it
pub row_listed : {A : Type 0} (word : Expression → A) (list : Expression → List (ListPart A) → A) {n : Count} (row : Row_of-Expression n)
    → descend_parts word list row ≡ listed (descend word list) (expressions row)
row_listed word list end_of-Expression = refl
row_listed word list (more_of-Expression part rest) = ap (λ parts. record { raw = part; tree = descend word list part } ∷ parts) (row_listed word list rest)

module _ {A : Type 0} (place : Expression → A) where
  pub raws_listed : (list : List Expression) → raws (listed place list) ≡ list
  raws_listed [] = refl
  raws_listed (e ∷ list) = ap (λ es. e ∷ es) (raws_listed list)

  pub trees_listed : (list : List Expression) → map (λ (part : ListPart A). part.tree) (listed place list) ≡ map place list
  trees_listed [] = refl
  trees_listed (e ∷ list) = ap (λ trees. place e ∷ trees) (trees_listed list)

  abbrev pub head_listed : Ref × List Expression → Ref × List (ListPart A)
  head_listed found = (found.0, listed place found.1)

  -- what is made of a list by its first word
  pub headed_listed : {B : Type 0} (list : List Expression) (reading : Ref × List (ListPart A) → Option B)
      → (headed (λ (part : ListPart A). part.raw) (listed place list) >>= reading) ≡ headed (λ (e : Expression). e) list >>= λ found. reading (head_listed found)
  headed_listed [] reading = refl
  headed_listed (e ∷ list) reading = by (word_place e)
    where
      with_word : {X : Type 0} → List X → Ref → Ref × List X
      with_word list word = (word, list)

      by : (word : Option Ref) → ((word >>= λ word. Some (with_word (listed place list) word)) >>= reading) ≡ (word >>= λ word. Some (with_word list word)) >>= λ found. reading (head_listed found)
      by None = refl
      by (Some word) = refl
