-- Places that go down a tree, one layer of it.
use Rattle.std.proofs.Common.{◌≡◌, ◌∙◌, refl, sym, ap, ℕ, List, [], ◌∷◌, Some}
use Rattle.p3_task.specs.Grammar.Words.{◌>>=◌, pair, ListPart, descend}
use Rattle.p3_task.specs.declared.expression.Expression.{Expression, Group'}
use Rattle.p3_task.specs.declared.expression.Expression.TheVariants as expression
use Rattle.p3_outline.specs.Nodes.{IsWordOf, IsList, elements}
use Rattle.p3_syntax.specs.Trees.{listed}
use Rattle.p3_syntax.proofs.TreeLemmas.{row_listed}

module _ {A : Type 0} (word : Expression → A) (list : Expression → List (ListPart A) → A) where
  pub descend_word : (e : Expression) (bytes : List ℕ) → IsWordOf e bytes → descend word list e ≡ word e
  descend_word e bytes is = ap (descend word list) is ∙ sym (ap word is)

  pub descend_list : (e : Expression) → IsList e → descend word list e ≡ list e (listed (descend word list) (elements e))
  descend_list (expression.Word at text) is = cc
  descend_list (Group' at shape parts) is = ap (list (Group' at shape parts)) (row_listed word list parts)

pub pair_listed : {A : Type 0} (place : Expression → A) (es : List Expression)
    → pair (listed place es) ≡ pair es >>= λ both. Some (record { raw = both.0; tree = place both.0 }, record { raw = both.1; tree = place both.1 })
pair_listed place [] = refl
pair_listed place (e ∷ []) = refl
pair_listed place (e ∷ d ∷ []) = refl
pair_listed place (e ∷ d ∷ c ∷ es) = refl
