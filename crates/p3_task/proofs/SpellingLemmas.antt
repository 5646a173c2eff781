-- Tokens spell one expression at most.
use Rattle.std.proofs.Common.{◌≡◌, ◌∙◌, refl, sym, ap, List, [], ◌∷◌, ◌++◌, append_assoc}
use mathlib.Core.Former.{Count}
use Rattle.p3_task.specs.Tokens.{Token, Close}
use Rattle.p3_task.specs.Expressions.{spelling, spellings, Spells}
use Rattle.p3_task.specs.declared.expression.Expression.{Expression, Row_of-Expression, end_of-Expression, more_of-Expression, roll-Expression, roll-out-Expression, items-the_row-Expression, items_shown-the_row-Expression-0}
use Rattle.p3_task.specs.declared.expression.Expression.TheVariants as expression

-- a list of expressions is known by its items
pub group_is : (at : _) (shape : _) (parts : Row_of-Expression _) → expression.Group' at shape parts ≡ expression.Group at (items-the_row-Expression _ parts)
group_is at shape parts = sym (roll-out-Expression (expression.Group' at shape parts)) ∙ ap roll-Expression (expression.outs-Group' at shape parts) ∙ expression.rolls-Group at _ ∙ ap (expression.Group at) (items_shown-the_row-Expression-0 shape parts)

-- no spelling begins with `)`
no_close : (e : Expression) (xs ys : List Token) → Close 0 ∷ xs ≡ spelling e ++ ys → ⊥
unfolding spelling
no_close (expression.Word at text) xs ys e = cc
no_close (expression.Group' at shape parts) xs ys e = cc

-- the parts, the `)` and what follows
behind : {n : Count} (parts : Row_of-Expression n) (xs : List Token) → (spellings parts ++ Close 0 ∷ []) ++ xs ≡ spellings parts ++ Close 0 ∷ xs
behind parts xs = append_assoc (spellings parts) (Close 0 ∷ []) xs

mutual
  unfolding spelling

  spelled_once : (e f : Expression) (xs ys : List Token) → spelling e ++ xs ≡ spelling f ++ ys → (e ≡ f) × (xs ≡ ys)
  spelled_once (expression.Word at text) (expression.Word place word) xs ys e =
      let same : at ≡ place = cc in
      let texts : text ≡ word = cc in
      ((λ i. expression.Word (same i) (texts i)), cc)
  spelled_once (expression.Word at text) (expression.Group' place shape parts) xs ys e = absurd (cc)
  spelled_once (expression.Group' at shape parts) (expression.Word place word) xs ys e = absurd (cc)
  spelled_once (expression.Group' at shape parts) (expression.Group' place form others) xs ys e =
      let same : at ≡ place = cc in
      let tails : (spellings parts ++ Close 0 ∷ []) ++ xs ≡ (spellings others ++ Close 0 ∷ []) ++ ys = cc in
      let both : (items-the_row-Expression _ parts ≡ items-the_row-Expression _ others) × (xs ≡ ys) = parts_once parts others xs ys (sym (behind parts xs) ∙ tails ∙ behind others ys) in
      (group_is at shape parts ∙ (λ i. expression.Group (same i) (both.0 i)) ∙ sym (group_is place form others), both.1)

  parts_once : {n m : Count} (parts : Row_of-Expression n) (others : Row_of-Expression m) (xs ys : List Token) → spellings parts ++ Close 0 ∷ xs ≡ spellings others ++ Close 0 ∷ ys → (items-the_row-Expression n parts ≡ items-the_row-Expression m others) × (xs ≡ ys)
  parts_once end_of-Expression end_of-Expression xs ys e = (refl, cc)
  parts_once end_of-Expression (more_of-Expression other others) xs ys e = absurd (no_close other xs (spellings others ++ Close 0 ∷ ys) (e ∙ append_assoc (spelling other) (spellings others) (Close 0 ∷ ys)))
  parts_once (more_of-Expression part parts) end_of-Expression xs ys e = absurd (no_close part ys (spellings parts ++ Close 0 ∷ xs) (sym e ∙ append_assoc (spelling part) (spellings parts) (Close 0 ∷ xs)))
  parts_once (more_of-Expression part parts) (more_of-Expression other others) xs ys e =
      let first : (part ≡ other) × (spellings parts ++ Close 0 ∷ xs ≡ spellings others ++ Close 0 ∷ ys) = spelled_once part other (spellings parts ++ Close 0 ∷ xs) (spellings others ++ Close 0 ∷ ys) (sym (append_assoc (spelling part) (spellings parts) (Close 0 ∷ xs)) ∙ e ∙ append_assoc (spelling other) (spellings others) (Close 0 ∷ ys)) in
      let rest : (items-the_row-Expression _ parts ≡ items-the_row-Expression _ others) × (xs ≡ ys) = parts_once parts others xs ys first.1 in
      ((λ i. first.0 i ∷ rest.0 i), rest.1)

pub one_expression_at_most : (tokens : List Token) (e f : Expression) → Spells tokens e → Spells tokens f → e ≡ f
one_expression_at_most tokens e f first second = (spelled_once e f [] [] (ap (λ spelled. spelled ++ []) (sym first ∙ second))).0
