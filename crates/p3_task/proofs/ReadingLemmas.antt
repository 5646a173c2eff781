-- What is read of a text is what its tokens spell.
use Rattle.std.proofs.Common.{◌≡◌, ◌∙◌, refl, sym, ap, ℕ, Bool, true, false, if◌then◌else◌, List, [], ◌∷◌, ◌++◌, map, fold, length, Option, Some, None, ◌⊎◌, inl, inr, append_assoc}
use Rattle.std.specs.Prelude.{nat_lt, is_none}
use Rattle.std.proofs.lemmas.List.{append-nil}
use Rattle.std.proofs.lemmas.List.Folds.{fold_stays}
use mathlib.Core.Former.{Count}
use Rattle.p3_task.specs.Tokens.{Token, Open, Close, Word, tokens_of}
use Rattle.p3_task.specs.Expressions.{kept, spelling, spellings, Spells, Group, Reading, Within, Whole, Stopped, with_part, read_token, whole_of, expression_of, expression_of_text}
use Rattle.p3_task.specs.Grammar.Texts.{IsBalanced}
use Rattle.p3_task.specs.declared.expression.Expression.{Expression, Row_of-Expression, end_of-Expression, more_of-Expression, items-the_row-Expression, items_hidden-the_row-Expression-0}
use Rattle.p3_task.specs.declared.expression.Expression.TheBlock.{hidden-the_row-Expression-0}
use Rattle.p3_task.specs.declared.expression.Expression.TheVariants as expression

abbrev spelled_parts : List Expression → List Token
spelled_parts [] = []
spelled_parts (e ∷ es) = spelling e ++ spelled_parts es

-- the outermost group stands first in a text
abbrev spelled_groups : List Group → List Token
spelled_groups [] = []
spelled_groups (group ∷ outer) = spelled_groups outer ++ Open group.at ∷ spelled_parts group.parts

abbrev spelled_so_far : Reading → List Token
spelled_so_far (Within groups) = spelled_groups groups
spelled_so_far (Whole e) = spelling e
spelled_so_far Stopped = []

spelled_row : {n : Count} (row : Row_of-Expression n) → spellings row ≡ spelled_parts (items-the_row-Expression n row)
unfolding spelling
spelled_row end_of-Expression = refl
spelled_row (more_of-Expression part rest) = ap (λ later. spelling part ++ later) (spelled_row rest)

spelled_group : (at : ℕ) (parts : List Expression) → spelling (expression.Group at parts) ≡ Open at ∷ spelled_parts parts ++ Close 0 ∷ []
unfolding spelling
spelled_group at parts =
    ap (λ inner. Open at ∷ inner ++ Close 0 ∷ []) (spelled_row (hidden-the_row-Expression-0 parts) ∙ ap spelled_parts (items_hidden-the_row-Expression-0 parts))

more_parts : (front : List Expression) (e : Expression) → spelled_parts (front ++ e ∷ []) ≡ spelled_parts front ++ spelling e
more_parts [] e = append-nil (spelling e)
more_parts (first ∷ front) e = ap (λ later. spelling first ++ later) (more_parts front e) ∙ sym (append_assoc (spelling first) (spelled_parts front) (spelling e))

spelled_with : (e : Expression) (groups : List Group) → spelled_so_far (with_part e groups) ≡ spelled_groups groups ++ spelling e
spelled_with e [] = refl
spelled_with e (group ∷ outer) =
    ap (λ parts. spelled_groups outer ++ Open group.at ∷ parts) (more_parts group.parts e)
    ∙ sym (append_assoc (spelled_groups outer) (Open group.at ∷ spelled_parts group.parts) (spelling e))

-- a token that goes on is spelled behind what was read
abbrev GoesOn : Reading → Token → Reading → Type 0
GoesOn read token next = (next ≡ Stopped) ⊎ (spelled_so_far next ≡ spelled_so_far read ++ kept token ∷ [])

goes_on : (limit : ℕ) (read : Reading) (token : Token) → GoesOn read token (read_token limit read token)
unfolding spelling
goes_on limit (Within groups) (Open at) = by (nat_lt (length groups) limit)
  where
    by : (fits : Bool) → GoesOn (Within groups) (Open at) (if fits then Within (record { at = at; parts = [] } ∷ groups) else Stopped)
    by true = inr refl
    by false = inl refl
goes_on limit (Within []) (Close at) = inl refl
goes_on limit (Within (group ∷ outer)) (Close at) =
    inr (spelled_with (expression.Group group.at group.parts) outer ∙ ap (λ inner. spelled_groups outer ++ inner) (spelled_group group.at group.parts)
    ∙ sym (append_assoc (spelled_groups outer) (Open group.at ∷ spelled_parts group.parts) (Close 0 ∷ [])))
goes_on limit (Within groups) (Word at text) = inr (spelled_with (expression.Word at text) groups)
goes_on limit (Whole e) token = inl refl
goes_on limit Stopped token = inl refl

more_spelled : (limit : ℕ) (read next : Reading) (token : Token) (tokens : List Token) (e : Expression) → GoesOn read token next
    → whole_of (fold (read_token limit) next tokens) ≡ Some e → spelled_so_far next ++ map kept tokens ≡ spelling e
    → spelled_so_far read ++ kept token ∷ map kept tokens ≡ spelling e
more_spelled limit read next token tokens e (inl stopped) is later =
    let none : whole_of (fold (read_token limit) next tokens) ≡ None =
    ap (λ (r : Reading). whole_of (fold (read_token limit) r tokens)) stopped ∙ ap whole_of (fold_stays (read_token limit) Stopped (λ token. refl) tokens) in
    absurd (cc)
more_spelled limit read next token tokens e (inr more) is later =
    sym (append_assoc (spelled_so_far read) (kept token ∷ []) (map kept tokens)) ∙ ap (λ front. front ++ map kept tokens) (sym more) ∙ later

-- what was read and the tokens left spell the whole
spelled_whole : (limit : ℕ) (read : Reading) (tokens : List Token) (e : Expression)
    → whole_of (fold (read_token limit) read tokens) ≡ Some e → spelled_so_far read ++ map kept tokens ≡ spelling e
spelled_whole limit (Within groups) [] e is = absurd cc
spelled_whole limit (Whole whole) [] e is =
    let same : whole ≡ e = cc in
    append-nil (spelling whole) ∙ ap spelling same
spelled_whole limit Stopped [] e is = absurd cc
spelled_whole limit read (token ∷ tokens) e is =
    more_spelled limit read (read_token limit read token) token tokens e (goes_on limit read token) is (spelled_whole limit (read_token limit read token) tokens e is)

pub tokens_spell : (limit : ℕ) (tokens : List Token) (e : Expression) → expression_of limit tokens ≡ Some e → Spells tokens e
unfolding expression_of
tokens_spell limit tokens e is = spelled_whole limit (Within []) tokens e is

pub text_balanced : (limit : ℕ) (text : List ℕ) (e : Expression) → expression_of_text limit text ≡ Some e → IsBalanced text e
text_balanced limit text e is = by (tokens_of text).foreign refl is
  where
    by : (foreign : Option ℕ) → (tokens_of text).foreign ≡ foreign
        → (if is_none foreign then expression_of limit (tokens_of text).tokens else None) ≡ Some e → IsBalanced text e
    by None known is = record { known = known; spelled = tokens_spell limit (tokens_of text).tokens e is }
    by (Some at) known is = absurd cc
