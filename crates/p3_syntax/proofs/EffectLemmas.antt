-- One layer of an effect.
use Rattle.std.proofs.Common.{◌≡◌, ◌∙◌, refl, ap, ℕ, Bool, true, false, List, [], ◌∷◌, Option, Some, None}
use Rattle.std.specs.Option.{option_or}
use Rattle.p3_task.specs.Grammar.Words.{◌>>=◌, numeral_place, pair, parts_place, expressions, headed}
use Rattle.p3_task.specs.Grammar.Formulas.{formula_place}
use Rattle.p3_task.specs.Grammar.Effects.{amount_place, function_value_in, effect_place, effect_in, when_form}
use Rattle.p3_task.specs.declared.effect.Amount.{Amount}
use Rattle.p3_task.specs.declared.effect.Amount.TheVariants as amount
use Rattle.p3_task.specs.declared.effect.Effect.TheVariants as effect
use Rattle.p3_task.specs.declared.expression.Expression.{Expression, Group'}
use Rattle.p3_task.specs.declared.expression.Expression.TheVariants as expression
use Rattle.p3_outline.specs.Nodes.{IsWordOf, IsList}
use Rattle.p3_syntax.specs.Trees.{listed}
use Rattle.p3_syntax.specs.Effects.{effect_found, effect_of}
use Rattle.p3_syntax.proofs.TreeLemmas.{row_listed}

in_parts : (es : List Expression) (free : Bool) → effect_in (listed effect_found es) free ≡ headed (λ e. e) es >>= λ list. effect_of list.0 list.1 free
in_parts [] free = refl
in_parts (expression.Word at text ∷ es) free = refl
in_parts (Group' at shape parts ∷ es) free = refl

pub found_in_parts : (e : Expression) (free : Bool)
    → effect_found e free ≡ parts_place e >>= λ es. headed (λ e. e) es >>= λ list. effect_of list.0 list.1 free
unfolding effect_found
found_in_parts (expression.Word at text) free = refl
found_in_parts (Group' at shape parts) free = ap (λ ps. effect_in ps free) (row_listed (λ word free. None) (λ list parts. effect_in parts) parts) ∙ in_parts (expressions parts) free

pub found_free : (e : Expression) → effect_place e ≡ effect_found e true
unfolding effect_found effect_place
found_free e = refl

-- two parts, whichever of them is read first
swapped : {A B C : Type 0} (first : Option A) (second : Option B) (made : A → B → C)
    → (first >>= λ a. second >>= λ b. Some (made a b)) ≡ second >>= λ b. first >>= λ a. Some (made a b)
swapped None None made = refl
swapped None (Some b) made = refl
swapped (Some a) None made = refl
swapped (Some a) (Some b) made = refl

pub when_listed : (list : List Expression) (free : Bool)
    → when_form (listed effect_found list) free ≡ pair list >>= λ both. effect_found both.1 false >>= λ body. formula_place both.0 >>= λ condition. Some (effect.If condition body)
when_listed [] free = refl
when_listed (e ∷ []) free = refl
when_listed (e ∷ d ∷ []) free = swapped (formula_place e) (effect_found d false) effect.If
when_listed (e ∷ d ∷ c ∷ list) free = refl

-- ---- amounts

number_only : (read : Option Amount) → option_or read None ≡ read
number_only None = refl
number_only (Some found) = refl

pub amount_word : (e : Expression) (bytes : List ℕ) → IsWordOf e bytes → amount_place e ≡ numeral_place e >>= λ numeral. Some (amount.Number numeral)
amount_word (expression.Word at text) bytes is = number_only (numeral_place (expression.Word at text) >>= λ numeral. Some (amount.Number numeral))
amount_word (Group' at shape parts) bytes is = absurd cc

pub amount_list : (e : Expression) → IsList e → amount_place e ≡ parts_place e >>= function_value_in
amount_list (expression.Word at text) is = absurd cc
amount_list (Group' at shape parts) is = refl
