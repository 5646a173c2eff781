-- One layer of a metric.
use Rattle.std.proofs.Common.{◌≡◌, ◌∙◌, refl, sym, ap, subst, ℕ, Bool, true, false, if◌then◌else◌, List, Option, Some, None}
use Rattle.std.specs.Option.{option_or}
use Rattle.std.proofs.lemmas.Slice.Eq.{bytes_eq-Decides}
use Rattle.p3_task.specs.Names.{Name, same_name, total_cost}
use Rattle.p3_task.proofs.OnceLemmas.{Some-injective}
use Rattle.p3_task.specs.Grammar.Words.{◌>>=◌, choose, headed, numeral_place, word_place}
use Rattle.p3_task.specs.Grammar.Metrics.{num_forms, num_place, num_word, num_in}
use Rattle.p3_task.specs.declared.metric.Num.{Num}
use Rattle.p3_task.specs.declared.metric.Num.TheVariants as num
use Rattle.p3_task.specs.declared.term.Ref.{Ref}
use Rattle.p3_task.specs.declared.expression.Expression.{Expression, Group'}
use Rattle.p3_task.specs.declared.expression.Expression.TheVariants as expression
use Rattle.p3_outline.specs.Nodes.{IsWordOf, IsList, elements}
use Rattle.p3_syntax.specs.Metrics.{num_of}
use Rattle.p3_syntax.proofs.TreeLemmas.{headed_listed}
use Rattle.p3_syntax.proofs.LayerLemmas.{descend_word, descend_list}

pub num_of_word : (e : Expression) (bytes : List ℕ) → IsWordOf e bytes → num_place e ≡ num_word e
unfolding num_place
num_of_word e bytes is = descend_word num_word (λ list parts. num_in parts) e bytes is

pub num_of_list : (e : Expression) → IsList e → num_place e ≡ headed (λ (part : Expression). part) (elements e) >>= λ list. num_of list.0 list.1
unfolding num_place
num_of_list e is =
    descend_list num_word (λ list parts. num_in parts) e is
    ∙ headed_listed num_place (elements e) (λ list. choose list.0.name num_forms (λ head behind. None) list.0 list.1)

-- ---- a word

abbrev cost_if : Bool → Ref → Option Num
cost_if is_cost word = (if is_cost then Some word else None) >>= λ (word : Ref). Some (num.TotalCost word.at)

or_none : (read : Option Num) → option_or read None ≡ read
or_none None = refl
or_none (Some found) = refl

-- `total-cost` is no number
pub cost_word : (e : Expression) (word : Ref) → word_place e ≡ Some word → same_name total_cost word.name ≡ true → num_word e ≡ Some (num.TotalCost word.at)
cost_word (expression.Word at text) word is same =
    let found = Some-injective _ word is in
    let name : total_cost ≡ text = (bytes_eq-Decides total_cost word.name).0 same ∙ sym (ap (λ (w : Ref). w.name) found) in
    subst (λ (t : Name). num_word (expression.Word at t) ≡ Some (num.TotalCost at)) name refl ∙ ap (λ (w : Ref). Some (num.TotalCost w.at)) found
cost_word (Group' at shape parts) word is same = absurd cc

-- and any other word is one
pub other_word : (e : Expression) (word : Ref) → word_place e ≡ Some word → same_name total_cost word.name ≡ false → num_word e ≡ numeral_place e >>= λ numeral. Some (num.Number numeral)
other_word (expression.Word at text) word is differs =
    let found = Some-injective _ word is in
    let number : Option Num = numeral_place (expression.Word at text) >>= λ numeral. Some (num.Number numeral) in
    ap (λ b. option_or number (cost_if b (record { name = text; at = at }))) (ap (λ (w : Ref). same_name total_cost w.name) found ∙ differs) ∙ or_none number
other_word (Group' at shape parts) word is differs = absurd cc
