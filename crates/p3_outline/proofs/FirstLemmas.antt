-- The first refusal of a text with an outline.
use Rattle.std.proofs.Common.{◌≡◌, ◌≢◌, ◌∙◌, refl, sym, ap, ℕ, List, [], ◌∷◌, map, length, Option, Some, None, is_none}
use Rattle.std.specs.Prelude.{if◌then◌else◌}
use Rattle.std.specs.Option.{option_or}
use Rattle.p3_base.specs.declared.refusal.Refusal.{Refusal}
use Rattle.p3_base.specs.declared.refusal.Role.{Role}
use Rattle.p3_base.specs.declared.refusal.Role.TheVariants as role
use Rattle.p3_base.specs.declared.refusal.Side.{Side}
use Rattle.p3_task.specs.Expressions.{expression_of}
use Rattle.p3_task.specs.Sides.{level_limit}
use Rattle.p3_task.specs.Tokens.{Token, tokens_of}
use Rattle.p3_task.specs.Refusals.Places.{first_some}
use Rattle.p3_task.specs.Refusals.Texts.{Inside, construct_in, long_number, refusal_of_bytes, text_refusal, unbalanced_from, too_deep_from}
use Rattle.p3_task.specs.declared.expression.Expression.{Expression}
use Rattle.p3_places.specs.Searches.{side_of, half_of}
use Rattle.p3_outline.specs.declared.view.Outline.{Outline}
use Rattle.p3_outline.specs.Balances.{or_foreign, refusal_of_tokens}
use Rattle.p3_outline.specs.Nodes.{root_of}
use Rattle.p3_outline.specs.Outlines.{IsOutline}
use Rattle.p3_outline.proofs.SoundLemmas.{same_role}

-- what comes behind a foreign byte, parentheses and levels
abbrev left_out : Side → Role → List Token → Option Expression → Option Refusal
left_out side role tokens e = option_or (construct_in role e) (first_some (map (long_number side role) tokens))

or_last : (first last : Option Refusal) → option_or first (option_or last None) ≡ option_or first last
or_last (Some found) last = refl
or_last None None = refl
or_last None (Some found) = refl

behind_by : (side : Side) (role : Role) (limit size : ℕ) (tokens : List Token) (e : Expression) (unbalanced deep : Option Refusal) (found : Option Expression)
    → option_or unbalanced deep ≡ None → found ≡ Some e
    → first_some (unbalanced ∷ deep ∷ construct_in role found ∷ first_some (map (long_number side role) tokens) ∷ []) ≡ left_out side role tokens (Some e)
behind_by side role limit size tokens e None None found none is =
    or_last (construct_in role found) (first_some (map (long_number side role) tokens)) ∙ ap (left_out side role tokens) is
behind_by side role limit size tokens e (Some refusal) deep found none is = absurd cc
behind_by side role limit size tokens e None (Some refusal) found none is = absurd cc

shown_by : (side : Side) (role : Role) (size : ℕ) (tokens : List Token) (e : Expression) (foreign : Option ℕ)
    → or_foreign role foreign (refusal_of_tokens role (level_limit side) size tokens) ≡ None
    → (if is_none foreign then expression_of (level_limit side) tokens else None) ≡ Some e
    → refusal_of_bytes side role size tokens foreign ≡ left_out side role tokens (Some e)
shown_by side role size tokens e (Some at) none is = absurd cc
shown_by side role size tokens e None none is =
    behind_by side role (level_limit side) size tokens e (unbalanced_from role size (Inside 0) tokens) (too_deep_from role (level_limit side) 0 tokens) (expression_of (level_limit side) tokens) none is

-- THE FIRST REFUSAL of a text with an outline
pub shown_behind_outline : (of : Role) (text : List ℕ) (outline : Outline) (found : Option Refusal) → of ≢ role.Plan → IsOutline of text outline
    → found ≡ option_or (construct_in of (Some (root_of outline))) (first_some (map (long_number (side_of of) of) (tokens_of text).tokens))
    → found ≡ text_refusal (side_of of) (half_of of) text
unfolding text_refusal
shown_behind_outline of text outline found task whole is =
    is
    ∙ sym (shown_by (side_of of) of (length text) (tokens_of text).tokens (root_of outline) (tokens_of text).foreign whole.balanced whole.whole)
    ∙ ap (λ (n : Role). refusal_of_bytes (side_of of) n (length text) (tokens_of text).tokens (tokens_of text).foreign) (sym (same_role of task))
