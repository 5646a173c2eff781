-- Rules stay below the count of propositions.
use Rattle.std.proofs.Common.{◌≡◌, ◌∙◌, ℕ, ◌≤◌, nat_lt, true, ◌&&◌, List, [], ◌∷◌, ◌++◌, Result, Ok, Err, ◌⊎◌, inl, inr, refl, arith}
use Rattle.std.specs.Prelude.{OnOk, OnErr}
use Rattle.std.specs.List.{list_all}
use Rattle.std.proofs.lemmas.Bool.{and_parts, and_from, ltb-true, lt-ltb}
use Rattle.std.proofs.lemmas.List.Folds.{list_all-append}
use Rattle.p3_reach.specs.Rules.{is_rule_below}
use Rattle.p3_reach.specs.declared.rules.Rule.{Rule}

below_more : (count more n : ℕ) → count ≤ more → nat_lt n count ≡ true → nat_lt n more ≡ true
below_more count more n room below = lt-ltb n more (omega (arith, ltb-true n count below))

rule_below_more : (count more : ℕ) (rule : Rule) → count ≤ more → is_rule_below count rule ≡ true → is_rule_below more rule ≡ true
rule_below_more count more rule room below =
    let parts = and_parts (nat_lt rule.first count && nat_lt rule.second count) _ below in
    let premises = and_parts (nat_lt rule.first count) _ parts.0 in
    and_from _ _ (and_from _ _ (below_more count more rule.first room premises.0) (below_more count more rule.second room premises.1)) (below_more count more rule.gives room parts.1)

pub rules_below_more : (count more : ℕ) (rules : List Rule) → count ≤ more → list_all (is_rule_below count) rules ≡ true → list_all (is_rule_below more) rules ≡ true
rules_below_more count more [] room below = refl
rules_below_more count more (rule ∷ rules) room below =
    let parts = and_parts (is_rule_below count rule) _ below in
    and_from _ _ (rule_below_more count more rule room parts.0) (rules_below_more count more rules room parts.1)

pub rules_within_push : (count : ℕ) (rules : List Rule) (rule : Rule) → list_all (is_rule_below count) rules ≡ true → is_rule_below count rule ≡ true → list_all (is_rule_below count) (rules ++ rule ∷ []) ≡ true
rules_within_push count rules rule below one = list_all-append (is_rule_below count) rules (rule ∷ []) ∙ and_from _ _ below (and_from _ _ one refl)

-- an answer is one of two
pub either : {T E P Q : Type 0} (r : Result T E) → OnOk r P → OnErr r Q → P ⊎ Q
either {T} {E} {P} {Q} r = elim r as (λ r. OnOk r P → OnErr r Q → P ⊎ Q) [ Ok x ↦ λ p q. inl p | Err e ↦ λ p q. inr q ]
