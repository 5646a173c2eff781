-- The literals that take place of an effect that is built of given parts, and those of lists of parts.
use Rattle.std.proofs.Common.{◌≡◌, ◌∙◌, ℕ, ◌+◌, ◌<◌, true, false, List, [], ◌∷◌, ◌++◌, length, take, get_or, if◌then◌else◌, refl, sym, ap, append_assoc}
use Rattle.std.specs.Prelude.{flat_map}
use Rattle.std.proofs.lemmas.Grind.{flat_map-append}
use Rattle.std.proofs.lemmas.List.{append-nil}
use Rattle.std.proofs.lemmas.List.Folds.{flat_map-map}
use denote.Hole.Carrier.{hidden}
use Rattle.p3_formula.proofs.NodeLemmas.{take-next}
use Rattle.p3_numbers.specs.Folds.{fold_effect}
use Rattle.p3_numbers.specs.Slots.{Slots, bound}
use Rattle.p3_numbers.specs.declared.condition.NumberedArgument.{NumberedArgument}
use Rattle.p3_numbers.specs.declared.condition.NumberedCondition.{NumberedCondition}
use Rattle.p3_numbers.specs.declared.effect.NumberedAmount.{NumberedAmount}
use Rattle.p3_numbers.specs.declared.effect.NumberedEffect.{NumberedEffect}
use Rattle.p3_numbers.specs.declared.effect.NumberedEffect.TheBlock.{hidden-the_row-NumberedEffect-1}
use Rattle.p3_numbers.specs.declared.effect.NumberedEffect.TheVariants.{Add, Del, All, Each, If, Cost}
use Rattle.p3_numbers.specs.declared.numbers.Numbers.{Numbers}
use Rattle.p3_expansion.specs.Atoms.{atom_at}
use Rattle.p3_expansion.proofs.EffectLemmas.{hidden_effects}
use Rattle.p3_reasons.specs.Effects.{taken, taken_layer}
use Rattle.p3_reasons.specs.Outcomes.{Test, outcome}
use Rattle.p3_reasons.specs.declared.decision.Literal.{Literal}

module _ (N : Numbers) (test : Test) (slots : Slots) where
  pub taken-Add : (predicate : ℕ) (args : List NumberedArgument) → taken N test slots (Add predicate args) ≡ record { atom = atom_at slots predicate args; holds = true } ∷ []
  unfolding taken
  taken-Add predicate args = refl

  pub taken-Del : (predicate : ℕ) (args : List NumberedArgument) → taken N test slots (Del predicate args) ≡ record { atom = atom_at slots predicate args; holds = false } ∷ []
  unfolding taken
  taken-Del predicate args = refl

  pub taken-All : (parts : List NumberedEffect) → taken N test slots (All parts) ≡ flat_map (taken N test slots) parts
  unfolding taken
  taken-All parts = ap (flat_map (λ part. part slots)) (hidden_effects (taken_layer N test) parts) ∙ flat_map-map (λ part. part slots) (fold_effect (taken_layer N test)) parts

  pub taken-Each : (ranges : List ℕ) (body : NumberedEffect) → taken N test slots (Each ranges body) ≡ flat_map (λ inner. taken N test inner body) (bound N slots ranges)
  unfolding taken hidden-the_row-NumberedEffect-1 hidden
  taken-Each ranges body = refl

  pub taken-If : (condition : NumberedCondition) (body : NumberedEffect) → taken N test slots (If condition body) ≡ (if (outcome N test slots condition).holds then taken N test slots body else [])
  unfolding taken hidden-the_row-NumberedEffect-1 hidden
  taken-If condition body = refl

  pub taken-Cost : (amount : NumberedAmount) → taken N test slots (Cost amount) ≡ []
  unfolding taken
  taken-Cost amount = refl

-- one part more
pub taken-more : {A B : Type 0} (take_of : A → List B) (parts : List A) (i : ℕ) (part : A) (before now after : List B) → i < length parts → part ≡ get_or parts i part
    → now ≡ before ++ flat_map take_of (take i parts) → after ≡ now ++ take_of part → after ≡ before ++ flat_map take_of (take (i + 1) parts)
taken-more take_of parts i part before now after within here is more =
    more ∙ ap (λ front. front ++ take_of part) is ∙ append_assoc before (flat_map take_of (take i parts)) (take_of part)
    ∙ ap (λ behind. before ++ (flat_map take_of (take i parts) ++ behind)) (sym (append-nil (take_of part)))
    ∙ ap (λ behind. before ++ behind) (sym (flat_map-append take_of (take i parts) (part ∷ [])) ∙ ap (flat_map take_of) (take-next parts i part part within here))
