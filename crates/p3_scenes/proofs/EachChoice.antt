-- What is found at each choice of objects in turn, behind slots.
use Rattle.std.proofs.Common.{◌≡◌, ◌∙◌, ℕ, ◌+◌, ◌<◌, ◌≤◌, List, ◌++◌, length, take, sym, ap, subst}
use Rattle.std.specs.Prelude.{flat_map}
use Rattle.std.proofs.Math.Seq.{take-append_seam}
use Rattle.std.proofs.lemmas.List.{take_all}
use Rattle.p3_numbers.specs.Choices.{choice, choice_count}
use Rattle.p3_numbers.specs.Slots.{Slots, bound}
use Rattle.p3_numbers.specs.declared.numbers.Numbers.{Numbers}
use Rattle.p3_expansion.proofs.ChoiceLemmas.{length-bound, bound-at}
use Rattle.p3_reasons.proofs.EffectLemmas.{taken-more}

module _ (N : Numbers) (slots : Slots) (ranges : List ℕ) where
  -- the slots stand before the objects of a choice
  module _ (k : ℕ) (inner : Slots) {placed : Slots} (is : placed ≡ take (length slots) inner ++ choice N ranges k) (outer : take (length slots) inner ≡ slots) where
    placed-behind : placed ≡ slots ++ choice N ranges k
    placed-behind = is ∙ ap (λ front. front ++ choice N ranges k) outer

    pub slots-stay : take (length slots) placed ≡ slots
    slots-stay = ap (take (length slots)) placed-behind ∙ take-append_seam slots (choice N ranges k)

  module _ {A : Type 0} (of : Slots → List A) {count : ℕ} (all : count ≡ choice_count N ranges) where
    counted : count ≡ length (bound N slots ranges)
    counted = all ∙ sym (length-bound N slots ranges)

    -- what is found at one choice more
    pub found-more : (k : ℕ) (inner : Slots) {placed lent : Slots} (first before after : List A) → k < count → placed ≡ take (length slots) inner ++ choice N ranges k → take (length slots) inner ≡ slots → lent ≡ placed
        → before ≡ first ++ flat_map of (take k (bound N slots ranges)) → after ≡ before ++ of lent → after ≡ first ++ flat_map of (take (k + 1) (bound N slots ranges))
    found-more k inner {placed} first before after low is outer lends found more =
        taken-more of (bound N slots ranges) k placed first before after (subst (λ n. k < n) counted low)
        (bound-at N slots ranges placed k (subst (λ n. k < n) all low) (placed-behind k inner is outer)) found (more ∙ ap (λ slots. before ++ of slots) lends)

    -- behind the last choice, what is found at all of them
    pub found-all : {k : ℕ} (first found : List A) → count ≤ k → found ≡ first ++ flat_map of (take k (bound N slots ranges)) → found ≡ first ++ flat_map of (bound N slots ranges)
    found-all {k} first found past is = is ∙ ap (λ passed. first ++ flat_map of passed) (take_all k (bound N slots ranges) (subst (λ n. n ≤ k) counted past))
