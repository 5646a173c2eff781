-- The refusal of least offset is that of the item of least offset.
use Rattle.std.proofs.Common.{◌≡◌, ◌∙◌, ℕ, nat_lt, Bool, true, false, refl, ap, List, [], ◌∷◌, map, Some}
use Rattle.std.specs.Prelude.{fold, if◌then◌else◌}
use Rattle.p3_base.specs.declared.refusal.Refusal.{Refusal}
use Rattle.p3_limits.specs.Least.{with_least}

module _ {A : Type 0} (offset : A → ℕ) (refused : A → Refusal) (at : (item : A) → (refused item).pos.offset ≡ offset item) where
  abbrev nearer : A → A → A
  nearer least other = if nat_lt (offset other) (offset least) then other else least

  picked : (item least : A) → with_least (Some (refused least)) (refused item) ≡ Some (refused (nearer least item))
  picked item least = (λ i. if nat_lt (at item i) (at least i) then Some (refused item) else Some (refused least)) ∙ by (nat_lt (offset item) (offset least))
    where
      by : (t : Bool) → (if t then Some (refused item) else Some (refused least)) ≡ Some (refused (if t then item else least))
      by true = refl
      by false = refl

  pub least_by_offset : (least : A) (items : List A) → fold with_least (Some (refused least)) (map refused items) ≡ Some (refused (fold nearer least items))
  least_by_offset least [] = refl
  least_by_offset least (item ∷ items) = ap (λ found. fold with_least found (map refused items)) (picked item least) ∙ least_by_offset (nearer least item) items
