-- Which actions fit, as they are looked for.
use Rattle.std.proofs.Common.{◌≡◌, ◌∙◌, ℕ, zero, suc, ◌+◌, ◌≤◌, ◌<◌, Bool, true, false, List, [], ◌∷◌, length, get_or, refl, sym, ap, subst, arith, Option, Some, None, ◌⊎◌, inl, inr}
use Rattle.std.proofs.lemmas.Bool.{cases_lt}
use Rattle.std.specs.Prelude.{Contains, is_some, slice_get}
use Rattle.std.specs.List.{filter}
use Rattle.std.proofs.lemmas.Option.{get_or_from_slice_get, slice_get-get_or, slice_get_read, slice_get_within}
use Rattle.std.proofs.lemmas.List.Elements.{Contains-get_or}
use Rattle.p3_formula.specs.Forms.{State, truth}
use Rattle.p3_formula.specs.declared.target.Target.{Target}
use Rattle.p3_formula.specs.declared.target.TargetAction.{TargetAction}
use Rattle.p3_embed.specs.declared.actions.Actions.{Actions}
use Rattle.p3_embed.specs.declared.actions.Counted.{Counted}
use Rattle.p3_embed.specs.Actions.{FitsAt, IsIndexed, NoneFits, NoneFitsAt, NoneFitsWithin, counted, is_of}
use Rattle.p3_embed.proofs.ActionLists.{copy_found, found_is_copy}

record FoundAt {A : Type 0} (items : List A) (place : ℕ) : Type 0 where
  pub item : A
  pub at : slice_get items place ≡ Some item

found_at : {A : Type 0} (items : List A) (place : ℕ) → place < length items → FoundAt items place
found_at [] place within = absurd (omega (arith, within))
found_at (x ∷ items) zero within = record { item = x; at = refl }
found_at (x ∷ items) (suc place) within = let found = found_at items place (omega (arith, within)) in record { item = found.item; at = found.at }

-- the count that was read is none, or some
pub counts_none : (counts : List (Option ℕ)) (place : ℕ) → place < length counts → (count : Option ℕ) → count ≡ get_or counts place count → is_some count ≡ false → slice_get counts place ≡ Some None
counts_none counts place below None at e = slice_get_read counts (length counts) place None refl below at
counts_none counts place below (Some number) at e = absurd (cc)

pub counts_some : (counts : List (Option ℕ)) (place : ℕ) → place < length counts → (count : Option ℕ) → count ≡ get_or counts place count → is_some count ≡ true → slice_get counts place ≡ Some None → ⊥
counts_some counts place below None at e so = absurd (cc)
counts_some counts place below (Some number) at e so = let read = slice_get_read counts (length counts) place (Some number) refl below at in let bad : Some (Some number) ≡ Some None = sym read ∙ so in cc

module _ (counts : List (Option ℕ)) (X : Target) (state : State) (place : ℕ) (test : Bool) (tells : (action : TargetAction) → slice_get X.actions place ≡ Some action → test ≡ truth state action.pre) where
  pub fits_here : place < length X.actions → (count : Option ℕ) → slice_get counts place ≡ Some count → test ≡ true → FitsAt counts X state count place
  fits_here here count so e = let found = found_at X.actions place here in record { action = found.item; at = found.at; counts_so = so; holds = sym (tells found.item found.at) ∙ e }

-- one place more
pub none_within : (counts : List (Option ℕ)) (X : Target) (state : State) (count : Option ℕ) (from end : ℕ) → NoneFitsWithin counts X state count from end → NoneFitsAt counts X state count end → NoneFitsWithin counts X state count from (end + 1)
none_within counts X state count from end before here place low high = by (cases_lt place end)
  where
    by : (place < end) ⊎ (end ≤ place) → NoneFitsAt counts X state count place
    by (inl less) = before place low less
    by (inr more) = let same : end ≡ place = omega (arith, more, high) in subst (NoneFitsAt counts X state count) same here

module _ (X : Target) (actions : Actions) (indexed : IsIndexed X actions) (state : State) (number : ℕ) (items : List Counted) (are : items ≡ filter (is_of number) actions.copies.items) where
  module _ (index : ℕ) (here : index < length items) (none : Counted) where
    abbrev one : Counted
    one = get_or items index none

    pub copy_at : slice_get actions.counts.items one.place ≡ Some (Some number)
    copy_at = found_is_copy actions.counts.items actions.copies.items indexed.copies number one (subst (λ (list : List Counted). Contains list one) are (Contains-get_or items index none here))

    pub copy_within : one.place < length X.actions
    copy_within = let below = slice_get_within actions.counts.items one.place (Some number) copy_at in let all = indexed.all in omega (arith, below, all)

    -- one copy more
    pub none_so_far : (test : Bool) → ((action : TargetAction) → slice_get X.actions one.place ≡ Some action → test ≡ truth state action.pre) → test ≡ false
        → ((k : ℕ) (other : Counted) (action : TargetAction) → k < index → slice_get items k ≡ Some other → slice_get X.actions other.place ≡ Some action → truth state action.pre ≡ false)
        → (k : ℕ) (other : Counted) (action : TargetAction) → k < index + 1 → slice_get items k ≡ Some other → slice_get X.actions other.place ≡ Some action → truth state action.pre ≡ false
    none_so_far test tells e before k other action low at has = by (cases_lt k index)
      where
        by : (k < index) ⊎ (index ≤ k) → truth state action.pre ≡ false
        by (inl less) = before k other action less at has
        by (inr more) =
            let same : k ≡ index = omega (arith, more, low) in
            let is : one ≡ other = get_or_from_slice_get items index other none (subst (λ n. slice_get items n ≡ Some other) same at) in
            sym (tells action (ap (λ (c : Counted). slice_get X.actions c.place) is ∙ has)) ∙ e

  pub none_at_all : ((k : ℕ) (other : Counted) (action : TargetAction) → k < length items → slice_get items k ≡ Some other → slice_get X.actions other.place ≡ Some action → truth state action.pre ≡ false)
      → NoneFits actions.counts.items X state (Some number)
  none_at_all none place action at so =
      let member = subst (λ (list : List Counted). Contains list (counted number place)) (sym are) (copy_found actions.counts.items actions.copies.items indexed.copies number place so) in
      none member.0 (counted number place) action member.1 (slice_get-get_or items member.0 (counted number place) member.1 ∙ ap Some member.2) at
