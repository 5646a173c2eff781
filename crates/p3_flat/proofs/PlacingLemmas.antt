-- The places of conditions.
use Rattle.std.proofs.Common.{◌≡◌, ◌∙◌, ◌↔◌, ℕ, ◌+◌, ◌<◌, ◌≤◌, Bool, true, false, not, ◌||◌, cond, List, [], ◌∷◌, ◌++◌, length, take, drop, get_or, refl, sym, ap, subst, arith}
use Rattle.std.specs.Prelude.{Option, Some, None, fold, slice_get, count_by, if◌then◌else◌}
use Rattle.std.specs.List.{AllZip}
use Rattle.std.proofs.lemmas.Bool.{or_from}
use Rattle.std.proofs.lemmas.Bool.Decides.{nat_tests}
use Rattle.std.proofs.lemmas.List.{length-append, take-append-drop}
use Rattle.std.proofs.lemmas.List.Folds.{list_any_at, list_any-append}
use Rattle.std.proofs.lemmas.List.Sums.{sum_by-cons}
use Rattle.std.proofs.lemmas.Option.{slice_get_read}
use Rattle.std.proofs.lemmas.Slice.Zip.{all_zipped_more}
use Rattle.p3_task.specs.Refusals.Flat.{most_conditions}
use Rattle.p3_formula.specs.Same.{same_form}
use Rattle.p3_formula.specs.Simplified.{is_value}
use Rattle.p3_formula.specs.Unconditional.{is_conditional}
use Rattle.p3_formula.specs.declared.form.Change.{Change}
use Rattle.p3_formula.specs.declared.form.Form.{Form}
use Rattle.p3_formula.proofs.SameLemmas.{same_is, same_itself}
use Rattle.p3_flat.specs.declared.placing.Placed.{Placed}
use Rattle.p3_flat.specs.Conditions.{are_too_many, conditions, has_form, with_form, with_condition}
use Rattle.p3_flat.specs.Splitting.{FindsForm, HasPlace, IsPlaced}
use Rattle.p3_flat.proofs.ItemLemmas.{front, get-left}

-- ---- forms among others

-- an answer that tells whether two forms are equal is what their parts tell
pub same_by : (form other : Form) (answer : Bool) → (answer ≡ true) ↔ (form ≡ other) → answer ≡ same_form form other
same_by form other true is = sym (ap (same_form form) (sym (is.0 refl)) ∙ same_itself form)
same_by form other false is = by (same_form form other) refl
  where
    by : (b : Bool) → same_form form other ≡ b → false ≡ b
    by true same = is.1 (same_is form other same)
    by false differs = refl

pub found_here : (forms : List Form) (form item : Form) (place : ℕ) → place < length forms → item ≡ get_or forms place item → item ≡ form → FindsForm forms form (Some place)
found_here forms form item place within is same = (
  list_any_at (λ other. same_form other form) forms place item within (ap (λ other. same_form other form) (sym is ∙ same) ∙ same_itself form),
  slice_get_read forms (length forms) place item refl within is ∙ ap Some same,
)

-- it is not there, nor is it the next one
pub not_yet : (forms : List Form) (form item : Form) (place : ℕ) → place < length forms → item ≡ get_or forms place item → has_form (take place forms) form ≡ false → same_form item form ≡ false → has_form (take (place + 1) forms) form ≡ false
not_yet forms form item place within is before differs =
    ap (λ list. has_form list form) (front forms place item within is)
    ∙ list_any-append (λ other. same_form other form) (take place forms) (item ∷ [])
    ∙ or_from (has_form (take place forms) form) _ before (ap (λ b. b || false) differs)

pub too_many : (effects : List Change) → most_conditions < length (conditions effects) → are_too_many effects ≡ true
too_many effects more = grind (arith, nat_tests, more)

-- ---- one form more

-- ---- the conditions of one change more

fold-push : (seen : List Form) (effects : List Change) (change : Change) → fold with_condition seen (effects ++ change ∷ []) ≡ with_condition (fold with_condition seen effects) change
fold-push seen [] change = refl
fold-push seen (other ∷ effects) change = fold-push (with_condition seen other) effects change

pub conditions-push : (effects : List Change) (change : Change) → conditions (effects ++ change ∷ []) ≡ with_form (conditions effects) change.cond
conditions-push effects change = fold-push [] effects change

with_longer : (seen : List Form) (form : Form) → length seen ≤ length (with_form seen form)
with_longer seen form = by (is_value true form || has_form seen form)
  where
    by : (b : Bool) → length seen ≤ length (if b then seen else (seen ++ form ∷ []))
    by true = omega arith
    by false = omega (arith, length-append seen (form ∷ []))

fold_longer : (effects : List Change) (seen : List Form) → length seen ≤ length (fold with_condition seen effects)
fold_longer [] seen = omega arith
fold_longer (change ∷ effects) seen = omega (arith, with_longer seen change.cond, fold_longer effects (with_form seen change.cond))

fold-append : (effects more : List Change) (seen : List Form) → fold with_condition seen (effects ++ more) ≡ fold with_condition (fold with_condition seen effects) more
fold-append [] more seen = refl
fold-append (change ∷ effects) more seen = fold-append effects more (with_condition seen change)

pub conditions_longer : (effects : List Change) (i : ℕ) → length (conditions (take i effects)) ≤ length (conditions effects)
conditions_longer effects i =
    subst (λ n. length (conditions (take i effects)) ≤ n) (ap length (sym (fold-append (take i effects) (drop i effects) []) ∙ ap (fold with_condition []) (take-append-drop i effects)))
    (fold_longer (drop i effects) (conditions (take i effects)))

one_longer : (seen : List Form) (form : Form) → length (with_form seen form) ≤ length seen + cond (not (is_value true form)) 1 0
one_longer seen form = by (is_value true form) (has_form seen form)
  where
    by : (always there : Bool) → length (if always || there then seen else (seen ++ form ∷ [])) ≤ length seen + cond (not always) 1 0
    by true there = omega arith
    by false true = omega arith
    by false false = omega (arith, length-append seen (form ∷ []))

few_more : (effects : List Change) (seen : List Form) → length (fold with_condition seen effects) ≤ length seen + count_by is_conditional effects
few_more [] seen = omega arith
few_more (change ∷ effects) seen =
    omega (arith, few_more effects (with_form seen change.cond), one_longer seen change.cond, sum_by-cons (λ (other : Change). cond (is_conditional other) 1 0) change effects)

pub conditions_few : (effects : List Change) → length (conditions effects) ≤ count_by is_conditional effects
conditions_few effects = omega (arith, few_more effects [])

-- ---- places

place_stays : (seen : List Form) (more : Form) (form : Form) (place : Option ℕ) → HasPlace seen form place → HasPlace (with_form seen more) form place
place_stays seen more form None h = h
place_stays seen more form (Some place) h = by (is_value true more || has_form seen more)
  where
    by : (b : Bool) → slice_get (if b then seen else (seen ++ more ∷ [])) place ≡ Some form
    by true = h
    by false = get-left seen (more ∷ []) place form h

all_stay : (seen : List Form) (more : Form) (effects : List Change) (made : List Placed) → AllZip (IsPlaced seen) effects made → AllZip (IsPlaced (with_form seen more)) effects made
all_stay seen more [] [] h = tt
all_stay seen more [] (one ∷ made) h = absurd h
all_stay seen more (change ∷ effects) [] h = absurd h
all_stay seen more (change ∷ effects) (one ∷ made) h = (record { atom = h.0.atom; add = h.0.add; place = place_stays seen more change.cond one.place h.0.place }, all_stay seen more effects made h.1)

-- the loop over the changes
module _ (effects : List Change) (i : ℕ) (change : Change) (within : i < length effects) (is : change ≡ get_or effects i change) where
  more : take (i + 1) effects ≡ take i effects ++ change ∷ []
  more = front effects i change within is

  pub next_conditions : (old new : List Form) → old ≡ conditions (take i effects) → new ≡ with_form old change.cond → new ≡ conditions (take (i + 1) effects)
  next_conditions old new known made = made ∙ ap (λ seen. with_form seen change.cond) known ∙ sym (conditions-push (take i effects) change) ∙ ap conditions (sym more)

  pub next_placed : (old new : List Form) (made : List Placed) (one : Placed) → AllZip (IsPlaced old) (take i effects) made → new ≡ with_form old change.cond → IsPlaced new change one → AllZip (IsPlaced new) (take (i + 1) effects) (made ++ one ∷ [])
  next_placed old new made one known is_new placed =
      subst (λ list. AllZip (IsPlaced new) list (made ++ one ∷ [])) (sym more)
      (all_zipped_more (IsPlaced new) (take i effects) made change one (subst (λ forms. AllZip (IsPlaced forms) (take i effects) made) (sym is_new) (all_stay old change.cond (take i effects) made known)) placed)
