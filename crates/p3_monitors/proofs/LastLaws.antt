-- What a monitor's atoms say of the last state visited.
use Rattle.std.proofs.Common.{◌≡◌, ◌∙◌, ◌≤◌, Bool, true, false, not, ◌&&◌, ◌||◌, List, [], ◌∷◌, ◌++◌, length, refl, sym, ap, subst, arith, true≢false}
use Rattle.std.proofs.Math.Bool.{and-false}
use Rattle.std.proofs.lemmas.Bool.{and_parts, or_parts, not-true}
use Rattle.p3_formula.specs.Forms.{State, truth}
use Rattle.p3_base.specs.Trajectories.{each, some, is_awaited, came_early}
use Rattle.p3_formula.specs.GroundSat.{holds_at}
use Rattle.p3_formula.specs.GroundPlans.{last_of}
use Rattle.p3_formula.specs.declared.form.Form.{Form}
use Rattle.p3_formula.proofs.WatchedLaws.{last-next, each-next, some-next, awaited-next, early-next}

-- a list that is not empty has a last item
pub record Ended (W : List State) : Type 0 where
  pub front : List State
  pub last : State
  pub is : W ≡ front ++ last ∷ []

pub ended : (W : List State) → 1 ≤ length W → Ended W
ended [] some = absurd (omega (arith, some))
ended (s ∷ []) some = record { front = []; last = s; is = refl }
ended (s ∷ t ∷ W) some =
    let rest = ended (t ∷ W) (omega arith) in
    record { front = s ∷ rest.front; last = rest.last; is = ap (λ list. s ∷ list) rest.is }

not_awaited : (a f g : Bool) → ((a || f) && not g) ≡ false → (f && not g) ≡ false
not_awaited true f g h = ap (λ b. f && b) h ∙ and-false f
not_awaited false f g h = h

not_early : (e f so g : Bool) → (e || (f && not so)) ≡ false → (so || g) ≡ false → f ≡ false
not_early e true so g h k = absurd (true≢false (sym (ap not (or_parts so g k).0) ∙ (or_parts e (not so) h).1))
not_early e false so g h k = refl

module _ (V : List State) (s : State) where
  abbrev W : List State
  W = V ++ s ∷ []

  module _ (f : Form) where
    each_at : each (length W) (holds_at W f) ≡ true → truth (last_of W) f ≡ true
    each_at h = ap (λ state. truth state f) (last-next V s) ∙ (and_parts (each (length V) (holds_at V f)) (truth s f) (sym (each-next V s f) ∙ h)).1

    some_at : some (length W) (holds_at W f) ≡ false → truth (last_of W) f ≡ false
    some_at h = ap (λ state. truth state f) (last-next V s) ∙ (or_parts (some (length V) (holds_at V f)) (truth s f) (sym (some-next V s f) ∙ h)).1

  module _ (f g : Form) where
    awaited_at : is_awaited (length W) (holds_at W f) (holds_at W g) ≡ true → truth (last_of W) g ≡ false
    awaited_at h =
        ap (λ state. truth state g) (last-next V s) ∙ not-true (truth s g) (and_parts (is_awaited (length V) (holds_at V f) (holds_at V g) || truth s f) (not (truth s g)) (sym (awaited-next V s f g) ∙ h)).1

    unawaited_at : is_awaited (length W) (holds_at W f) (holds_at W g) ≡ false → (truth (last_of W) f && not (truth (last_of W) g)) ≡ false
    unawaited_at h =
        (λ i. truth (last-next V s i) f && not (truth (last-next V s i) g)) ∙ not_awaited (is_awaited (length V) (holds_at V f) (holds_at V g)) (truth s f) (truth s g) (sym (awaited-next V s f g) ∙ h)

    early_at : came_early (length W) (holds_at W f) (holds_at W g) ≡ false → some (length W) (holds_at W g) ≡ false → truth (last_of W) f ≡ false
    early_at h k =
        ap (λ state. truth state f) (last-next V s)
        ∙ not_early (came_early (length V) (holds_at V f) (holds_at V g)) (truth s f) (some (length V) (holds_at V g)) (truth s g) (sym (early-next V s f g) ∙ h) (sym (some-next V s g) ∙ k)

module _ (W : List State) (visited : 1 ≤ length W) where
  end : Ended W
  end = ended W visited

  module _ (f : Form) where
    pub each_last : each (length W) (holds_at W f) ≡ true → truth (last_of W) f ≡ true
    each_last = subst (λ (all : List State). each (length all) (holds_at all f) ≡ true → truth (last_of all) f ≡ true) (sym end.is) (each_at end.front end.last f)

    pub some_last : some (length W) (holds_at W f) ≡ false → truth (last_of W) f ≡ false
    some_last = subst (λ (all : List State). some (length all) (holds_at all f) ≡ false → truth (last_of all) f ≡ false) (sym end.is) (some_at end.front end.last f)

  module _ (f g : Form) where
    pub awaited_last : is_awaited (length W) (holds_at W f) (holds_at W g) ≡ true → truth (last_of W) g ≡ false
    awaited_last = subst (λ (all : List State). is_awaited (length all) (holds_at all f) (holds_at all g) ≡ true → truth (last_of all) g ≡ false) (sym end.is) (awaited_at end.front end.last f g)

    pub unawaited_last : is_awaited (length W) (holds_at W f) (holds_at W g) ≡ false → (truth (last_of W) f && not (truth (last_of W) g)) ≡ false
    unawaited_last =
        subst (λ (all : List State). is_awaited (length all) (holds_at all f) (holds_at all g) ≡ false → (truth (last_of all) f && not (truth (last_of all) g)) ≡ false) (sym end.is)
        (unawaited_at end.front end.last f g)

    pub early_last : came_early (length W) (holds_at W f) (holds_at W g) ≡ false → some (length W) (holds_at W g) ≡ false → truth (last_of W) f ≡ false
    early_last =
        subst (λ (all : List State). came_early (length all) (holds_at all f) (holds_at all g) ≡ false → some (length all) (holds_at all g) ≡ false → truth (last_of all) f ≡ false) (sym end.is)
        (early_at end.front end.last f g)
