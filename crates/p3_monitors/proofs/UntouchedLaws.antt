-- A step that changes no atom of a constraint keeps its monitor on without changes of the monitor's atoms.
use Rattle.std.proofs.Common.{◌≡◌, ◌∙◌, ℕ, ◌+◌, ◌<◌, ◌≤◌, Bool, true, false, not, ◌&&◌, ◌||◌, List, [], ◌∷◌, ◌++◌, length, refl, sym, ap, subst, arith}
use Rattle.std.specs.Prelude.{◌==◌}
use Rattle.std.specs.List.{list_any, list_all}
use Rattle.std.proofs.Math.Bool.{and-true}
use Rattle.std.proofs.lemmas.Bool.{and_parts, true≢false}
use Rattle.p3_formula.specs.Forms.{State, is_set, truth, has_atoms}
use Rattle.p3_base.specs.Trajectories.{each, some, came_back, is_awaited, came_early}
use Rattle.p3_formula.specs.GroundSat.{holds_at}
use Rattle.p3_formula.specs.GroundPlans.{last_of}
use Rattle.p3_formula.specs.declared.form.Change.{Change}
use Rattle.p3_formula.specs.declared.form.Form.{Form}
use Rattle.p3_formula.specs.GroundModal.{GroundModal}
use Rattle.p3_base.specs.declared.operator.Operator.TheVariants.{AtEnd, Always, Sometime, AtMostOnce, SometimeAfter, SometimeBefore}
use Rattle.p3_formula.proofs.NextLaws.{truth-unchanged}
use Rattle.p3_regress.specs.Regressed.{IsTrueBefore}
use Rattle.p3_formula.specs.Kept.{watched, AreAt, is_own}
use Rattle.p3_formula.specs.Modals.{is_read, IsModalBelow}
use Rattle.p3_monitors.specs.KeepsOn.{HasNone, KeepsOn}
use Rattle.p3_monitors.specs.Riders.{RidesUntouched}
use Rattle.p3_formula.proofs.ReadAtoms.{reads, has_more}
use Rattle.p3_formula.proofs.WatchedLaws.{length-watched, last-next, each-next, some-next, came-next, awaited-next, early-next}
use Rattle.p3_monitors.proofs.LastLaws.{ended}
use Rattle.p3_monitors.proofs.ChangeLaws.{Stage, reached, transition, own_after, truth_now, truth_later, keeps_on, none_named}

-- ---- one state more in which each form is as in the last

and_twice : (a t : Bool) → ((a && t) && t) ≡ (a && t)
and_twice true true = refl
and_twice true false = refl
and_twice false t = refl

or_twice : (a t : Bool) → ((a || t) || t) ≡ (a || t)
or_twice true t = refl
or_twice false true = refl
or_twice false false = refl

no_gap : (c so t : Bool) → (c || ((so && not t) && t)) ≡ c
no_gap true so t = refl
no_gap false true true = refl
no_gap false true false = refl
no_gap false false t = refl

awaits : (a f g : Bool) → ((((a || f) && not g) || f) && not g) ≡ ((a || f) && not g)
awaits true true true = refl
awaits true true false = refl
awaits true false true = refl
awaits true false false = refl
awaits false true true = refl
awaits false true false = refl
awaits false false true = refl
awaits false false false = refl

comes : (e f so g : Bool) → ((e || (f && not so)) || (f && not (so || g))) ≡ (e || (f && not so))
comes true f so g = refl
comes false true true g = refl
comes false true false g = refl
comes false false so g = refl

module _ (V : List State) (s next : State) where
  abbrev W : List State
  W = V ++ s ∷ []

  module _ (f : Form) (same : truth next f ≡ truth s f) where
    each-still : each (length (W ++ next ∷ [])) (holds_at (W ++ next ∷ []) f) ≡ each (length W) (holds_at W f)
    each-still = each-next W next f ∙ (λ i. each-next V s f i && same i) ∙ and_twice (each (length V) (holds_at V f)) (truth s f) ∙ sym (each-next V s f)

    some-still : some (length (W ++ next ∷ [])) (holds_at (W ++ next ∷ []) f) ≡ some (length W) (holds_at W f)
    some-still = some-next W next f ∙ (λ i. some-next V s f i || same i) ∙ or_twice (some (length V) (holds_at V f)) (truth s f) ∙ sym (some-next V s f)

    came-still : came_back (length (W ++ next ∷ [])) (holds_at (W ++ next ∷ []) f) ≡ came_back (length W) (holds_at W f)
    came-still = came-next W next f ∙ (λ i. came_back (length W) (holds_at W f) || ((some (length W) (holds_at W f) && not (truth (last-next V s i) f)) && same i)) ∙ no_gap (came_back (length W) (holds_at W f)) (some (length W) (holds_at W f)) (truth s f)

  module _ (f g : Form) (same : truth next f ≡ truth s f) (alike : truth next g ≡ truth s g) where
    awaited-still : is_awaited (length (W ++ next ∷ [])) (holds_at (W ++ next ∷ []) f) (holds_at (W ++ next ∷ []) g) ≡ is_awaited (length W) (holds_at W f) (holds_at W g)
    awaited-still = awaited-next W next f g ∙ (λ i. (awaited-next V s f g i || same i) && not (alike i)) ∙ awaits (is_awaited (length V) (holds_at V f) (holds_at V g)) (truth s f) (truth s g) ∙ sym (awaited-next V s f g)

    early-still : came_early (length (W ++ next ∷ [])) (holds_at (W ++ next ∷ []) f) (holds_at (W ++ next ∷ []) g) ≡ came_early (length W) (holds_at W f) (holds_at W g)
    early-still =
        early-next W next f g ∙ (λ i. early-next V s f g i || (same i && not (some-next V s g i)))
        ∙ comes (came_early (length V) (holds_at V f) (holds_at V g)) (truth s f) (some (length V) (holds_at V g)) (truth s g) ∙ sym (early-next V s f g)

  watched-still : (modal : GroundModal) → ((form : Form) → has_atoms (is_read modal) form ≡ true → truth next form ≡ truth s form) → watched (W ++ next ∷ []) modal ≡ watched W modal
  watched-still (AtEnd f) same = refl
  watched-still (Always f) same = ap (λ b. b ∷ []) (each-still f (same f (and_parts _ _ (reads (Always f))).0))
  watched-still (Sometime f) same = ap (λ b. b ∷ []) (some-still f (same f (and_parts _ _ (reads (Sometime f))).0))
  watched-still (AtMostOnce f) same =
      let e = same f (and_parts _ _ (reads (AtMostOnce f))).0 in
      λ i. some-still f e i ∷ came-still f e i ∷ []
  watched-still (SometimeAfter f g) same =
      let both = and_parts _ _ (reads (SometimeAfter f g)) in
      ap (λ b. b ∷ []) (awaited-still f g (same f both.0) (same g (and_parts _ _ both.1).0))
  watched-still (SometimeBefore f g) same =
      let both = and_parts _ _ (reads (SometimeBefore f g)) in
      let e = same f both.0 in
      let d = same g (and_parts _ _ both.1).0 in
      λ i. some-still g d i ∷ early-still f g e d i ∷ []

-- ---- the monitor's atoms

moved_bits : (bits : List Bool) (base : ℕ) (state other : State) → ((atom : ℕ) → base ≤ atom → atom < base + length bits → is_set other atom ≡ is_set state atom) → AreAt base bits state → AreAt base bits other
moved_bits [] base state other same at = tt
moved_bits (bit ∷ bits) base state other same at =
    (same base (omega arith) (omega arith) ∙ at.0, moved_bits bits (base + 1) state other (λ atom from lt. same atom (omega (arith, from)) (omega (arith, lt))) at.1)

module _ (base : ℕ) (modal : GroundModal) (step : List Change) (none : HasNone (is_read modal) step) (stage : Stage base modal step []) where
  unchanged : (form : Form) → has_atoms (is_read modal) form ≡ true → IsTrueBefore step form form
  unchanged form reads_it state below =
      sym (truth-unchanged state step form (has_more (is_read modal) (λ atom. not (list_any (λ change. change.atom == atom) step)) (λ atom read. ap not (none_named (is_read modal) atom step none read)) form reads_it))

  same : (form : Form) → has_atoms (is_read modal) form ≡ true → truth stage.next form ≡ truth (last_of stage.W) form
  same form reads_it = sym (truth_later (transition stage) form reads_it form (unchanged form reads_it)) ∙ truth_now (transition stage) form reads_it

  still : watched (stage.W ++ stage.next ∷ []) modal ≡ watched stage.W modal
  still =
      let end = ended stage.W stage.kept.visited in
      ap (λ (W : List State). watched (W ++ stage.next ∷ []) modal) end.is
      ∙ watched-still end.front end.last stage.next modal (λ form reads_it. same form reads_it ∙ ap (λ state. truth state form) (ap last_of end.is ∙ last-next end.front end.last))
      ∙ sym (ap (λ (W : List State). watched W modal) end.is)

  bits : AreAt base (watched (stage.W ++ stage.next ∷ []) modal) (reached stage)
  bits = subst (λ (list : List Bool). AreAt base list (reached stage)) (sym still)
      (moved_bits (watched stage.W modal) base stage.state (reached stage)
      (λ atom from lt. own_after stage atom from (let l = length-watched stage.W modal in omega (arith, lt)) ∙ and-true (is_set stage.state atom)) stage.kept.carries.stand)

untouched_keeps_on : (base : ℕ) (modal : GroundModal) (step : List Change) → IsModalBelow base modal → HasNone (is_read modal) step → HasNone (is_own base modal) step → KeepsOn base modal step []
untouched_keeps_on base modal step below none free = keeps_on base modal step [] below refl (λ stage. bits base modal step none stage) free

-- where no item passes, each fails
none_pass : {A : Type 0} (test : A → Bool) (xs : List A) → list_any test xs ≡ false → list_all (λ x. not (test x)) xs ≡ true
none_pass test [] none = refl
none_pass test (x ∷ xs) none = by (test x) refl (none_pass test xs) where
  by : (b : Bool) → test x ≡ b → (list_any test xs ≡ false → list_all (λ y. not (test y)) xs ≡ true) → (not (test x) && list_all (λ y. not (test y)) xs) ≡ true
  by true e rest = absurd (true≢false (sym (ap (λ b. b || list_any test xs) e) ∙ none))
  by false e rest = ap (λ b. not b && list_all (λ y. not (test y)) xs) e ∙ rest (sym (ap (λ b. b || list_any test xs) e) ∙ none)

pub rides_untouched : RidesUntouched
rides_untouched sources from step monitor sourced behind untouched free = record {
  below = sourced;
  behind = behind;
  own = refl;
  keeps = untouched_keeps_on monitor.base monitor.modal step monitor.below (none_pass (λ (change : Change). is_read monitor.modal change.atom) step untouched) free;
}
