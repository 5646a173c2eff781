-- Changes that never happen may be left out, and a form that a step may not turn tells of no turn.
use Rattle.std.proofs.Common.{◌≡◌, ◌∙◌, ℕ, suc, ◌+◌, ◌≤◌, ◌==◌, Bool, true, false, not, ◌&&◌, ◌||◌, List, [], ◌∷◌, ◌++◌, length, map, sum_by, refl, sym, ap, subst, arith}
use Rattle.std.specs.Prelude.{if◌then◌else◌}
use Rattle.std.specs.List.{list_all, list_any, range_with_len}
use Rattle.std.proofs.Math.Bool.{and-false, or-false}
use Rattle.std.proofs.lemmas.Bool.{and_parts, and_from}
use Rattle.std.proofs.lemmas.List.{append-nil}
use Rattle.std.proofs.lemmas.List.Folds.{list_any-append}
use Rattle.std.proofs.lemmas.List.Sums.{sum_by-cons}
use Rattle.p3_formula.specs.Forms.{State, has_atoms, is_set, nodes, truth}
use Rattle.p3_formula.specs.Kept.{Kept, is_own}
use Rattle.p3_formula.specs.Modals.{Agree}
use Rattle.p3_formula.specs.Next.{after, is_set_after}
use Rattle.p3_formula.specs.Simplified.{is_value}
use Rattle.p3_formula.specs.Trimmed.{unless_never}
use Rattle.p3_formula.specs.declared.form.Change.{Change}
use Rattle.p3_formula.specs.declared.form.Form.{Form}
use Rattle.p3_formula.specs.declared.form.Form.TheVariants.{True, False, Atom, Not, Not', And', Or'}
use Rattle.p3_formula.specs.GroundModal.{GroundModal}
use Rattle.p3_formula.proofs.FormLemmas.{has_atoms-False, nodes-False}
use Rattle.p3_regress.specs.Turned.{may_turn}
use Rattle.p3_regress.proofs.TurnedLaws.{may_turn-And, may_turn-Not, narrowed_still, some_node, turn_before}
use Rattle.p3_monitors.specs.KeepsOn.{condition_nodes}
use Rattle.p3_monitors.specs.Updates.{IsTurned, IsUpdate, awaits, possible}

-- ---- one change, and two

pub one_possible : (first : Change) → unless_never first ≡ possible (first ∷ [])
one_possible first = sym (append-nil (unless_never first))

pub two_possible : (first second : Change) → unless_never first ++ unless_never second ≡ possible (first ∷ second ∷ [])
two_possible first second = ap (λ list. unless_never first ++ list) (one_possible second)

pub ruleset possible_laws = (one_possible, two_possible)

-- ---- all that is said of the changes is said of those

any_possible : (test : Change → Bool) → ((change : Change) → is_value false change.cond ≡ true → test change ≡ false) → (effects : List Change) → list_any test (possible effects) ≡ list_any test effects
any_possible test never [] = refl
any_possible test never (change ∷ effects) =
    list_any-append test (unless_never change) (possible effects) ∙ (λ i. by (is_value false change.cond) refl i || any_possible test never effects i) where
      by : (b : Bool) → is_value false change.cond ≡ b → list_any test (if b then [] else (change ∷ [])) ≡ test change
      by true is = sym (never change is)
      by false is = or-false (test change)

all_possible : (test : Change → Bool) (effects : List Change) → list_all test effects ≡ true → list_all test (possible effects) ≡ true
all_possible test [] h = refl
all_possible test (change ∷ effects) h = by (is_value false change.cond) (all_possible test effects (and_parts (test change) _ h).1) where
  by : (b : Bool) → list_all test (possible effects) ≡ true → list_all test ((if b then [] else (change ∷ [])) ++ possible effects) ≡ true
  by true rest = rest
  by false rest = and_from (test change) _ (and_parts (test change) _ h).0 rest

fewer_possible : (effects : List Change) → length (possible effects) ≤ length effects
fewer_possible [] = omega arith
fewer_possible (change ∷ effects) = by (is_value false change.cond) (fewer_possible effects) where
  by : (b : Bool) → length (possible effects) ≤ length effects → length ((if b then [] else (change ∷ [])) ++ possible effects) ≤ suc (length effects)
  by true rest = omega (arith, rest)
  by false rest = omega (arith, rest)

smaller_possible : (effects : List Change) → condition_nodes (possible effects) ≤ condition_nodes effects
smaller_possible [] = omega arith
smaller_possible (change ∷ effects) = by (is_value false change.cond) (smaller_possible effects) where
  all : sum_by (λ (one : Change). nodes one.cond) (change ∷ effects) ≡ nodes change.cond + condition_nodes effects
  all = sum_by-cons (λ (one : Change). nodes one.cond) change effects

  by : (b : Bool) → condition_nodes (possible effects) ≤ condition_nodes effects → condition_nodes ((if b then [] else (change ∷ [])) ++ possible effects) ≤ condition_nodes (change ∷ effects)
  by true rest = let a = all in omega (arith, rest, a)
  by false rest = let a = all in let p = sum_by-cons (λ (one : Change). nodes one.cond) change (possible effects) in omega (arith, rest, a, p)

-- ---- they do the same

never_holds : (state : State) (form : Form) → is_value false form ≡ true → truth state form ≡ false
unfolding truth
never_holds state True h = absurd (cc)
never_holds state False h = refl
never_holds state (Atom atom) h = absurd (cc)
never_holds state (Not' shape part) h = absurd (cc)
never_holds state (And' shape parts) h = absurd (cc)
never_holds state (Or' shape parts) h = absurd (cc)

module _ (state : State) (step effects others : List Change) where
  made_alike : (atom : ℕ) (pick : Change → Bool)
      → list_any (λ (change : Change). (change.atom == atom) && pick change && truth state change.cond) (step ++ (possible effects ++ others)) ≡ list_any (λ (change : Change). (change.atom == atom) && pick change && truth state change.cond) (step ++ (effects ++ others))
  made_alike atom pick =
      list_any-append made step (possible effects ++ others)
      ∙ ap (λ b. list_any made step || b) (list_any-append made (possible effects) others ∙ ap (λ b. b || list_any made others) (any_possible made never effects) ∙ sym (list_any-append made effects others))
      ∙ sym (list_any-append made step (effects ++ others))
    where
      made : Change → Bool
      made change = (change.atom == atom) && pick change && truth state change.cond

      never : (change : Change) → is_value false change.cond ≡ true → made change ≡ false
      never change is = ap (λ b. (change.atom == atom) && pick change && b) (never_holds state change.cond is) ∙ and-false ((change.atom == atom) && pick change)

  set_alike : (atom : ℕ) → is_set_after state (step ++ (possible effects ++ others)) atom ≡ is_set_after state (step ++ (effects ++ others)) atom
  set_alike atom = λ i. made_alike atom (λ change. change.add) i || is_set state atom && not (made_alike atom (λ change. not change.add) i)

  after_alike : after state (step ++ (possible effects ++ others)) ≡ after state (step ++ (effects ++ others))
  unfolding after
  after_alike = λ i. map (λ atom. set_alike atom i) (range_with_len 0 (length state))

pub possible_update : (base : ℕ) (modal : GroundModal) (step effects : List Change) → IsUpdate base modal step effects → IsUpdate base modal step (possible effects)
possible_update base modal step effects update = record {
  kept = λ free W state next others kept apart.
      subst (λ later. Agree modal later next → Kept base modal (W ++ next ∷ []) later) (sym (after_alike state step effects others)) (update.kept free W state next others kept apart);
  own = all_possible (λ (change : Change). is_own base modal change.atom) effects update.own;
  atoms = λ allowed of own conds. all_possible (λ (change : Change). has_atoms allowed change.cond) effects (update.atoms allowed of own conds);
  few = let f = fewer_possible effects in let g = update.few in omega (arith, f, g);
  size = let f = smaller_possible effects in let g = update.size in omega (arith, f, g);
}

-- ---- a form that the step may not turn true

pub still_turned : (step : List Change) (form : Form) → may_turn step true form ≡ false → IsTurned true step form False
unfolding truth
still_turned step form none = record {
  truth = turn_before true step form False False (narrowed_still step true form none) (λ state below. refl);
  still = λ same. refl;
  atoms = λ allowed of all. has_atoms-False allowed;
  size = let n = nodes-False in let s = some_node form in omega (arith, n, s);
}

pub awaits_turn : (step : List Change) (first second : Form) → may_turn step true (awaits first second) ≡ (may_turn step true first || may_turn step false second)
awaits_turn step first second =
    may_turn-And step true (first ∷ Not second ∷ []) ∙ ap (λ b. may_turn step true first || b) (or-false (may_turn step true (Not second)) ∙ may_turn-Not step true second)
