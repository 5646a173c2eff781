-- What a move makes of the bits.
use Rattle.std.proofs.Common.{◌≡◌, ◌∙◌, ◌≢◌, ℕ, ◌+◌, ◌<◌, ◌≤◌, Bool, true, false, not, ◌&&◌, ◌||◌, List, [], ◌∷◌, length, refl, sym, subst, arith}
use Rattle.std.specs.Prelude.{◌==◌, nat_lt, if◌then◌else◌}
use Rattle.std.proofs.Math.Bool.{and-true}
use Rattle.std.proofs.lemmas.Bool.{and_right}
use Rattle.std.proofs.lemmas.Bool.Decides.{nat_tests}
use Rattle.std.proofs.lemmas.List.Sums.{sum_by-cons}
use Rattle.p3_formula.specs.Forms.{State, is_set, truth, IsBelow}
use Rattle.p3_formula.specs.Next.{after}
use Rattle.p3_formula.specs.declared.form.Form.{Form}
use Rattle.p3_formula.proofs.NextLaws.{length-after, truth-agree}
use Rattle.p3_formula.proofs.TurnLaws.{turned_at}
use Rattle.p3_endphase.specs.declared.phase.SoftEnd.{SoftEnd}
use Rattle.p3_endphase.specs.Ends.{AreBelow, moving, IsSingleAt, weight_in, violation}

module _ (state : State) (atom : ℕ) where
  abbrev pub moved : State
  moved = after state (moving atom)

  -- the next atom is set, this one is cleared, and the others stay
  moved_bit : (other : ℕ) → other < length state → is_set moved other ≡ (((atom + 1 == other) || false) || is_set state other && not ((atom == other) || false))
  moved_bit other within = turned_at state [] (atom ∷ []) ((atom + 1) ∷ []) other within refl

  pub moved_next : (other : ℕ) → other < length state → other ≡ atom + 1 → is_set moved other ≡ true
  moved_next other within is = moved_bit other within ∙ (let next : (atom + 1 == other) ≡ true = grind (arith, nat_tests) in λ i. (next i || false) || is_set state other && not ((atom == other) || false))

  pub moved_here : (other : ℕ) → other < length state → other ≡ atom → is_set moved other ≡ false
  moved_here other within is = moved_bit other within
      ∙ (let next : (atom + 1 == other) ≡ false = grind (arith, nat_tests) in let this : (atom == other) ≡ true = grind (arith, nat_tests) in λ i. (next i || false) || is_set state other && not (this i || false))
      ∙ and_right (is_set state other) false refl

  pub moved_other : (other : ℕ) → other < length state → other ≢ atom → other ≢ atom + 1 → is_set moved other ≡ is_set state other
  moved_other other within no_this no_next = moved_bit other within
      ∙ (let next : (atom + 1 == other) ≡ false = grind (arith, nat_tests) in let this : (atom == other) ≡ false = grind (arith, nat_tests) in λ i. (next i || false) || is_set state other && not (this i || false))
      ∙ and-true (is_set state other)

-- the one atom that is set goes on by a place
pub moved_single : (first count place : ℕ) (state : State) → IsSingleAt first count place state → place + 1 < count → IsSingleAt first count (place + 1) (moved state (first + place))
moved_single first count place state single more = record {
  room = subst (λ n. first + count ≤ n) (sym (length-after state (moving (first + place)))) single.room;
  within = more;
  here = moved_next state (first + place) (first + (place + 1)) (let room = single.room in omega arith) (omega arith);
  others = λ other below apart. by other below apart (other == place) refl;
}
  where
    by : (other : ℕ) → other < count → other ≢ place + 1 → (same : Bool) → (other == place) ≡ same → is_set (moved state (first + place)) (first + other) ≡ false
    by other below apart true e =
        let is : other ≡ place = grind (arith, nat_tests) in
        moved_here state (first + place) (first + other) (let room = single.room in omega arith) (omega (arith, is))
    by other below apart false e =
        let differ : other ≢ place = grind (arith, nat_tests) in
        moved_other state (first + place) (first + other) (let room = single.room in omega arith) (λ is. differ (omega (arith, is))) (λ is. apart (omega (arith, is))) ∙ single.others other below differ

-- ---- what reads lower atoms alone

pub moved_truth : (first count place : ℕ) (state : State) → IsSingleAt first count place state → (form : Form) → IsBelow first form → truth (moved state (first + place)) form ≡ truth state form
moved_truth first count place state single form below = truth-agree (moved state (first + place)) state (λ atom. nat_lt atom first) same form below
  where
    same : (atom : ℕ) → nat_lt atom first ≡ true → is_set (moved state (first + place)) atom ≡ is_set state atom
    same atom low =
        let less : atom < first = grind (arith, nat_tests) in
        moved_other state (first + place) atom (let room = single.room in omega (arith, less)) (λ is. omega (arith, is, less)) (λ is. omega (arith, is, less))

pub moved_violation : (first count place : ℕ) (state : State) → IsSingleAt first count place state → (instances : List SoftEnd) → AreBelow first instances → violation (moved state (first + place)) instances ≡ violation state instances
moved_violation first count place state single [] below = refl
moved_violation first count place state single (instance ∷ instances) below =
    sum_by-cons (weight_in (moved state (first + place))) instance instances
    ∙ (λ i. (if moved_truth first count place state single instance.accept below.0 i then 0 else instance.weight) + moved_violation first count place state single instances below.1 i)
    ∙ sym (sum_by-cons (weight_in state) instance instances)
