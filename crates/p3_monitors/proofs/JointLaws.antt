-- What is joint holds where both do, has the atoms of both, and is no greater than a conjunction of both; what is made of it.
use Rattle.std.proofs.Common.{◌≡◌, ◌∙◌, ℕ, ◌+◌, ◌≤◌, Bool, true, false, not, ◌&&◌, [], ◌∷◌, refl, sym, ap, arith}
use Rattle.std.proofs.Math.Bool.{and-true, and-false}
use Rattle.std.proofs.lemmas.Bool.{and_from}
use Rattle.std.proofs.lemmas.List.Sums.{sum_by-cons}
use Rattle.p3_formula.specs.Forms.{State, is_set, truth, has_atoms, nodes}
use Rattle.p3_formula.specs.declared.form.Form.{Form}
use Rattle.p3_formula.specs.declared.form.Form.TheVariants.{True, False, Atom, Not, And, Not', And', Or'}
use Rattle.p3_formula.proofs.FormLemmas.{truth-And, truth-Atom, truth-Not, truth-both, has_atoms-And, has_atoms-Atom, has_atoms-Not, has_atoms-both, nodes-And, nodes-Atom, nodes-Not, nodes-both}
use Rattle.p3_monitors.specs.Updates.{joint, back, early, unless}

module _ (state : State) where
  pub truth-joint : (first second : Form) → truth state (joint first second) ≡ (truth state first && truth state second)
  unfolding truth
  truth-joint True second = refl
  truth-joint False second = refl
  truth-joint (Atom atom) second = truth-both state (Atom atom) second
  truth-joint (Not' shape part) second = truth-both state (Not' shape part) second
  truth-joint (And' shape parts) second = truth-both state (And' shape parts) second
  truth-joint (Or' shape parts) second = truth-both state (Or' shape parts) second

module _ (allowed : ℕ → Bool) where
  pub has_atoms-joint : (first second : Form) → has_atoms allowed first ≡ true → has_atoms allowed second ≡ true → has_atoms allowed (joint first second) ≡ true
  unfolding has_atoms
  has_atoms-joint True second f s = s
  has_atoms-joint False second f s = refl
  has_atoms-joint (Atom atom) second f s = has_atoms-both allowed (Atom atom) second f s
  has_atoms-joint (Not' shape part) second f s = has_atoms-both allowed (Not' shape part) second f s
  has_atoms-joint (And' shape parts) second f s = has_atoms-both allowed (And' shape parts) second f s
  has_atoms-joint (Or' shape parts) second f s = has_atoms-both allowed (Or' shape parts) second f s

pub nodes-joint : (first second : Form) → nodes (joint first second) ≤ 1 + (nodes first + nodes second)
unfolding nodes
nodes-joint True second = omega arith
nodes-joint False second = omega arith
nodes-joint (Atom atom) second = let h = nodes-both (Atom atom) second in omega (arith, h)
nodes-joint (Not' shape part) second = let h = nodes-both (Not' shape part) second in omega (arith, h)
nodes-joint (And' shape parts) second = let h = nodes-both (And' shape parts) second in omega (arith, h)
nodes-joint (Or' shape parts) second = let h = nodes-both (Or' shape parts) second in omega (arith, h)

-- ---- what comes back, what comes early, and that it does not

module _ (state : State) where
  three_hold : (a b c : Bool) → (a && (b && (c && true))) ≡ ((a && b) && c)
  three_hold true true c = and-true c
  three_hold true false c = refl
  three_hold false b c = refl

  all_three : (base : ℕ) (now later : Form) → truth state (And (Atom base ∷ Not now ∷ later ∷ [])) ≡ ((is_set state base && not (truth state now)) && truth state later)
  all_three base now later =
      truth-And state (Atom base ∷ Not now ∷ later ∷ []) ∙ three_hold (truth state (Atom base)) (truth state (Not now)) (truth state later)
      ∙ (λ i. (truth-Atom state base i && truth-Not state now i) && truth state later)

  pub truth-back : (base : ℕ) (now later : Form) → truth state (back base now later) ≡ ((is_set state base && not (truth state now)) && truth state later)
  unfolding truth
  truth-back base now True = truth-both state (Atom base) (Not now) ∙ (λ i. truth-Atom state base i && truth-Not state now i) ∙ sym (and-true (is_set state base && not (truth state now)))
  truth-back base now False = sym (and-false (is_set state base && not (truth state now)))
  truth-back base now (Atom atom) = all_three base now (Atom atom)
  truth-back base now (Not' shape part) = all_three base now (Not' shape part)
  truth-back base now (And' shape parts) = all_three base now (And' shape parts)
  truth-back base now (Or' shape parts) = all_three base now (Or' shape parts)

  pub truth-early : (base : ℕ) (first : Form) → truth state (early base first) ≡ (truth state first && not (is_set state base))
  truth-early base first = truth-joint state first (Not (Atom base)) ∙ ap (λ b. truth state first && b) (truth-Not state (Atom base) ∙ ap not (truth-Atom state base))

  pub truth-unless : (cond : Form) → truth state (unless cond) ≡ not (truth state cond)
  unfolding truth
  truth-unless True = refl
  truth-unless False = refl
  truth-unless (Atom atom) = truth-Not state (Atom atom)
  truth-unless (Not' shape part) = truth-Not state (Not' shape part)
  truth-unless (And' shape parts) = truth-Not state (And' shape parts)
  truth-unless (Or' shape parts) = truth-Not state (Or' shape parts)

module _ (allowed : ℕ → Bool) where
  three_read : (base : ℕ) (now later : Form) → allowed base ≡ true → has_atoms allowed now ≡ true → has_atoms allowed later ≡ true → has_atoms allowed (And (Atom base ∷ Not now ∷ later ∷ [])) ≡ true
  three_read base now later own n l =
      has_atoms-And allowed (Atom base ∷ Not now ∷ later ∷ [])
      ∙ and_from (has_atoms allowed (Atom base)) _ (has_atoms-Atom allowed base ∙ own) (and_from (has_atoms allowed (Not now)) _ (has_atoms-Not allowed now ∙ n) (and_from (has_atoms allowed later) true l refl))

  pub has_atoms-back : (base : ℕ) (now later : Form) → allowed base ≡ true → has_atoms allowed now ≡ true → has_atoms allowed later ≡ true → has_atoms allowed (back base now later) ≡ true
  unfolding has_atoms
  has_atoms-back base now True own n l = has_atoms-both allowed (Atom base) (Not now) (has_atoms-Atom allowed base ∙ own) (has_atoms-Not allowed now ∙ n)
  has_atoms-back base now False own n l = refl
  has_atoms-back base now (Atom atom) own n l = three_read base now (Atom atom) own n l
  has_atoms-back base now (Not' shape part) own n l = three_read base now (Not' shape part) own n l
  has_atoms-back base now (And' shape parts) own n l = three_read base now (And' shape parts) own n l
  has_atoms-back base now (Or' shape parts) own n l = three_read base now (Or' shape parts) own n l

  pub has_atoms-early : (base : ℕ) (first : Form) → allowed base ≡ true → has_atoms allowed first ≡ true → has_atoms allowed (early base first) ≡ true
  has_atoms-early base first own f = has_atoms-joint allowed first (Not (Atom base)) f (has_atoms-Not allowed (Atom base) ∙ has_atoms-Atom allowed base ∙ own)

  pub has_atoms-unless : (cond : Form) → has_atoms allowed cond ≡ true → has_atoms allowed (unless cond) ≡ true
  unfolding has_atoms
  has_atoms-unless True c = refl
  has_atoms-unless False c = refl
  has_atoms-unless (Atom atom) c = has_atoms-Not allowed (Atom atom) ∙ c
  has_atoms-unless (Not' shape part) c = has_atoms-Not allowed (Not' shape part) ∙ c
  has_atoms-unless (And' shape parts) c = has_atoms-Not allowed (And' shape parts) ∙ c
  has_atoms-unless (Or' shape parts) c = has_atoms-Not allowed (Or' shape parts) ∙ c

three_nodes : (base : ℕ) (now later : Form) → nodes (And (Atom base ∷ Not now ∷ later ∷ [])) ≤ 4 + (nodes now + nodes later)
three_nodes base now later =
    let h = nodes-And (Atom base ∷ Not now ∷ later ∷ []) in
    let p = sum_by-cons nodes (Atom base) (Not now ∷ later ∷ []) in
    let q = sum_by-cons nodes (Not now) (later ∷ []) in
    let r = sum_by-cons nodes later [] in
    let a = nodes-Atom base in
    let n = nodes-Not now in
    omega (arith, h, p, q, r, a, n)

pub nodes-back : (base : ℕ) (now later : Form) → nodes (back base now later) ≤ 4 + (nodes now + nodes later)
unfolding nodes
nodes-back base now True = let i = nodes-both (Atom base) (Not now) in let a = nodes-Atom base in let n = nodes-Not now in omega (arith, i, a, n)
nodes-back base now False = omega arith
nodes-back base now (Atom atom) = three_nodes base now (Atom atom)
nodes-back base now (Not' shape part) = three_nodes base now (Not' shape part)
nodes-back base now (And' shape parts) = three_nodes base now (And' shape parts)
nodes-back base now (Or' shape parts) = three_nodes base now (Or' shape parts)

pub nodes-early : (base : ℕ) (first : Form) → nodes (early base first) ≤ 3 + nodes first
nodes-early base first = let b = nodes-joint first (Not (Atom base)) in let n = nodes-Not (Atom base) in let a = nodes-Atom base in omega arith

pub nodes-unless : (cond : Form) → nodes (unless cond) ≤ 1 + nodes cond
unfolding nodes
nodes-unless True = omega arith
nodes-unless False = omega arith
nodes-unless (Atom atom) = let n = nodes-Not (Atom atom) in omega (arith, n)
nodes-unless (Not' shape part) = let n = nodes-Not (Not' shape part) in omega (arith, n)
nodes-unless (And' shape parts) = let n = nodes-Not (And' shape parts) in omega (arith, n)
nodes-unless (Or' shape parts) = let n = nodes-Not (Or' shape parts) in omega (arith, n)
