-- What an atom is after changes.
use Rattle.std.proofs.Common.{◌≡◌, ◌∙◌, ℕ, ◌+◌, ◌≤◌, ◌*◌, Bool, true, false, not, ◌&&◌, ◌||◌, if◌then◌else◌, List, [], ◌∷◌, ◌++◌, length, sum_by, refl, sym, ap, arith}
use Rattle.std.specs.List.{list_any, list_all}
use Rattle.std.proofs.Math.Bool.{and-true, and-false, or-true, or-false}
use Rattle.std.proofs.lemmas.Bool.{and_from}
use Rattle.std.proofs.lemmas.List.Folds.{list_any-append, list_all-append}
use Rattle.std.proofs.lemmas.List.Sums.{sum_by-cons, sum_by-append}
use Rattle.p3_formula.specs.Forms.{State, is_set, truth, has_atoms, nodes}
use Rattle.p3_formula.specs.Next.{is_added, is_set_after}
use Rattle.p3_formula.specs.Simplified.{joined, is_value}
use Rattle.p3_formula.specs.declared.form.Change.{Change}
use Rattle.p3_formula.specs.declared.form.Form.{Form}
use Rattle.p3_formula.specs.declared.form.Form.TheVariants.{True, False, Atom, Not, Not', And', Or'}
use Rattle.p3_formula.proofs.FormLemmas.{truth-Not, truth-And, has_atoms-Not, has_atoms-And, has_atoms-Or, nodes-Atom, nodes-Not, nodes-And, nodes-Or}
use Rattle.p3_formula.proofs.TruthLaws.{joined_truth}
use Rattle.p3_regress.specs.Regressed.{is_changed, is_of, is_sure, conditions, stays, with_kept, changed, atom_after, atom_growth}
use Rattle.p3_regress.proofs.ConditionLemmas.{any_conditions, all_conditions, no_conditions, none_such, weight, weight_conditions}

or-mono : (a b c d : Bool) → (a ≡ true → c ≡ true) → (b ≡ true → d ≡ true) → (a || b) ≡ true → (c || d) ≡ true
or-mono true b c d f g h = ap (λ x. x || d) (f refl)
or-mono false b c d f g h = ap (λ x. c || x) (g h) ∙ or-true c

module _ (state : State) where
  true_holds : (form : Form) → is_value true form ≡ true → truth state form ≡ true
  unfolding truth
  true_holds True h = refl
  true_holds False h = absurd (cc)
  true_holds (Atom atom) h = absurd (cc)
  true_holds (Not' shape part) h = absurd (cc)
  true_holds (And' shape parts) h = absurd (cc)
  true_holds (Or' shape parts) h = absurd (cc)

  some_holds : (forms : List Form) → list_any (is_value true) forms ≡ true → list_any (truth state) forms ≡ true
  some_holds [] h = h
  some_holds (form ∷ rest) h = or-mono (is_value true form) _ (truth state form) _ (true_holds form) (some_holds rest) h

  module _ (atom : ℕ) where
    stays_truth : (deletes : List Form) → truth state (stays atom deletes) ≡ (is_set state atom && not (list_any (truth state) deletes))
    unfolding truth
    stays_truth deletes =
        truth-And state (Atom atom ∷ Not (joined false deletes) ∷ [])
        ∙ ap (λ b. is_set state atom && b) (and-true (truth state (Not (joined false deletes))) ∙ truth-Not state (joined false deletes) ∙ ap not (joined_truth state false deletes))

    with_kept_truth : (adds deletes : List Form) → list_any (truth state) (with_kept atom adds deletes) ≡ (list_any (truth state) adds || is_set state atom && not (list_any (truth state) deletes))
    unfolding truth
    with_kept_truth adds [] = list_any-append (truth state) adds (Atom atom ∷ []) ∙ ap (λ b. list_any (truth state) adds || b) (or-false (is_set state atom) ∙ sym (and-true (is_set state atom)))
    with_kept_truth adds (first ∷ rest) = by (list_any (is_value true) (first ∷ rest)) refl where
      by : (b : Bool) → list_any (is_value true) (first ∷ rest) ≡ b
          → list_any (truth state) (if b then adds else (adds ++ stays atom (first ∷ rest) ∷ [])) ≡ (list_any (truth state) adds || is_set state atom && not (list_any (truth state) (first ∷ rest)))
      by true e =
          sym (ap (λ b. list_any (truth state) adds || is_set state atom && not b) (some_holds (first ∷ rest) e)
          ∙ ap (λ b. list_any (truth state) adds || b) (and-false (is_set state atom))
          ∙ or-false (list_any (truth state) adds))
      by false e =
          list_any-append (truth state) adds (stays atom (first ∷ rest) ∷ [])
          ∙ ap (λ b. list_any (truth state) adds || b) (or-false (truth state (stays atom (first ∷ rest))) ∙ stays_truth (first ∷ rest))

    changed_truth : (adds deletes : List Form) → truth state (changed atom adds deletes) ≡ (list_any (truth state) adds || is_set state atom && not (list_any (truth state) deletes))
    unfolding truth
    changed_truth adds deletes = by (list_any (is_value true) adds) refl where
      by : (b : Bool) → list_any (is_value true) adds ≡ b
          → truth state (if b then True else joined false (with_kept atom adds deletes)) ≡ (list_any (truth state) adds || is_set state atom && not (list_any (truth state) deletes))
      by true e = sym (ap (λ b. b || is_set state atom && not (list_any (truth state) deletes)) (some_holds adds e))
      by false e = joined_truth state false (with_kept atom adds deletes) ∙ with_kept_truth adds deletes

    pub atom_after_truth : (effects : List Change) → truth state (atom_after effects atom) ≡ is_set_after state effects atom
    atom_after_truth effects =
        changed_truth (conditions true atom [] effects) (conditions false atom [] effects)
        ∙ ap (λ b. b || is_set state atom && not (list_any (truth state) (conditions false atom [] effects))) (any_conditions (truth state) true atom [] effects)
        ∙ ap (λ b. is_added state effects atom || is_set state atom && not b) (any_conditions (truth state) false atom [] effects)

-- an atom that no change names stays that atom
pub atom_after_same : (effects : List Change) (atom : ℕ) → is_changed effects atom ≡ false → atom_after effects atom ≡ Atom atom
atom_after_same effects atom h =
    ap (λ adds. changed atom adds (conditions false atom [] effects)) (no_conditions true atom [] effects h)
    ∙ ap (changed atom []) (no_conditions false atom [] effects h)

-- where some change sets the atom whatever holds, it is set
pub sure_added : (effects : List Change) (atom : ℕ) → list_any (is_sure true atom) effects ≡ true → atom_after effects atom ≡ True
sure_added effects atom sure =
    ap (λ b. if b then True else joined false (with_kept atom (conditions true atom [] effects) (conditions false atom [] effects))) (any_conditions (is_value true) true atom [] effects ∙ sure)

-- nothing keeps the atom where it is cleared whatever holds
none_kept : (atom : ℕ) (deletes : List Form) → list_any (is_value true) deletes ≡ true → with_kept atom [] deletes ≡ []
none_kept atom [] h = absurd (cc)
none_kept atom (first ∷ rest) h = ap (λ b. if b then [] else ([] ++ stays atom (first ∷ rest) ∷ [])) h

-- where some change clears it whatever holds and none sets it, it is not set
pub sure_cleared : (effects : List Change) (atom : ℕ) → list_any (is_sure false atom) effects ≡ true → list_any (is_of true atom) effects ≡ false → atom_after effects atom ≡ False
sure_cleared effects atom sure none =
    ap (λ adds. changed atom adds (conditions false atom [] effects)) (none_such true atom [] effects none)
    ∙ ap (joined false) (none_kept atom (conditions false atom [] effects) (any_conditions (is_value true) false atom [] effects ∙ sure))

module _ (allowed : ℕ → Bool) (atom : ℕ) (may : allowed atom ≡ true) where
  joined_atoms : (parts : List Form) → list_all (has_atoms allowed) parts ≡ true → has_atoms allowed (joined false parts) ≡ true
  unfolding has_atoms
  joined_atoms [] h = refl
  joined_atoms (part ∷ []) h = sym (and-true (has_atoms allowed part)) ∙ h
  joined_atoms (part ∷ other ∷ parts) h = has_atoms-Or allowed (part ∷ other ∷ parts) ∙ h

  stays_atoms : (deletes : List Form) → list_all (has_atoms allowed) deletes ≡ true → has_atoms allowed (stays atom deletes) ≡ true
  unfolding has_atoms
  stays_atoms deletes h =
      has_atoms-And allowed (Atom atom ∷ Not (joined false deletes) ∷ [])
      ∙ and_from (allowed atom) _ may (and_from (has_atoms allowed (Not (joined false deletes))) true (has_atoms-Not allowed (joined false deletes) ∙ joined_atoms deletes h) refl)

  one_more_atoms : (adds : List Form) (last : Form) → list_all (has_atoms allowed) adds ≡ true → has_atoms allowed last ≡ true → list_all (has_atoms allowed) (adds ++ last ∷ []) ≡ true
  one_more_atoms adds last h k = list_all-append (has_atoms allowed) adds (last ∷ []) ∙ and_from (list_all (has_atoms allowed) adds) _ h (and_from (has_atoms allowed last) true k refl)

  with_kept_atoms : (adds deletes : List Form) → list_all (has_atoms allowed) adds ≡ true → list_all (has_atoms allowed) deletes ≡ true → list_all (has_atoms allowed) (with_kept atom adds deletes) ≡ true
  unfolding has_atoms
  with_kept_atoms adds [] h k = one_more_atoms adds (Atom atom) h may
  with_kept_atoms adds (first ∷ rest) h k = by (list_any (is_value true) (first ∷ rest)) where
    by : (b : Bool) → list_all (has_atoms allowed) (if b then adds else (adds ++ stays atom (first ∷ rest) ∷ [])) ≡ true
    by true = h
    by false = one_more_atoms adds (stays atom (first ∷ rest)) h (stays_atoms (first ∷ rest) k)

  changed_atoms : (adds deletes : List Form) → list_all (has_atoms allowed) adds ≡ true → list_all (has_atoms allowed) deletes ≡ true → has_atoms allowed (changed atom adds deletes) ≡ true
  unfolding has_atoms
  changed_atoms adds deletes h k = by (list_any (is_value true) adds) where
    by : (b : Bool) → has_atoms allowed (if b then True else joined false (with_kept atom adds deletes)) ≡ true
    by true = refl
    by false = joined_atoms (with_kept atom adds deletes) (with_kept_atoms adds deletes h k)

  pub atom_after_atoms : (effects : List Change) → list_all (λ change. has_atoms allowed change.cond) effects ≡ true → has_atoms allowed (atom_after effects atom) ≡ true
  atom_after_atoms effects all =
      changed_atoms (conditions true atom [] effects) (conditions false atom [] effects)
      (all_conditions (has_atoms allowed) true atom [] effects refl all)
      (all_conditions (has_atoms allowed) false atom [] effects refl all)

light : (forms : List Form) → sum_by nodes forms + 2 * length forms ≡ weight forms
light [] = omega arith
light (form ∷ rest) = let h = light rest in let p = sum_by-cons nodes form rest in let q = sum_by-cons (λ f. 2 + nodes f) form rest in omega arith

-- two nodes go spare where there is a part
joined_nodes : (part : Form) (rest : List Form) → nodes (joined false (part ∷ rest)) + 2 ≤ weight (part ∷ rest)
joined_nodes part [] = let q = sum_by-cons (λ f. 2 + nodes f) part [] in omega arith
joined_nodes part (other ∷ rest) =
    let h = nodes-Or (part ∷ other ∷ rest) in
    let l = light (part ∷ other ∷ rest) in
    omega arith

-- one part more
last_nodes : (adds : List Form) (last : Form) → nodes (joined false (adds ++ last ∷ [])) ≤ nodes last + weight adds
last_nodes [] last = omega arith
last_nodes (add ∷ []) last =
    let h = nodes-Or (add ∷ last ∷ []) in
    let l = light (add ∷ last ∷ []) in
    let q = sum_by-cons (λ f. 2 + nodes f) add [] in
    let r = sum_by-cons (λ f. 2 + nodes f) add (last ∷ []) in
    let s = sum_by-cons (λ f. 2 + nodes f) last [] in
    omega arith
last_nodes (add ∷ other ∷ adds) last =
    let h = nodes-Or (add ∷ other ∷ adds ++ last ∷ []) in
    let l = sum_by-append nodes (add ∷ other ∷ adds) (last ∷ []) in
    let p = light (add ∷ other ∷ adds) in
    let q = sum_by-cons nodes last [] in
    omega arith

stays_nodes : (atom : ℕ) (first : Form) (rest : List Form) → nodes (stays atom (first ∷ rest)) ≤ 1 + weight (first ∷ rest)
stays_nodes atom first rest =
    let out = joined false (first ∷ rest) in
    let h = nodes-And (Atom atom ∷ Not out ∷ []) in
    let p = sum_by-cons nodes (Atom atom) (Not out ∷ []) in
    let q = sum_by-cons nodes (Not out) [] in
    let a = nodes-Atom atom in
    let n = nodes-Not out in
    let j = joined_nodes first rest in
    omega arith

some_nodes : (adds : List Form) → nodes (joined false adds) ≤ 1 + weight adds
unfolding nodes
some_nodes [] = omega arith
some_nodes (add ∷ adds) = let h = joined_nodes add adds in omega arith

with_kept_nodes : (atom : ℕ) (adds deletes : List Form) → nodes (joined false (with_kept atom adds deletes)) ≤ 1 + (weight adds + weight deletes)
with_kept_nodes atom adds [] = let h = last_nodes adds (Atom atom) in let a = nodes-Atom atom in omega arith
with_kept_nodes atom adds (first ∷ rest) = by (list_any (is_value true) (first ∷ rest)) where
  by : (b : Bool) → nodes (joined false (if b then adds else (adds ++ stays atom (first ∷ rest) ∷ []))) ≤ 1 + (weight adds + weight (first ∷ rest))
  by true = let h = some_nodes adds in omega arith
  by false = let h = last_nodes adds (stays atom (first ∷ rest)) in let k = stays_nodes atom first rest in omega arith

changed_nodes : (atom : ℕ) (adds deletes : List Form) → nodes (changed atom adds deletes) ≤ 1 + (weight adds + weight deletes)
unfolding nodes
changed_nodes atom adds deletes = by (list_any (is_value true) adds) where
  by : (b : Bool) → nodes (if b then True else joined false (with_kept atom adds deletes)) ≤ 1 + (weight adds + weight deletes)
  by true = omega arith
  by false = with_kept_nodes atom adds deletes

pub atom_after_nodes : (effects : List Change) (atom : ℕ) → nodes (atom_after effects atom) ≤ 1 + atom_growth effects atom
atom_after_nodes effects atom =
    let h = changed_nodes atom (conditions true atom [] effects) (conditions false atom [] effects) in
    let w = weight_conditions atom [] [] effects in
    omega arith
