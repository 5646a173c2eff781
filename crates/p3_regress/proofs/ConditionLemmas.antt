-- The conditions of the changes of an atom.
use Rattle.std.proofs.Common.{◌≡◌, ◌∙◌, ℕ, ◌+◌, ◌==◌, Bool, true, false, not, ◌&&◌, ◌||◌, if◌then◌else◌, List, [], ◌∷◌, ◌++◌, sum_by, refl, sym, ap, arith}
use Rattle.std.specs.List.{list_any, list_all}
use Rattle.std.proofs.Math.Bool.{or-false, or_assoc}
use Rattle.std.proofs.lemmas.Bool.{and_parts, and_from, or_parts}
use Rattle.std.proofs.lemmas.List.Folds.{list_any-append, list_all-append}
use Rattle.std.proofs.lemmas.List.Sums.{sum_by-cons, sum_by-append}
use Rattle.p3_formula.specs.Forms.{nodes}
use Rattle.p3_formula.specs.declared.form.Change.{Change}
use Rattle.p3_formula.specs.declared.form.Form.{Form}
use Rattle.p3_regress.specs.Regressed.{is_changed, is_of, conditions, atom_growth}

-- one change more
module _ (test : Form → Bool) (add : Bool) (atom : ℕ) where
  any_more : (b : Bool) (kept : List Form) (cond : Form) (rest : List Change)
      → ((k : List Form) → list_any test (conditions add atom k rest) ≡ (list_any test k || list_any (λ change. is_of add atom change && test change.cond) rest))
      → list_any test (conditions add atom (if b then (kept ++ cond ∷ []) else kept) rest) ≡ (list_any test kept || (b && test cond || list_any (λ change. is_of add atom change && test change.cond) rest))
  any_more true kept cond rest known =
      let some = list_any (λ change. is_of add atom change && test change.cond) rest in
      known (kept ++ cond ∷ []) ∙ ap (λ b. b || some) (list_any-append test kept (cond ∷ []) ∙ ap (λ b. list_any test kept || b) (or-false (test cond))) ∙ or_assoc (list_any test kept) (test cond) some
  any_more false kept cond rest known = known kept

  -- some condition passes exactly where some such change has one that does
  pub any_conditions : (kept : List Form) (changes : List Change) → list_any test (conditions add atom kept changes) ≡ (list_any test kept || list_any (λ change. is_of add atom change && test change.cond) changes)
  any_conditions kept [] = sym (or-false (list_any test kept))
  any_conditions kept (change ∷ rest) = any_more (is_of add atom change) kept change.cond rest (λ k. any_conditions k rest)

  all_more : (b : Bool) (kept : List Form) (cond : Form) → list_all test kept ≡ true → test cond ≡ true → list_all test (if b then (kept ++ cond ∷ []) else kept) ≡ true
  all_more true kept cond h passes = list_all-append test kept (cond ∷ []) ∙ and_from (list_all test kept) _ h (and_from (test cond) true passes refl)
  all_more false kept cond h passes = h

  -- what each condition passes, each of these does
  pub all_conditions : (kept : List Form) (changes : List Change) → list_all test kept ≡ true → list_all (λ change. test change.cond) changes ≡ true → list_all test (conditions add atom kept changes) ≡ true
  all_conditions kept [] h all = h
  all_conditions kept (change ∷ rest) h all =
      all_conditions (if is_of add atom change then (kept ++ change.cond ∷ []) else kept) rest
      (all_more (is_of add atom change) kept change.cond h (and_parts (test change.cond) _ all).0)
      (and_parts (test change.cond) _ all).1

none_more : {A : Type 0} (a b : Bool) (first second : A) → a ≡ false → (if a && b then first else second) ≡ second
none_more false b first second e = refl
none_more true b first second e = absurd (cc)

-- where no change sets the atom, or none clears it, there is no condition for that
pub none_such : (add : Bool) (atom : ℕ) (kept : List Form) (changes : List Change) → list_any (is_of add atom) changes ≡ false → conditions add atom kept changes ≡ kept
none_such add atom kept [] h = refl
none_such add atom kept (change ∷ rest) h =
    ap (λ b. conditions add atom (if b then (kept ++ change.cond ∷ []) else kept) rest) (or_parts (is_of add atom change) _ h).0
    ∙ none_such add atom kept rest (or_parts (is_of add atom change) _ h).1

-- an atom that no change names has no conditions
pub no_conditions : (add : Bool) (atom : ℕ) (kept : List Form) (changes : List Change) → is_changed changes atom ≡ false → conditions add atom kept changes ≡ kept
no_conditions add atom kept [] h = refl
no_conditions add atom kept (change ∷ rest) h =
    ap (λ k. conditions add atom k rest) (none_more (change.atom == atom) _ _ kept (or_parts (change.atom == atom) _ h).0)
    ∙ no_conditions add atom kept rest (or_parts (change.atom == atom) _ h).1

-- what conditions weigh for the growth
abbrev pub weight : List Form → ℕ
weight conds = sum_by (λ cond. 2 + nodes cond) conds

push_weight : (kept : List Form) (cond : Form) → weight (kept ++ cond ∷ []) ≡ weight kept + (2 + nodes cond)
push_weight kept cond = let h = sum_by-append (λ f. 2 + nodes f) kept (cond ∷ []) in let k = sum_by-cons (λ f. 2 + nodes f) cond [] in omega arith

module _ (atom : ℕ) where
  weight_more : (a b : Bool) (adds deletes : List Form) (cond : Form) (rest : List Change)
      → ((k l : List Form) → weight (conditions true atom k rest) + weight (conditions false atom l rest) ≡ weight k + weight l + atom_growth rest atom)
      → weight (conditions true atom (if a && b then (adds ++ cond ∷ []) else adds) rest) + weight (conditions false atom (if a && not b then (deletes ++ cond ∷ []) else deletes) rest)
      ≡ weight adds + weight deletes + ((if a then (2 + nodes cond) else 0) + atom_growth rest atom)
  weight_more false b adds deletes cond rest known = let h = known adds deletes in omega arith
  weight_more true true adds deletes cond rest known = let h = known (adds ++ cond ∷ []) deletes in let p = push_weight adds cond in omega arith
  weight_more true false adds deletes cond rest known = let h = known adds (deletes ++ cond ∷ []) in let p = push_weight deletes cond in omega arith

  -- the conditions of an atom weigh what its changes may add
  pub weight_conditions : (adds deletes : List Form) (changes : List Change)
      → weight (conditions true atom adds changes) + weight (conditions false atom deletes changes) ≡ weight adds + weight deletes + atom_growth changes atom
  weight_conditions adds deletes [] = omega arith
  weight_conditions adds deletes (change ∷ rest) =
      weight_more (change.atom == atom) change.add adds deletes change.cond rest (λ k l. weight_conditions k l rest)
      ∙ ap (λ n. weight adds + weight deletes + n) (sym (sum_by-cons (λ c. if c.atom == atom then (2 + nodes c.cond) else 0) change rest))
