-- What is below a number is below a greater one.
use Rattle.std.proofs.Common.{◌≡◌, ℕ, ◌≤◌, nat_lt, Bool, true, ◌&&◌, List, [], ◌∷◌, refl, arith}
use Rattle.std.specs.List.{list_all}
use Rattle.std.proofs.lemmas.Bool.{and_parts, and_from, ltb-true, lt-ltb}
use Rattle.p3_formula.specs.Conditions.{is_step_below}
use Rattle.p3_formula.specs.Forms.{is_below}
use Rattle.p3_formula.specs.Targets.{is_sized_change}
use Rattle.p3_formula.specs.declared.form.Change.{Change}
use Rattle.p3_formula.specs.declared.form.Form.{Form}
use Rattle.p3_formula.specs.declared.modal.GroundPref.{GroundPref}
use Rattle.p3_formula.specs.declared.task.GroundStep.{GroundStep}
use Rattle.p3_formula.proofs.ReadAtoms.{has_more}

-- what passes one test passes another
pub all_weaker : {A : Type 0} (some more : A → Bool) → ((x : A) → some x ≡ true → more x ≡ true) → (xs : List A) → list_all some xs ≡ true → list_all more xs ≡ true
all_weaker some more wider [] all = refl
all_weaker some more wider (x ∷ xs) all = let parts = and_parts (some x) _ all in and_from (more x) _ (wider x parts.0) (all_weaker some more wider xs parts.1)

module _ (low high : ℕ) (wider : low ≤ high) where
  atom_more : (atom : ℕ) → nat_lt atom low ≡ true → nat_lt atom high ≡ true
  atom_more atom less = let l = ltb-true atom low less in lt-ltb atom high (omega (arith, l, wider))

  pub below_more : (form : Form) → is_below low form ≡ true → is_below high form ≡ true
  below_more = has_more (λ atom. nat_lt atom low) (λ atom. nat_lt atom high) atom_more

  pub change_more : (change : Change) → is_sized_change low change ≡ true → is_sized_change high change ≡ true
  change_more change sized = let parts = and_parts (nat_lt change.atom low) _ sized in and_from (nat_lt change.atom high) _ (atom_more change.atom parts.0) (below_more change.cond parts.1)

  pub step_more : (step : GroundStep) → is_step_below low step ≡ true → is_step_below high step ≡ true
  step_more step below =
      let parts = and_parts (is_below low step.pre && list_all (λ (pref : GroundPref). is_below low pref.body) step.prefs) _ below in
      let front = and_parts (is_below low step.pre) _ parts.0 in
      and_from _ _ (and_from _ _ (below_more step.pre front.0) (all_weaker _ _ (λ (pref : GroundPref). below_more pref.body) step.prefs front.1)) (all_weaker _ _ change_more step.effects parts.1)
