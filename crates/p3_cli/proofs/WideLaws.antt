-- An action with too many conditions is one of a step that may have as many.
use Rattle.std.proofs.Common.{◌≡◌, ◌∙◌, ℕ, ◌+◌, ◌<◌, ◌≤◌, ◌==◌, Bool, true, false, not, ◌||◌, cond, List, [], ◌∷◌, ◌++◌, length, map, refl, sym, ap, subst, arith, true≢false, Option, Some, None, inl, inr}
use Rattle.std.specs.Prelude.{count_by, flat_map, if◌then◌else◌, Contains, slice_get}
use Rattle.std.specs.List.{All, AllZip, list_all, list_any}
use Rattle.std.specs.Option.{option_map_or}
use Rattle.std.proofs.lemmas.Bool.{and_parts}
use Rattle.std.proofs.lemmas.List.Elements.{All-contains, All-head, All-tail}
use Rattle.std.proofs.lemmas.List.Sums.{sum_by-append, sum_by-cons}
use Rattle.std.proofs.lemmas.Bool.Decides.{nat_tests}
use Rattle.p3_task.specs.Constraints.{HardModal, Instance, hard_list, instances, operators}
use Rattle.p3_task.specs.Literals.{Literal}
use Rattle.p3_task.specs.States.{has_fact, same_fact}
use Rattle.p3_task.specs.Modal.{Modal}
use Rattle.p3_base.proofs.OperatorLaws.{pairs_at_end}
use Rattle.p3_task.specs.declared.state.Fact.{Fact}
use Rattle.p3_task.specs.declared.task.Step.{Step}
use Rattle.p3_task.specs.declared.task.Task.{Task}
use Rattle.p3_task.specs.Mentions.{operator_atoms, step_literals}
use Rattle.p3_task.specs.Refusals.Flat.{most_conditions}
use Rattle.p3_task.specs.States.{Environment}
use Rattle.p3_task.specs.Touching.{all_operators, can_touch, conds, has_literal_of}
use Rattle.p3_task.proofs.StateLemmas.{same_fact-Decides}
use Rattle.p3_formula.specs.Forms.{is_other}
use Rattle.p3_formula.specs.Modals.{is_read, modal_has, touches}
use Rattle.p3_base.specs.Operators.{formulas_of, is_at_end}
use Rattle.p3_formula.specs.Simplified.{is_value}
use Rattle.p3_formula.specs.Unconditional.{is_conditional}
use Rattle.p3_formula.specs.declared.form.Change.{Change}
use Rattle.p3_formula.specs.declared.form.Form.TheVariants.{True}
use Rattle.p3_formula.specs.GroundModal.{GroundModal}
use Rattle.p3_formula.specs.declared.modal.GroundSoft.{GroundSoft}
use Rattle.p3_formula.specs.declared.target.Target.{Target}
use Rattle.p3_formula.specs.declared.target.TargetAction.{TargetAction}
use Rattle.p3_formula.specs.declared.target.Weights.{Weights}
use Rattle.p3_formula.specs.declared.task.GroundTask.{GroundTask}
use Rattle.p3_formula.proofs.ReadAtoms.{all_have_more_of}
use Rattle.p3_compile.specs.Lean.{IsLean, busy_modals, is_busy}
use Rattle.p3_ground.specs.Sparse.{AtItsStep, HasFewChanges, HasOwnAtoms, IsGroundingOf, PartsHaveOwnAtoms, is_atom_of}
use Rattle.p3_ground.specs.StandsFor.{FormStands, HardStands, ModalStands, SoftStands}
use Rattle.p3_flat.specs.Conditions.{conditions, is_too_wide}
use Rattle.p3_flat.proofs.PlacingLemmas.{conditions_few}
use Rattle.p3_cli.specs.Flattening.{IsOfWideStep}

-- ---- counts

abbrev one : Bool → ℕ
one b = cond b 1 0

at_most : (a b : Bool) → (a ≡ true → b ≡ true) → one a ≤ one b
at_most true b h = subst (λ c. 1 ≤ one c) (sym (h refl)) (omega arith)
at_most false b h = omega arith

-- where one test follows from another place by place, it passes as often at least
module _ {A B : Type 0} (R : A → B → Type 0) (p : A → Bool) (q : B → Bool) (follows : (x : A) (y : B) → R x y → q y ≡ true → p x ≡ true) where
  count_zip : (xs : List A) (ys : List B) → AllZip R xs ys → count_by q ys ≤ count_by p xs
  count_zip [] [] all = omega arith
  count_zip [] (y ∷ ys) all = absurd all
  count_zip (x ∷ xs) [] all = absurd all
  count_zip (x ∷ xs) (y ∷ ys) all =
      let here = at_most (q y) (p x) (follows x y all.0) in
      let rest = count_zip xs ys all.1 in
      let a = sum_by-cons (λ (z : B). one (q z)) y ys in
      let b = sum_by-cons (λ (z : A). one (p z)) x xs in omega (arith, here, rest, a, b)

  -- so it is over the parts of items
  module _ {C D : Type 0} (parts : C → List A) (others : D → List B) where
    count_parts : (cs : List C) (ds : List D) → AllZip (λ c d. AllZip R (parts c) (others d)) cs ds → count_by q (flat_map others ds) ≤ count_by p (flat_map parts cs)
    count_parts [] [] all = omega arith
    count_parts [] (d ∷ ds) all = absurd all
    count_parts (c ∷ cs) [] all = absurd all
    count_parts (c ∷ cs) (d ∷ ds) all =
        let here = count_zip (parts c) (others d) all.0 in
        let rest = count_parts cs ds all.1 in
        let a = sum_by-append (λ (z : B). one (q z)) (others d) (flat_map others ds) in
        let b = sum_by-append (λ (z : A). one (p z)) (parts c) (flat_map parts cs) in omega (arith, here, rest, a, b)

both_zip : {A B : Type 0} (P Q : A → B → Type 0) (xs : List A) (ys : List B) → AllZip P xs ys → AllZip Q xs ys → AllZip (λ x y. P x y × Q x y) xs ys
both_zip P Q [] [] a b = a
both_zip P Q [] (y ∷ ys) a b = absurd a
both_zip P Q (x ∷ xs) [] a b = absurd a
both_zip P Q (x ∷ xs) (y ∷ ys) a b = ((a.0, b.0), both_zip P Q xs ys a.1 b.1)

-- ---- different conditions

no_conditions_in : (effects : List Change) → All (λ (change : Change). change.cond ≡ True) effects → count_by is_conditional effects ≡ 0
no_conditions_in [] always = refl
no_conditions_in (change ∷ effects) always =
    let e : one (is_conditional change) ≡ 0 = ap (λ form. one (not (is_value true form))) (All-head (λ (c : Change). c.cond ≡ True) change effects always) in
    let a = sum_by-cons (λ (c : Change). one (is_conditional c)) change effects in
    let rest = no_conditions_in effects (All-tail (λ (c : Change). c.cond ≡ True) change effects always) in omega (arith, e, a, rest)

-- ---- what a step touches

or_later : (a b : Bool) → b ≡ true → (a || b) ≡ true
or_later true b h = refl
or_later false b h = h

or_rest : (a b : Bool) → a ≡ false → (a || b) ≡ true → b ≡ true
or_rest a b e h = sym (ap (λ c. c || b) e) ∙ h

any_map : {A B : Type 0} (test : B → Bool) (item : A → B) (xs : List A) → list_any test (map item xs) ≡ true → list_any (λ x. test (item x)) xs ≡ true
any_map test item [] h = h
any_map test item (x ∷ xs) h = by (test (item x)) (list_any (λ y. test (item y)) xs) (list_any test (map item xs)) (any_map test item xs) h where
  by : (here there others : Bool) → (others ≡ true → there ≡ true) → (here || others) ≡ true → (here || there) ≡ true
  by true there others later h = refl
  by false there others later h = later h

-- a fact of both lists: some fact of the first one is in the second
common : (own those : List Fact) (fact : Fact) → has_fact own fact ≡ true → has_fact those fact ≡ true → list_any (λ f. has_fact those f) own ≡ true
common [] those fact h g = h
common (first ∷ own) those fact h g = by (same_fact first fact) refl (common own those fact) where
  by : (b : Bool) → same_fact first fact ≡ b → (has_fact own fact ≡ true → has_fact those fact ≡ true → list_any (λ f. has_fact those f) own ≡ true) → (has_fact those first || list_any (λ f. has_fact those f) own) ≡ true
  by true e later = ap (λ b. b || list_any (λ f. has_fact those f) own) (ap (has_fact those) ((same_fact-Decides first fact).0 e) ∙ g)
  by false e later = or_later (has_fact those first) _ (later (or_rest (same_fact first fact) (has_fact own fact) e h) g)

both_have : (own those : List Fact) (atom : Option Fact) → option_map_or (λ fact. has_fact own fact) atom false ≡ true → option_map_or (λ fact. has_fact those fact) atom false ≡ true → list_any (λ f. has_fact those f) own ≡ true
both_have own those None h g = absurd (true≢false (sym h))
both_have own those (Some fact) h g = common own those fact h g

-- an atom that stands in a constraint is one of those that all of its atoms are
read_is : (allowed : ℕ → Bool) (gm : GroundModal) → modal_has allowed gm ≡ true → (atom : ℕ) → is_read gm atom ≡ true → allowed atom ≡ true
read_is allowed gm has atom read = by (allowed atom) refl where
  by : (b : Bool) → allowed atom ≡ b → b ≡ true
  by true e = refl
  by false e = absurd (true≢false (sym read ∙ ap not (all_have_more_of allowed (is_other atom) differs (formulas_of gm) has)))
    where
      differs : (other : ℕ) → allowed other ≡ true → is_other atom other ≡ true
      differs other may = one_way (other == atom) refl
        where
          one_way : (b : Bool) → (other == atom) ≡ b → not b ≡ true
          one_way true same = let equal : other ≡ atom = grind (arith, nat_tests) in absurd (true≢false (sym may ∙ ap allowed equal ∙ e))
          one_way false same = refl

-- an operator that is busy at the changes of a step is one that the step can touch
module _ (T : Task) (atoms : List Fact) (step : Step) (changes : List Change) (few : HasFewChanges T atoms step changes) where
  abbrev own : List Fact
  own = map (λ (literal : Literal). literal.fact) (step_literals T step)

  -- a change whose atom stands in the operator
  touched_by : (operator : HardModal) (gm : GroundModal) → HasOwnAtoms T atoms operator gm → (list : List Change)
      → list_all (λ (change : Change). is_atom_of atoms own change.atom) list ≡ true → list_any (λ (change : Change). is_read gm change.atom) list ≡ true
      → list_any (λ f. has_fact (operator_atoms T operator) f) own ≡ true
  touched_by operator gm has [] all some = absurd (true≢false (sym some))
  touched_by operator gm has (change ∷ list) all some =
      let parts = and_parts (is_atom_of atoms own change.atom) _ all in by parts.0 (is_read gm change.atom) refl (touched_by operator gm has list parts.1)
    where
      by : is_atom_of atoms own change.atom ≡ true → (b : Bool) → is_read gm change.atom ≡ b
          → (list_any (λ (c : Change). is_read gm c.atom) list ≡ true → list_any (λ f. has_fact (operator_atoms T operator) f) own ≡ true) → list_any (λ f. has_fact (operator_atoms T operator) f) own ≡ true
      by here true read later = both_have own (operator_atoms T operator) (slice_get atoms change.atom) here (read_is (is_atom_of atoms (operator_atoms T operator)) gm has change.atom read)
      by here false read later = later (or_rest (is_read gm change.atom) (list_any (λ (c : Change). is_read gm c.atom) list) read some)

  touched : (operator : HardModal) (gm : GroundModal) → HasOwnAtoms T atoms operator gm → touches gm changes ≡ true → has_literal_of T step operator ≡ true
  touched operator gm has busy = any_map (λ f. has_fact (operator_atoms T operator) f) (λ (literal : Literal). literal.fact) (step_literals T step) (touched_by operator gm has changes few.own busy)

  looks : (env : Environment) (modal : Modal) (gm : GroundModal) → ModalStands T atoms env modal gm → is_busy changes gm ≡ true → (is_at_end modal ≡ false) × (touches gm changes ≡ true)
  looks env modal gm same busy = by (is_at_end gm) (pairs_at_end (FormStands T atoms env) modal gm same) busy
    where
      by : (b : Bool) → is_at_end modal ≡ b → (if b then false else touches gm changes) ≡ true → (is_at_end modal ≡ false) × (touches gm changes ≡ true)
      by true ends none = absurd (true≢false (sym none))
      by false ends some = (ends, some)

  abbrev IsBoth : HardModal → GroundModal → Type 0
  IsBoth operator gm = HasOwnAtoms T atoms operator gm × HardStands T atoms operator gm

  can_be_touched : (operator : HardModal) (gm : GroundModal) → IsBoth operator gm → is_busy changes gm ≡ true → can_touch T step operator ≡ true
  can_be_touched operator gm is busy =
      let l = looks operator.env operator.modal gm is.1 busy in ap (λ b. if b then false else has_literal_of T step operator) l.0 ∙ touched operator gm is.0 l.1

  module _ (G : GroundTask) (hard : AllZip IsBoth (hard_list T) G.hard) (soft : AllZip (λ (instance : Instance) (soft : GroundSoft). AllZip IsBoth (operators T instance.env instance.body) soft.parts) (instances T) G.soft) where
    -- no more operators are busy at the changes than the step can touch
    few_busy : busy_modals changes (G.hard ++ flat_map (λ (s : GroundSoft). s.parts) G.soft) ≤ count_by (can_touch T step) (all_operators T)
    few_busy =
        let a = count_zip IsBoth (can_touch T step) (is_busy changes) can_be_touched (hard_list T) G.hard hard in
        let b = count_parts IsBoth (can_touch T step) (is_busy changes) can_be_touched (λ (instance : Instance). operators T instance.env instance.body) (λ (s : GroundSoft). s.parts) (instances T) G.soft soft in
        let l = sum_by-append (λ gm. one (is_busy changes gm)) G.hard (flat_map (λ (s : GroundSoft). s.parts) G.soft) in
        let r = sum_by-append (λ operator. one (can_touch T step operator)) (hard_list T) (flat_map (λ (instance : Instance). operators T instance.env instance.body) (instances T)) in omega (arith, a, b, l, r)

-- ---- the law

both_parts : (T : Task) (atoms : List Fact) (instances : List Instance) (softs : List GroundSoft) → AllZip (PartsHaveOwnAtoms T atoms) instances softs → AllZip (SoftStands T atoms) instances softs
    → AllZip (λ (instance : Instance) (soft : GroundSoft). AllZip (λ operator gm. HasOwnAtoms T atoms operator gm × HardStands T atoms operator gm) (operators T instance.env instance.body) soft.parts) instances softs
both_parts T atoms [] [] a b = a
both_parts T atoms [] (soft ∷ softs) a b = absurd a
both_parts T atoms (instance ∷ instances) [] a b = absurd a
both_parts T atoms (instance ∷ instances) (soft ∷ softs) a b =
    (both_zip (HasOwnAtoms T atoms) (HardStands T atoms) (operators T instance.env instance.body) soft.parts a.0 b.0.parts, both_parts T atoms instances softs a.1 b.1)

more_than : (action : TargetAction) → is_too_wide action ≡ true → most_conditions < length (conditions action.effects)
more_than action wide = grind (arith, nat_tests, wide)

pub wide_actions_are_of_wide_steps : (T : Task) (G : GroundTask) (w : Weights) (X : Target) → IsGroundingOf T G → IsLean G w X → (action : TargetAction) → Contains X.actions action → is_too_wide action ≡ true → IsOfWideStep T action.name
unfolding conds
wide_actions_are_of_wide_steps T G w X grounding lean action member too_wide =
    let wide = more_than action too_wide in
    let f = conditions_few action.effects in
    let atoms = grounding.atoms in
    let S = grounding.stands in
    let sparse = grounding.sparse in
    elim (lean.each action member) [
      | inr always ↦ let n = no_conditions_in action.effects always in absurd (omega (arith, f, n, wide))
      | inl of ↦
          let at = All-contains (AtItsStep T (λ step made. HasFewChanges T atoms step made.effects)) G.steps of.step sparse.changes of.own in
          let busy = few_busy T atoms at.step of.step.effects at.says G (both_zip (HasOwnAtoms T atoms) (HardStands T atoms) (hard_list T) G.hard sparse.constraints.hard S.hard) (both_parts T atoms (instances T) G.soft sparse.constraints.soft S.soft) in
          let c = of.is.few.conditional in
          let s = at.says.conditional in
          record { number = of.step.number; named = of.is.named; step = at.step; has = at.number; wide = omega (arith, f, c, s, busy, wide) }
    ]
