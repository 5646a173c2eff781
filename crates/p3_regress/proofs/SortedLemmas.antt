-- Changes by rising atom.
use Rattle.std.proofs.Common.{◌≡◌, ◌∙◌, ℕ, ◌+◌, ◌-◌, ◌≤◌, ◌<◌, ◌==◌, nat_lt, nat_le, Bool, true, false, if◌then◌else◌, List, [], ◌∷◌, ◌++◌, length, take, drop, All, refl, sym, ap, arith}
use Rattle.std.specs.List.{list_any}
use Rattle.std.specs.List.Sorted.{IsPartitionPoint}
use Rattle.std.proofs.Math.Bool.{and-true}
use Rattle.std.proofs.lemmas.Bool.Decides.{nat_tests}
use Rattle.std.proofs.lemmas.List.{get_or-take, get_or-drop, length-take-le, length-drop, take-append-drop, take_all, map-append}
use Rattle.std.proofs.lemmas.List.Folds.{list_any_none}
use denote.Ref.{Bor}
use Rattle.p3_formula.specs.declared.form.Change.{Change}
use Rattle.p3_formula.specs.declared.form.Form.{Form}
use Rattle.p3_formula.proofs.FormLemmas.{list_any-map}
use Rattle.p3_regress.specs.Regressed.{is_changed, is_of, conditions, changed, atom_after}
use Rattle.p3_regress.specs.Sorted.{lent}
use Rattle.p3_regress.proofs.ConditionLemmas.{any_conditions, no_conditions}

conditions-append : (add : Bool) (atom : ℕ) (kept : List Form) (front back : List Change) → conditions add atom kept (front ++ back) ≡ conditions add atom (conditions add atom kept front) back
conditions-append add atom kept [] back = refl
conditions-append add atom kept (change ∷ front) back = conditions-append add atom (if is_of add atom change then (kept ++ change.cond ∷ []) else kept) front back

lower : (a b : ℕ) → nat_lt a b ≡ true → (a == b) ≡ false
lower a b h = grind (arith, nat_tests)

higher : (a b : ℕ) → nat_le a b ≡ false → (a == b) ≡ false
higher a b h = grind (arith, nat_tests)

module _ (atom : ℕ) where
  others : (changes : List (Bor Change)) → All (λ change. (change.now.atom == atom) ≡ false) changes → is_changed (lent changes) atom ≡ false
  others changes all = list_any-map (λ change. change.atom == atom) (λ change. change.now) changes ∙ list_any_none (λ change. change.now.atom == atom) changes all

  module _ (changes : List (Bor Change)) (place : ℕ) where
    parted : lent (take place changes) ++ lent (drop place changes) ≡ lent changes
    parted = sym (map-append (λ change. change.now) (take place changes) (drop place changes)) ∙ ap lent (take-append-drop place changes)

    conditions_drop : (add : Bool) → is_changed (lent (take place changes)) atom ≡ false → conditions add atom [] (lent (drop place changes)) ≡ conditions add atom [] (lent changes)
    conditions_drop add none =
        sym (ap (λ kept. conditions add atom kept (lent (drop place changes))) (no_conditions add atom [] (lent (take place changes)) none))
        ∙ sym (conditions-append add atom [] (lent (take place changes)) (lent (drop place changes)))
        ∙ ap (conditions add atom []) parted

    conditions_take : (add : Bool) → is_changed (lent (drop place changes)) atom ≡ false → conditions add atom [] (lent (take place changes)) ≡ conditions add atom [] (lent changes)
    conditions_take add none =
        sym (no_conditions add atom (conditions add atom [] (lent (take place changes))) (lent (drop place changes)) none)
        ∙ sym (conditions-append add atom [] (lent (take place changes)) (lent (drop place changes)))
        ∙ ap (conditions add atom []) parted

    -- what comes before the atom does not matter
    after_drop : (add : Bool) → place ≤ length changes → IsPartitionPoint (λ change. nat_lt change.now.atom atom ≡ true) (λ change. nat_lt change.now.atom atom ≡ false) changes place
        → conditions add atom [] (lent (drop place changes)) ≡ conditions add atom [] (lent changes)
    after_drop add bound point = conditions_drop add none where
      none : is_changed (lent (take place changes)) atom ≡ false
      none = others (take place changes)
          (λ k d h.
          let l = length-take-le place changes bound in
          let within : k < place = omega arith in
          ap (λ change. change.now.atom == atom) (get_or-take place changes k d within) ∙ lower _ atom (point.0 k d (omega arith) within))

    -- nor does what comes after it
    after_take : (add : Bool) → IsPartitionPoint (λ change. nat_le change.now.atom atom ≡ true) (λ change. nat_le change.now.atom atom ≡ false) changes place
        → conditions add atom [] (lent (take place changes)) ≡ conditions add atom [] (lent changes)
    after_take add point = conditions_take add none where
      none : is_changed (lent (drop place changes)) atom ≡ false
      none = others (drop place changes)
          (λ k d h.
          let l = length-drop place changes in
          ap (λ change. change.now.atom == atom) (get_or-drop place changes k d) ∙ higher _ atom (point.1 (place + k) d (omega arith) (omega arith)))

  -- there is a condition exactly where some change is of the atom
  some_condition : (add : Bool) (changes : List Change) → list_any (λ cond. true) (conditions add atom [] changes) ≡ list_any (is_of add atom) changes
  some_condition add changes = any_conditions (λ cond. true) add atom [] changes ∙ (λ i. list_any (λ change. and-true (is_of add atom change) i) changes)

  -- the changes of the atom lie between the two places
  module _ (changes : List (Bor Change)) (start count : ℕ) (bound : start ≤ length changes)
      (first : IsPartitionPoint (λ change. nat_lt change.now.atom atom ≡ true) (λ change. nat_lt change.now.atom atom ≡ false) changes start)
      (second : IsPartitionPoint (λ change. nat_le change.now.atom atom ≡ true) (λ change. nat_le change.now.atom atom ≡ false) (take (length changes - start) (drop start changes)) count) where
    abbrev between : List (Bor Change)
    between = take count (take (length changes - start) (drop start changes))

    found_conditions : (add : Bool) → conditions add atom [] (lent between) ≡ conditions add atom [] (lent changes)
    found_conditions add =
        after_take (take (length changes - start) (drop start changes)) count add second
        ∙ ap (λ rest. conditions add atom [] (lent rest)) (take_all (length changes - start) (drop start changes) (let l = length-drop start changes in omega arith))
        ∙ after_drop changes start add bound first

    pub found : atom_after (lent between) atom ≡ atom_after (lent changes) atom
    found = λ i. changed atom (found_conditions true i) (found_conditions false i)

    pub found_named : (add : Bool) → list_any (is_of add atom) (lent between) ≡ list_any (is_of add atom) (lent changes)
    found_named add = sym (some_condition add (lent between)) ∙ ap (list_any (λ cond. true)) (found_conditions add) ∙ some_condition add (lent changes)
