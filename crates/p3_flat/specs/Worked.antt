-- Worked actions: their conditions, the names of their copies, and the first of some that has too many conditions.
use Rattle.std.specs.Prelude.{◌≡◌, ℕ, ◌+◌, Bool, true, false, List, [], ◌∷◌, codes, map, Some, None}
use Rattle.std.specs.List.{range_with_len}
use Rattle.p3_formula.specs.declared.form.Change.{Change}
use Rattle.p3_formula.specs.declared.form.Form.{Form}
use Rattle.p3_formula.specs.declared.form.Form.TheVariants.{True, False, Atom, Not, And, Or}
use Rattle.p3_formula.specs.declared.target.Target.{Target}
use Rattle.p3_formula.specs.declared.target.TargetAction.{TargetAction}
use Rattle.p3_flat.specs.Conditions.{conditions}
use Rattle.p3_flat.specs.Copies.{copy_named}
use Rattle.p3_flat.specs.Flattened.{first_too_wide}

abbrev pub change : Form → ℕ → Bool → Change
change cond atom add = record { cond = cond; atom = atom; add = add }

-- (and (when (x) (not (p))) (when (y) (p))), where p, x and y are the first three atoms
abbrev pub both_changes : List Change
both_changes = change (Atom 1) 0 false ∷ change (Atom 2) 0 true ∷ []

-- conditions that stand twice, in parts, and beside a change that happens always
abbrev pub repeated : List Change
repeated = change True 4 true ∷ change (And (Atom 1 ∷ Atom 2 ∷ [])) 0 true ∷ change (Or (Atom 1 ∷ Atom 2 ∷ [])) 1 true ∷ change (And (Atom 1 ∷ Atom 2 ∷ [])) 2 false ∷ change (Not (Atom 1)) 3 true ∷ change (Atom 1) 3 false ∷ change False 3 true ∷ []

-- an action with so many conditions, and a target of such actions
abbrev pub with_conditions : ℕ → TargetAction
with_conditions count = record { name = codes "s0v"; pre = True; effects = map (λ atom. change (Atom atom) (count + atom) true) (range_with_len 0 count); cost = 0 }

abbrev pub target_of : List ℕ → Target
target_of counts = record { predicates = []; initial = []; actions = map with_conditions counts; goal = True }

pub record WorkedActions : Type 0 where
  pub both : conditions both_changes ≡ Atom 1 ∷ Atom 2 ∷ []
  pub both_name : copy_named (codes "s0v") (true ∷ true ∷ []) ≡ codes "s0vc11"
  pub one_name : copy_named (codes "q9end") (false ∷ []) ≡ codes "q9endc0"
  pub own_name : copy_named (codes "s1v") [] ≡ codes "s1v"
  pub repeated : conditions repeated ≡ And (Atom 1 ∷ Atom 2 ∷ []) ∷ Or (Atom 1 ∷ Atom 2 ∷ []) ∷ Not (Atom 1) ∷ Atom 1 ∷ False ∷ []
  pub twelve : first_too_wide (target_of (2 ∷ 12 ∷ [])) ≡ None
  pub thirteen : first_too_wide (target_of (2 ∷ 13 ∷ 14 ∷ [])) ≡ Some 1
