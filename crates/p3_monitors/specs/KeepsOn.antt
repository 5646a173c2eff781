-- Changes of a monitor's atoms that keep it on over one state more, and the atoms and the size of what is made.
use Rattle.std.specs.Prelude.{◌≡◌, ℕ, ◌+◌, ◌*◌, Bool, true, false, not, List, [], ◌∷◌, ◌++◌, sum_by, IsTrue}
use Rattle.std.specs.List.{list_all}
use Rattle.p3_formula.specs.Forms.{State, is_set, has_atoms, nodes}
use Rattle.p3_formula.specs.Kept.{Kept, is_own}
use Rattle.p3_formula.specs.Modals.{Agree, is_read, modal_has, modal_nodes}
use Rattle.p3_base.specs.Operators.{formulas_of}
use Rattle.p3_formula.specs.Next.{after}
use Rattle.p3_formula.specs.declared.form.Change.{Change}
use Rattle.p3_formula.specs.declared.form.Form.{Form}
use Rattle.p3_formula.specs.GroundModal.{GroundModal}
use Rattle.p3_regress.specs.Regressed.{growth}

-- no change is of one of those atoms
abbrev pub HasNone : (ℕ → Bool) → List Change → Type 0
HasNone atoms effects = IsTrue (list_all (λ change. not (atoms change.atom)) effects)

-- each change is of an atom of the monitor
abbrev pub AreOwn : ℕ → GroundModal → List Change → Type 0
AreOwn base modal effects = IsTrue (list_all (λ change. is_own base modal change.atom) effects)

-- changes that are no matter of this monitor, as those of other monitors
pub record AreOthers (base : ℕ) (modal : GroundModal) (others : List Change) : Type 0 where
  pub own : HasNone (is_own base modal) others
  pub read : HasNone (is_read modal) others

-- with the changes, those of the step and any others, the monitor is kept over one state more
abbrev pub KeepsOn : ℕ → GroundModal → List Change → List Change → Type 0
KeepsOn base modal step effects =
    (W : List State) (state next : State) (others : List Change) → Kept base modal W state → AreOthers base modal others
    → Agree modal (after state (step ++ (effects ++ others))) next → Kept base modal (W ++ next ∷ []) (after state (step ++ (effects ++ others)))

-- the states visited and the state reached by a list of steps, each with changes that keep the monitor on
pub data Rides (base : ℕ) (modal : GroundModal) : List State → State → Type 0 where
  Begins : (first state : State) → Kept base modal (first ∷ []) state → Rides base modal (first ∷ []) state
  GoesOn : (W : List State) (state next : State) (step effects others : List Change) → Rides base modal W state → KeepsOn base modal step effects → AreOthers base modal others
      → Agree modal (after state (step ++ (effects ++ others))) next → Rides base modal (W ++ next ∷ []) (after state (step ++ (effects ++ others)))

-- atoms that are not the monitor's are as without its changes
abbrev pub LeavesOthers : ℕ → GroundModal → List Change → List Change → Type 0
LeavesOthers base modal step effects = (state : State) (atom : ℕ) → is_own base modal atom ≡ false → is_set (after state (step ++ effects)) atom ≡ is_set (after state step) atom

-- ---- the atoms and the size of what is made

-- an accept form has no atoms but the monitor's own and those of the constraint
abbrev pub HasAccept : ℕ → GroundModal → Form → Type 0
HasAccept base modal form = (allowed : ℕ → Bool) → IsTrue (modal_has allowed modal) → ((atom : ℕ) → is_own base modal atom ≡ true → allowed atom ≡ true) → IsTrue (has_atoms allowed form)

-- conditions have no atoms but those and the ones of the step's conditions
abbrev pub HasConditions : ℕ → GroundModal → List Change → List Change → Type 0
HasConditions base modal step effects =
    (allowed : ℕ → Bool) → IsTrue (modal_has allowed modal) → ((atom : ℕ) → is_own base modal atom ≡ true → allowed atom ≡ true)
    → IsTrue (list_all (λ change. has_atoms allowed change.cond) step) → IsTrue (list_all (λ change. has_atoms allowed change.cond) effects)

-- what the changes of a step may add to the nodes of a constraint's forms
abbrev pub modal_growth : List Change → GroundModal → ℕ
modal_growth step modal = sum_by (growth step) (formulas_of modal)

-- the conditions of a monitor's changes have no more nodes
abbrev pub most_nodes : List Change → GroundModal → ℕ
most_nodes step modal = 4 + 3 * (modal_nodes modal + modal_growth step modal)

-- how many nodes the conditions have
abbrev pub condition_nodes : List Change → ℕ
condition_nodes effects = sum_by (λ change. nodes change.cond) effects
