-- The end phase (Keyder and Geffner): just one of its own atoms is set, and each of its actions moves it on by one place. The first of them is the running atom, and the others are the chain.
use Rattle.std.specs.Prelude.{◌≡◌, ◌≢◌, ℕ, ◌+◌, ◌≤◌, ◌<◌, Bool, true, false, not, ◌&&◌, List, [], ◌∷◌, ◌++◌, length, sum_by, codes, if◌then◌else◌, Contains, IsTrue}
use Rattle.std.specs.List.{All}
use Rattle.std.specs.Fmt.{decimal}
use Rattle.p3_formula.specs.Forms.{State, is_set, truth, has_atoms, IsBelow}
use Rattle.p3_formula.specs.Guards.{turned}
use Rattle.p3_formula.specs.Next.{after}
use Rattle.p3_formula.specs.Targets.{has_action_atoms}
use Rattle.p3_formula.specs.Tidy.{is_tidy}
use Rattle.p3_formula.specs.declared.form.Change.{Change}
use Rattle.p3_formula.specs.declared.form.Form.{Form}
use Rattle.p3_formula.specs.declared.form.Form.TheVariants as form
use Rattle.p3_formula.specs.declared.target.TargetAction.{TargetAction}
use Rattle.p3_endphase.specs.declared.phase.EndPhase.{EndPhase}
use Rattle.p3_endphase.specs.declared.phase.SoftEnd.{SoftEnd}

-- the atoms of all that is to be accepted are below the count
abbrev pub AreBelow : ℕ → List SoftEnd → Type 0
AreBelow count [] = Unit {0}
AreBelow count (instance ∷ instances) = IsBelow count instance.accept × AreBelow count instances

-- ---- the actions

-- the atom that is set goes to the next place
abbrev pub moving : ℕ → List Change
moving atom = turned (atom ∷ []) ((atom + 1) ∷ [])

-- the second form reads the atom and those of the first form, and no others
abbrev pub ReadsWith : ℕ → Form → Form → Type 0
ReadsWith atom source form = (allowed : ℕ → Bool) → allowed atom ≡ true → IsTrue (has_atoms allowed source) → IsTrue (has_atoms allowed form)

-- an action of that name and cost that fits where the atom is set and a condition holds. Its precondition is tidy, and reads no atoms but that one and those of a form
pub record IsMove (atom : ℕ) (source : Form) (condition : State → Bool) (name : List ℕ) (cost : ℕ) (action : TargetAction) : Type 0 where
  pub is_named : action.name ≡ name
  pub fits : (state : State) → truth state action.pre ≡ (is_set state atom && condition state)
  pub tidy : IsTrue (is_tidy action.pre)
  pub reads : ReadsWith atom source action.pre
  pub moves : action.effects ≡ moving atom
  pub costs : action.cost ≡ cost

abbrev pub collect_name : ℕ → List ℕ
collect_name number = codes "collect" ++ decimal number

abbrev pub forgo_name : ℕ → List ℕ
forgo_name number = codes "forgo" ++ decimal number

-- satisfied, an instance costs nothing; else its weight
pub record IsSettled (first number : ℕ) (instance : SoftEnd) (collect forgo : TargetAction) : Type 0 where
  pub collects : IsMove (first + (number + 1)) instance.accept (λ state. truth state instance.accept) (collect_name number) 0 collect
  pub forgoes : IsMove (first + (number + 1)) instance.accept (λ state. not (truth state instance.accept)) (forgo_name number) instance.weight forgo

-- two actions for each instance, in order, the instances counted from a number on
abbrev pub Settles : ℕ → ℕ → List SoftEnd → List TargetAction → Type 0
Settles first number [] [] = Unit {0}
Settles first number (instance ∷ instances) (collect ∷ forgo ∷ actions) = IsSettled first number instance collect forgo × Settles first (number + 1) instances actions
Settles first number [] (action ∷ actions) = ⊥
Settles first number (instance ∷ instances) [] = ⊥
Settles first number (instance ∷ instances) (action ∷ []) = ⊥

-- `finish` comes first
abbrev pub AreActions : ℕ → Form → List SoftEnd → List TargetAction → Type 0
AreActions first finish instances [] = ⊥
AreActions first finish instances (action ∷ actions) = IsMove (first + 0) finish (λ state. truth state finish) (codes "finish") 0 action × Settles first 0 instances actions

-- the actions that settle the instances stand behind the others
pub record HasSettling (first : ℕ) (instances : List SoftEnd) (old new : List TargetAction) : Type 0 where
  pub settling : List TargetAction
  pub settles : Settles first 0 instances settling
  pub are : new ≡ old ++ settling

pub record IsEndPhase (finish : Form) (instances : List SoftEnd) (first : ℕ) (phase : EndPhase) : Type 0 where
  pub count : phase.atoms ≡ length instances + 2
  pub settles : AreActions first finish instances phase.actions
  pub reached : phase.goal ≡ form.Atom (first + (1 + length instances))

-- ---- what they do

-- just the atom at that place is set, of as many from the first one on
pub record IsSingleAt (first count place : ℕ) (state : State) : Type 0 where
  pub room : first + count ≤ length state
  pub within : place < count
  pub here : is_set state (first + place) ≡ true
  pub others : (other : ℕ) → other < count → other ≢ place → is_set state (first + other) ≡ false

-- a list of the actions that fit one after another and lead to the goal
abbrev pub Ends : EndPhase → State → List TargetAction → Type 0
Ends phase state [] = truth state phase.goal ≡ true
Ends phase state (action ∷ plan) = Contains phase.actions action × (truth state action.pre ≡ true) × Ends phase (after state action.effects) plan

abbrev pub weight_in : State → SoftEnd → ℕ
weight_in state instance = if truth state instance.accept then 0 else instance.weight

-- the weights of the instances that are not satisfied
abbrev pub violation : State → List SoftEnd → ℕ
violation state instances = sum_by (weight_in state) instances

-- exactly one list ends, with one action and one more for each instance
pub record HasOneEnd (phase : EndPhase) (instances : List SoftEnd) (state : State) : Type 0 where
  pub plan : List TargetAction
  pub ends : Ends phase state plan
  pub steps : length plan ≡ 1 + length instances
  pub cost : sum_by (λ (action : TargetAction). action.cost) plan ≡ violation state instances
  pub only : (other : List TargetAction) → Ends phase state other → other ≡ plan

-- ---- where they may fit, what they change, and what they read

-- the first action fits only where the running atom is set, and the others only where an atom of the chain is
pub record IsGuarded (first count : ℕ) (actions : List TargetAction) : Type 0 where
  pub begin : TargetAction
  pub others : List TargetAction
  pub are : actions ≡ begin ∷ others
  pub needs_running : (state : State) → truth state begin.pre ≡ true → is_set state first ≡ true
  pub need_chain : (state : State) (action : TargetAction) → Contains others action → truth state action.pre ≡ true → (place : ℕ) × (0 < place) × (place < count) × (is_set state (first + place) ≡ true)

-- the change is of the phase's own atoms, whatever holds, and does not set the running atom
pub record MovesForward (first count : ℕ) (change : Change) : Type 0 where
  pub low : first ≤ change.atom
  pub high : change.atom < first + count
  pub always : change.cond ≡ form.True
  pub forward : change.add ≡ true → first < change.atom

-- the atoms of all that is to be accepted, and the phase's own, are some of those
pub record AreAllowed (allowed : ℕ → Bool) (finish : Form) (instances : List SoftEnd) (first count : ℕ) : Type 0 where
  pub may_finish : has_atoms allowed finish ≡ true
  pub may_accept : All (λ (instance : SoftEnd). has_atoms allowed instance.accept ≡ true) instances
  pub own : (place : ℕ) → place < count → allowed (first + place) ≡ true

-- ---- what the clauses say

-- from a running state where the plan may end, exactly one list of the actions ends
abbrev pub EndsOneWay : ℕ → Form → List SoftEnd → EndPhase → Type 0
EndsOneWay first finish instances phase = (state : State) → IsSingleAt first phase.atoms 0 state → truth state finish ≡ true → HasOneEnd phase instances state

-- from another running state none does
abbrev pub EndsNoWay : ℕ → Form → EndPhase → Type 0
EndsNoWay first finish phase = (state : State) → IsSingleAt first phase.atoms 0 state → truth state finish ≡ false → (plan : List TargetAction) → Ends phase state plan → ⊥

-- where just one of the phase's own atoms is set, one action at most fits
abbrev pub OneFits : ℕ → EndPhase → Type 0
OneFits first phase = (state : State) (place : ℕ) → IsSingleAt first phase.atoms place state → (one other : TargetAction) → Contains phase.actions one → Contains phase.actions other
    → truth state one.pre ≡ true → truth state other.pre ≡ true → one ≡ other

-- and after it just the next one is set
abbrev pub MovesOn : ℕ → EndPhase → Type 0
MovesOn first phase = (state : State) (place : ℕ) → IsSingleAt first phase.atoms place state → (action : TargetAction) → Contains phase.actions action → truth state action.pre ≡ true
    → IsSingleAt first phase.atoms (place + 1) (after state action.effects)

-- each change moves forward
abbrev pub AllMoveForward : ℕ → EndPhase → Type 0
AllMoveForward first phase = All (λ (action : TargetAction). All (MovesForward first phase.atoms) action.effects) phase.actions

-- the actions have no atoms but those that are given
abbrev pub AllAreAllowed : Form → List SoftEnd → ℕ → EndPhase → Type 0
AllAreAllowed finish instances first phase = (allowed : ℕ → Bool) → AreAllowed allowed finish instances first phase.atoms → All (λ (action : TargetAction). IsTrue (has_action_atoms allowed action)) phase.actions
