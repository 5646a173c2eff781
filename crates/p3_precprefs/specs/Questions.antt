-- The chain of a wide step: an action that begins, two answers to a question for each of its weighted preferences, and an action that ends. Its own atoms are the running atom, the question atoms from the first one on, and the current atom.
use Rattle.std.specs.Prelude.{◌≡◌, ◌⊎◌, ℕ, ◌+◌, ◌<◌, ◌≤◌, ◌==◌, nat_le, Bool, true, false, not, ◌&&◌, ◌||◌, List, [], ◌∷◌, ◌++◌, length, sum_by, Contains, IsTrue}
use Rattle.std.specs.List.{All, list_all}
use Rattle.p3_base.specs.Copies.{answer_name, copy_prefix, end_name}
use Rattle.p3_base.specs.Words.{Name}
use Rattle.p3_formula.specs.Conditions.{width_limit}
use Rattle.p3_formula.specs.Forms.{State, is_set, truth, has_atoms}
use Rattle.p3_formula.specs.Guards.{turned, is_changed}
use Rattle.p3_formula.specs.Next.{after}
use Rattle.p3_formula.specs.Targets.{has_change_atoms, has_action_atoms}
use Rattle.p3_formula.specs.Tidy.{is_tidy}
use Rattle.p3_formula.specs.Weighted.{weight_of, weighted, weighted_cost, width_of}
use Rattle.p3_formula.specs.declared.form.Change.{Change}
use Rattle.p3_formula.specs.declared.form.Form.{Form}
use Rattle.p3_formula.specs.declared.form.Form.TheVariants as form
use Rattle.p3_formula.specs.declared.modal.GroundPref.{GroundPref}
use Rattle.p3_formula.specs.declared.target.TargetAction.{TargetAction}
use Rattle.p3_formula.specs.declared.target.Weights.{Weights}
use Rattle.p3_formula.specs.declared.task.GroundStep.{GroundStep}
use Rattle.p3_precprefs.specs.Copies.{HasPartsIn, violation}

-- ---- the actions

-- the truth of a form, or else of its negation
abbrev pub signed : Bool → Bool → Bool
signed true value = value
signed false value = not value

abbrev pub signed_form : Bool → Form → Form
signed_form true body = body
signed_form false body = form.Not body

-- an action of that name that fits where those atoms are set and a form holds, or else where it does not. Its precondition is tidy, and has no other atoms
pub record IsLink (name : Name) (guards : List ℕ) (source : Form) (holds : Bool) (effects : List Change) (cost : ℕ) (action : TargetAction) : Type 0 where
  pub has_name : action.name ≡ name
  pub fits : (state : State) → truth state action.pre ≡ (list_all (is_set state) guards && signed holds (truth state source))
  pub tidy : IsTrue (is_tidy action.pre)
  pub reads : (allowed : ℕ → Bool) → list_all allowed guards ≡ true → has_atoms allowed source ≡ true → has_atoms allowed action.pre ≡ true
  pub does : action.effects ≡ effects
  pub costs : action.cost ≡ cost

-- the step begins: the running atom gives way to the first question
abbrev pub IsBegin : ℕ → ℕ → ℕ → GroundStep → TargetAction → Type 0
IsBegin go first current step action = IsLink (copy_prefix step.number) (go ∷ []) step.pre true (turned (go ∷ []) (first ∷ current ∷ [])) 0 action

-- the answer that a preference holds, or that it does not: the next question is asked
abbrev pub IsAnswer : ℕ → ℕ → ℕ → ℕ → Bool → Form → ℕ → TargetAction → Type 0
IsAnswer first current number place holds body cost action =
    IsLink (answer_name holds number place) ((first + place) ∷ current ∷ []) body holds (turned ((first + place) ∷ []) ((first + (place + 1)) ∷ [])) cost action

-- behind the last answer the effects are made: the running atom is set again
abbrev pub IsEnd : ℕ → ℕ → ℕ → ℕ → List Change → ℕ → TargetAction → Type 0
IsEnd go last current number effects cost action = IsLink (end_name number) (last ∷ current ∷ []) form.True true (effects ++ turned (last ∷ current ∷ []) (go ∷ [])) cost action

-- both answers to each question, in order, the questions counted from a place on: that a preference does not hold costs its weight
abbrev pub AreAnswers : ℕ → ℕ → ℕ → List ℕ → ℕ → List GroundPref → List TargetAction → Type 0
AreAnswers first current number by_name place [] [] = Unit {0}
AreAnswers first current number by_name place (pref ∷ prefs) (agree ∷ deny ∷ actions) =
    IsAnswer first current number place true pref.body 0 agree × IsAnswer first current number place false pref.body (weight_of by_name pref) deny
    × AreAnswers first current number by_name (place + 1) prefs actions
AreAnswers first current number by_name place [] (action ∷ actions) = ⊥
AreAnswers first current number by_name place (pref ∷ prefs) [] = ⊥
AreAnswers first current number by_name place (pref ∷ prefs) (action ∷ []) = ⊥

-- the answers to the questions of those preferences stand behind the other actions
pub record IsAsked (first current number : ℕ) (by_name : List ℕ) (prefs : List GroundPref) (old new : List TargetAction) : Type 0 where
  pub answers : List TargetAction
  pub are : new ≡ old ++ answers
  pub asks : AreAnswers first current number by_name 0 prefs answers

-- both answers to one question stand behind the other actions
pub record HasBothAnswers (first current number place : ℕ) (body : Form) (weight : ℕ) (old new : List TargetAction) : Type 0 where
  pub agree : TargetAction
  pub deny : TargetAction
  pub are : new ≡ old ++ agree ∷ deny ∷ []
  pub agrees : IsAnswer first current number place true body 0 agree
  pub denies : IsAnswer first current number place false body weight deny

-- the chain of a step with those effects
pub record IsChain (go first current : ℕ) (weights : Weights) (step : GroundStep) (effects : List Change) (actions : List TargetAction) : Type 0 where
  pub begin : TargetAction
  pub answers : List TargetAction
  pub ending : TargetAction
  pub are : actions ≡ begin ∷ (answers ++ ending ∷ [])
  pub begins : IsBegin go first current step begin
  pub asks : AreAnswers first current step.number weights.by_name 0 (weighted weights.by_name step.prefs) answers
  pub ends : IsEnd go (first + width_of weights.by_name step) current step.number effects (weighted_cost weights step) ending

-- ---- the bits

-- of the chain's own atoms only the running atom is set
pub record IsOpen (go first current : ℕ) (bits : State) : Type 0 where
  pub room : current < length bits
  pub running : is_set bits go ≡ true
  pub idle : is_set bits current ≡ false
  pub quiet : (place : ℕ) → place ≤ width_limit → is_set bits (first + place) ≡ false

-- of the chain's own atoms only the current atom and that question are set
pub record IsAsking (go first current question : ℕ) (bits : State) : Type 0 where
  pub room : current < length bits
  pub within : question ≤ width_limit
  pub stopped : is_set bits go ≡ false
  pub asked : is_set bits current ≡ true
  pub asks : (place : ℕ) → place ≤ width_limit → is_set bits (first + place) ≡ (place == question)

abbrev pub IsProper : ℕ → ℕ → ℕ → State → Type 0
IsProper go first current bits = IsOpen go first current bits ⊎ ((question : ℕ) × IsAsking go first current question bits)

-- ---- what the actions do

-- the actions fit one after another, and the running atom is set again behind the last of them and no earlier
pub data Returns (go : ℕ) (actions : List TargetAction) : State → List TargetAction → State → Type 0 where
  Last : (bits : State) (action : TargetAction) → Contains actions action → truth bits action.pre ≡ true → is_set (after bits action.effects) go ≡ true
      → Returns go actions bits (action ∷ []) (after bits action.effects)
  More : (bits : State) (action : TargetAction) (plan : List TargetAction) (later : State) → Contains actions action → truth bits action.pre ≡ true → is_set (after bits action.effects) go ≡ false
      → Returns go actions (after bits action.effects) plan later → Returns go actions bits (action ∷ plan) later

-- exactly one list of the actions sets the running atom again. It leads to the state after the effects, which is open too, at the step's cost and the weights of what is violated
pub record HasOneWay (go first current : ℕ) (weights : Weights) (step : GroundStep) (effects : List Change) (actions : List TargetAction) (bits : State) : Type 0 where
  pub way : List TargetAction
  pub returns : Returns go actions bits way (after bits effects)
  pub opens : IsOpen go first current (after bits effects)
  pub count : length way ≡ width_of weights.by_name step + 2
  pub costs : sum_by (λ (action : TargetAction). action.cost) way ≡ weighted_cost weights step + sum_by (violation bits weights.by_name) (weighted weights.by_name step.prefs)
  pub only : (other : List TargetAction) (later : State) → Returns go actions bits other later → other ≡ way

-- the first action fits only where the running atom is set, and the others only where the current atom is
pub record IsGuarded (go current : ℕ) (actions : List TargetAction) : Type 0 where
  pub begin : TargetAction
  pub others : List TargetAction
  pub are : actions ≡ begin ∷ others
  pub needs_go : (state : State) → truth state begin.pre ≡ true → is_set state go ≡ true
  pub need_current : (state : State) (action : TargetAction) → Contains others action → truth state action.pre ≡ true → is_set state current ≡ true

-- ---- atoms

-- the running atom, the current atom, and the question atoms
abbrev pub is_own : ℕ → ℕ → ℕ → ℕ → Bool
is_own go first current atom = (go == atom) || ((current == atom) || (nat_le first atom && nat_le atom (first + width_limit)))

-- the action changes only the chain's own atoms and those that the effects change
abbrev pub changes_own : ℕ → ℕ → ℕ → List Change → TargetAction → Bool
changes_own go first current effects action = list_all (λ (change : Change). is_own go first current change.atom || is_changed effects change.atom) action.effects

-- the atoms of the step's precondition and preferences, of the effects, and the chain's own atoms are some of those
pub record AreAllowed (allowed : ℕ → Bool) (go first current : ℕ) (step : GroundStep) (effects : List Change) : Type 0 where
  pub parts : HasPartsIn allowed step
  pub changes : list_all (has_change_atoms allowed) effects ≡ true
  pub own : (atom : ℕ) → is_own go first current atom ≡ true → allowed atom ≡ true

-- ---- what the clauses say

-- from open bits where the step fits, exactly one list of the actions sets the running atom again
abbrev pub LeadsOneWay : ℕ → ℕ → ℕ → Weights → GroundStep → List Change → List TargetAction → Type 0
LeadsOneWay go first current weights step effects actions = (bits : State) → IsOpen go first current bits → truth bits step.pre ≡ true → HasOneWay go first current weights step effects actions bits

-- from open bits where the step does not fit, no action does
abbrev pub LeadsNoWay : ℕ → ℕ → ℕ → GroundStep → List TargetAction → Type 0
LeadsNoWay go first current step actions = (bits : State) → IsOpen go first current bits → truth bits step.pre ≡ false → All (λ (action : TargetAction). truth bits action.pre ≡ false) actions

-- in proper bits one action at most fits
abbrev pub OneFits : ℕ → ℕ → ℕ → List TargetAction → Type 0
OneFits go first current actions = (bits : State) → IsProper go first current bits → (one other : TargetAction) → Contains actions one → Contains actions other
    → truth bits one.pre ≡ true → truth bits other.pre ≡ true → one ≡ other

-- and after it they are proper again
abbrev pub StaysProper : ℕ → ℕ → ℕ → List TargetAction → Type 0
StaysProper go first current actions = (bits : State) → IsProper go first current bits → (action : TargetAction) → Contains actions action → truth bits action.pre ≡ true → IsProper go first current (after bits action.effects)

-- the actions change no atoms but the chain's own and those that the effects change
abbrev pub AllChangeOwn : ℕ → ℕ → ℕ → List Change → List TargetAction → Type 0
AllChangeOwn go first current effects actions = All (λ (action : TargetAction). IsTrue (changes_own go first current effects action)) actions

-- the actions have no atoms but those that are given
abbrev pub AllAreAllowed : ℕ → ℕ → ℕ → GroundStep → List Change → List TargetAction → Type 0
AllAreAllowed go first current step effects actions = (allowed : ℕ → Bool) → AreAllowed allowed go first current step effects → All (λ (action : TargetAction). IsTrue (has_action_atoms allowed action)) actions
