-- The worked target is led.
use Rattle.std.proofs.Common.{◌≡◌, ◌∙◌, ℕ, zero, suc, Bool, true, false, not, ◌&&◌, [], ◌∷◌, Option, Some, None, refl, sym, ap, arith}
use Rattle.std.specs.Prelude.{Contains}
use Rattle.p3_formula.specs.Forms.{State, truth}
use Rattle.p3_formula.specs.Next.{after}
use Rattle.p3_formula.specs.Targets.{Leads, Here, Further, Fits, IsLed, lifted_number}
use Rattle.p3_formula.specs.declared.target.TargetAction.{TargetAction}
use Rattle.p3_formula.proofs.Worked.{task, target, step, finish, collect, forgo, computes}

-- ---- its actions and its states

pub data Kind : Type 0 where
  Step : Kind
  Finish : Kind
  Collect : Kind
  Forgo : Kind

abbrev pub action_of : Kind → TargetAction
action_of Step = step
action_of Finish = finish
action_of Collect = collect
action_of Forgo = forgo

abbrev pub number_of : Kind → Option ℕ
number_of Step = Some 0
number_of _ = None

-- a plan runs, then settles the preference, and then is at the goal
pub data Stage : Type 0 where
  Running : Stage
  Settling : Stage
  Settled : Stage

-- the state at a stage, where the source atom is set or not
abbrev pub state_at : Stage → Bool → State
state_at Running b = b ∷ true ∷ false ∷ false ∷ []
state_at Settling b = b ∷ false ∷ true ∷ false ∷ []
state_at Settled b = b ∷ false ∷ false ∷ true ∷ []

abbrev pub fits : Kind → Stage → Bool → Bool
fits Step Running b = true
fits Finish Running b = true
fits Collect Settling b = b && true
fits Forgo Settling b = not b && true
fits _ _ b = false

abbrev pub next : Kind → Stage
next Step = Running
next Finish = Settling
next Collect = Settled
next Forgo = Settled

abbrev pub next_bit : Kind → Bool → Bool
next_bit Step b = true
next_bit _ b = b

-- ---- the tables are right

kind_of : (action : TargetAction) → Contains target.actions action → (kind : Kind) × (action_of kind ≡ action)
kind_of action (zero, within, is) = (Step, is)
kind_of action (suc zero, within, is) = (Finish, is)
kind_of action (suc (suc zero), within, is) = (Collect, is)
kind_of action (suc (suc (suc zero)), within, is) = (Forgo, is)
kind_of action (suc (suc (suc (suc k))), within, is) = absurd (omega (arith, within))

pub lifts : (kind : Kind) → lifted_number task (action_of kind).name ≡ number_of kind
unfolding computes
lifts Step = refl
lifts Finish = refl
lifts Collect = refl
lifts Forgo = refl

pub holds : (kind : Kind) (stage : Stage) (b : Bool) → truth (state_at stage b) (action_of kind).pre ≡ fits kind stage b
unfolding computes
holds Step Running b = refl
holds Step Settling b = refl
holds Step Settled b = refl
holds Finish Running b = refl
holds Finish Settling b = refl
holds Finish Settled b = refl
holds Collect Running b = refl
holds Collect Settling b = refl
holds Collect Settled b = refl
holds Forgo Running b = refl
holds Forgo Settling b = refl
holds Forgo Settled b = refl

pub moves : (kind : Kind) (stage : Stage) (b : Bool) → fits kind stage b ≡ true → after (state_at stage b) (action_of kind).effects ≡ state_at (next kind) (next_bit kind b)
unfolding computes
moves Step Running b is = refl
moves Step Settling b is = absurd (cc)
moves Step Settled b is = absurd (cc)
moves Finish Running true is = refl
moves Finish Running false is = refl
moves Finish Settling b is = absurd (cc)
moves Finish Settled b is = absurd (cc)
moves Collect Running b is = absurd (cc)
moves Collect Settling true is = refl
moves Collect Settling false is = absurd (cc)
moves Collect Settled b is = absurd (cc)
moves Forgo Running b is = absurd (cc)
moves Forgo Settling true is = absurd (cc)
moves Forgo Settling false is = refl
moves Forgo Settled b is = absurd (cc)

-- of the actions that fit at a stage one counts as a step, and one as none
abbrev only : Stage → Bool → Option ℕ → Kind
only Running b (Some number) = Step
only Running b None = Finish
only Settling true counted = Collect
only Settling false counted = Forgo
only Settled b counted = Finish

is_only : (kind : Kind) (stage : Stage) (b : Bool) → fits kind stage b ≡ true → kind ≡ only stage b (number_of kind)
is_only Step Running b is = refl
is_only Step Settling b is = absurd (cc)
is_only Step Settled b is = absurd (cc)
is_only Finish Running b is = refl
is_only Finish Settling b is = absurd (cc)
is_only Finish Settled b is = absurd (cc)
is_only Collect Running b is = absurd (cc)
is_only Collect Settling true is = refl
is_only Collect Settling false is = absurd (cc)
is_only Collect Settled b is = absurd (cc)
is_only Forgo Running b is = absurd (cc)
is_only Forgo Settling true is = absurd (cc)
is_only Forgo Settling false is = refl
is_only Forgo Settled b is = absurd (cc)

abbrev is_closing : Stage → Bool
is_closing Running = false
is_closing _ = true

-- an action that counts as none closes, and behind it none fits that counts as a step
closes : (kind : Kind) → number_of kind ≡ None → is_closing (next kind) ≡ true
closes Step none = absurd (cc)
closes Finish none = refl
closes Collect none = refl
closes Forgo none = refl

closed : (kind : Kind) (stage : Stage) (b : Bool) → is_closing stage ≡ true → fits kind stage b ≡ true → number_of kind ≡ None
closed Step Running b closing is = absurd (cc)
closed Step Settling b closing is = absurd (cc)
closed Step Settled b closing is = absurd (cc)
closed Finish Running b closing is = absurd (cc)
closed Finish Settling b closing is = refl
closed Finish Settled b closing is = refl
closed Collect Running b closing is = absurd (cc)
closed Collect Settling b closing is = refl
closed Collect Settled b closing is = refl
closed Forgo Running b closing is = absurd (cc)
closed Forgo Settling b closing is = refl
closed Forgo Settled b closing is = refl

-- ---- the states that are reached

record At (state : State) : Type 0 where
  stage : Stage
  bit : Bool
  is : state ≡ state_at stage bit

-- an action that fits there, and the state after it
record Move (state : State) (here : At state) (action : TargetAction) : Type 0 where
  kind : Kind
  own : action_of kind ≡ action
  fit : fits kind here.stage here.bit ≡ true

move : (state : State) (here : At state) (action : TargetAction) → Fits target state action → Move state here action
move state here action fit =
    let found = kind_of action fit.own in record {
      kind = found.0;
      own = found.1;
      fit = sym (holds found.0 here.stage here.bit) ∙ (λ i. truth (sym here.is i) (found.1 i).pre) ∙ fit.holds;
    }

abbrev moved : (state : State) (here : At state) (action : TargetAction) → Move state here action → At (after state action.effects)
moved state here action goes = record {
  stage = next goes.kind;
  bit = next_bit goes.kind here.bit;
  is = (λ i. after (here.is i) (sym goes.own i).effects) ∙ moves goes.kind here.stage here.bit goes.fit;
}

reached : (from state : State) → Leads target from state → At from → At state
reached from state Here here = here
reached from state (Further before leads action own is) here = let at = reached from before leads here in moved before at action (move before at action (record { own = own; holds = is }))

begins : At target.initial
begins = record { stage = Running; bit = false; is = refl }

counted : (state : State) (here : At state) (action : TargetAction) (goes : Move state here action) → lifted_number task action.name ≡ number_of goes.kind
counted state here action goes = ap (λ (other : TargetAction). lifted_number task other.name) (sym goes.own) ∙ lifts goes.kind

-- two actions that fit and count alike are one
one_action : (state : State) → Leads target target.initial state → (first second : TargetAction) → Fits target state first → Fits target state second → lifted_number task first.name ≡ lifted_number task second.name → first ≡ second
one_action state leads first second fits_first fits_second same =
    let here = reached target.initial state leads begins in
    let one = move state here first fits_first in
    let other = move state here second fits_second in
    let alike : number_of one.kind ≡ number_of other.kind = sym (counted state here first one) ∙ same ∙ counted state here second other in
    sym one.own ∙ ap action_of (is_only one.kind here.stage here.bit one.fit ∙ ap (only here.stage here.bit) alike ∙ sym (is_only other.kind here.stage here.bit other.fit)) ∙ other.own

record Closing (state : State) : Type 0 where
  at : At state
  closing : is_closing at.stage ≡ true

stays_closing : (from state : State) → Leads target from state → Closing from → Closing state
stays_closing from state Here here = here
stays_closing from state (Further before leads action own is) here =
    let there = stays_closing from before leads here in
    let goes = move before there.at action (record { own = own; holds = is }) in record {
      at = moved before there.at action goes;
      closing = closes goes.kind (closed goes.kind there.at.stage there.at.bit there.closing goes.fit);
    }

pub target_led : IsLed task target
target_led = record {
  one_copy = λ state leads number first second fits_first fits_second is also. one_action state leads first second fits_first fits_second (is ∙ sym also);
  one_other = λ state leads first second fits_first fits_second is also. one_action state leads first second fits_first fits_second (is ∙ sym also);
  apart = λ state later leads number again step other action fits_step fits_other is none further also fits_action.
      let here = reached target.initial state leads begins in
      let goes = move state here other fits_other in
      let behind = stays_closing (after state other.effects) later further (record { at = moved state here other goes; closing = closes goes.kind (sym (counted state here other goes) ∙ none) }) in
      let last = move later behind.at action fits_action in
      let clash : None ≡ Some again = sym (closed last.kind behind.at.stage behind.at.bit behind.closing last.fit) ∙ sym (counted later behind.at action last) ∙ also in
      absurd (cc);
}
