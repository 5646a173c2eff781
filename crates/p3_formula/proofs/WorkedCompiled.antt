-- The worked target is compiled from the worked task.
use Rattle.std.proofs.Common.{◌≡◌, ◌∙◌, ℕ, zero, suc, ◌+◌, ◌-◌, ◌==◌, ◌≤◌, Bool, true, false, not, ◌&&◌, cond, List, [], ◌∷◌, length, Option, Some, None, refl, sym, ap, subst, arith}
use Rattle.std.specs.Prelude.{codes, bytes_eq, slice_index_or, sum_by, zip}
use Rattle.std.specs.List.{list_all}
use Rattle.std.proofs.lemmas.Bool.{and_parts, and_from, true≢false}
use Rattle.std.proofs.lemmas.Bool.Decides.{nat_tests}
use Rattle.std.proofs.lemmas.Slice.Eq.{bytes_eq-Decides}
use Rattle.p3_base.specs.Words.{Name}
use Rattle.p3_formula.specs.Forms.{State, truth}
use Rattle.p3_formula.specs.Next.{after}
use Rattle.p3_formula.specs.GroundPlans.{GroundPlan, GroundValid, fits_by, visited_from, last_of, ground_fits, state_by, step_of, is_ground_valid, false_prefs, ground_cost, ground_violated, ground_loss}
use Rattle.p3_formula.specs.Targets.{TargetPlan, TargetValid, action_of as named_action, fits_by as action_fits, state_by as action_state, reaches_goal, target_cost, ground_lift, IsSoundFor, HasOneOrigin, Compiled}
use Rattle.p3_formula.specs.GroundSat.{ground_sat}
use Rattle.p3_formula.specs.Weighted.{ground_extra}
use Rattle.p3_formula.specs.Constructors.{sets}
use Rattle.p3_formula.specs.declared.form.Form.TheVariants.{True, Atom}
use Rattle.p3_formula.specs.declared.task.GroundStep.{GroundStep}
use Rattle.p3_formula.specs.declared.target.TargetAction.{TargetAction}
use Rattle.p3_formula.proofs.Worked.{task, weights, target, computes, target_named, target_sized}
use Rattle.p3_formula.proofs.WorkedLed.{Kind, Step, Finish, Collect, Forgo, Stage, Running, Settling, Settled, action_of, fits, state_at, next, next_bit, holds, moves, target_led}

-- ---- plans of the target: steps, and then the end that the source atom asks for

abbrev settle : Bool → Name
settle true = codes "collect0"
settle false = codes "forgo0"

abbrev run : ℕ → Bool → TargetPlan
run zero bit = codes "finish" ∷ settle bit ∷ []
run (suc steps) bit = codes "s0v" ∷ run steps true

-- whether the source atom is set behind the steps
abbrev end_bit : ℕ → Bool → Bool
end_bit zero bit = bit
end_bit (suc steps) bit = end_bit steps true

abbrev cost_of : Bool → ℕ
cost_of true = 0
cost_of false = 5

abbrev zeros : ℕ → GroundPlan
zeros zero = []
zeros (suc steps) = 0 ∷ zeros steps

-- an action has the name, or none has
data Lookup (name : Name) : Type 0 where
  Is : (kind : Kind) → named_action target name ≡ Some (action_of kind) → name ≡ (action_of kind).name → Lookup name
  Missing : named_action target name ≡ None → Lookup name

abbrev picked : Bool → Bool → Bool → Bool → Option TargetAction
picked s f c g = cond s (Some (action_of Step)) (cond f (Some (action_of Finish)) (cond c (Some (action_of Collect)) (cond g (Some (action_of Forgo)) None)))

found : (name : Name) → Lookup name
found name =
    by (bytes_eq (action_of Step).name name) (bytes_eq (action_of Finish).name name) (bytes_eq (action_of Collect).name name) (bytes_eq (action_of Forgo).name name) refl refl refl refl
  where
    by : (s f c g : Bool) → bytes_eq (action_of Step).name name ≡ s → bytes_eq (action_of Finish).name name ≡ f → bytes_eq (action_of Collect).name name ≡ c → bytes_eq (action_of Forgo).name name ≡ g → Lookup name
    by true f c g es ef ec eg = Is Step (λ i. picked (es i) (ef i) (ec i) (eg i)) (sym ((bytes_eq-Decides (action_of Step).name name).0 es))
    by false true c g es ef ec eg = Is Finish (λ i. picked (es i) (ef i) (ec i) (eg i)) (sym ((bytes_eq-Decides (action_of Finish).name name).0 ef))
    by false false true g es ef ec eg = Is Collect (λ i. picked (es i) (ef i) (ec i) (eg i)) (sym ((bytes_eq-Decides (action_of Collect).name name).0 ec))
    by false false false true es ef ec eg = Is Forgo (λ i. picked (es i) (ef i) (ec i) (eg i)) (sym ((bytes_eq-Decides (action_of Forgo).name name).0 eg))
    by false false false false es ef ec eg = Missing (λ i. picked (es i) (ef i) (ec i) (eg i))

-- what a plan from a stage does with its first name
record Goes (kind : Kind) (stage : Stage) (bit : Bool) (plan : TargetPlan) : Type 0 where
  fit : fits kind stage bit ≡ true
  rest : reaches_goal target (state_at (next kind) (next_bit kind bit)) plan ≡ true

module _ (stage : Stage) (bit : Bool) (name : Name) (plan : TargetPlan) (reaches : reaches_goal target (state_at stage bit) (name ∷ plan) ≡ true) where
  with_action : (found : Option TargetAction) → named_action target name ≡ found → (action_fits (state_at stage bit) found && reaches_goal target (action_state (state_at stage bit) found) plan) ≡ true
  unfolding reaches_goal
  with_action found is = sym (ap (λ found. action_fits (state_at stage bit) found && reaches_goal target (action_state (state_at stage bit) found) plan) is) ∙ reaches

  goes : (kind : Kind) → named_action target name ≡ Some (action_of kind) → Goes kind stage bit plan
  goes kind is =
      let both = and_parts (truth (state_at stage bit) (action_of kind).pre) (reaches_goal target (after (state_at stage bit) (action_of kind).effects) plan) (with_action (Some (action_of kind)) is) in
      let fit : fits kind stage bit ≡ true = sym (holds kind stage bit) ∙ both.0 in
      record { fit = fit; rest = sym (ap (λ state. reaches_goal target state plan) (moves kind stage bit fit)) ∙ both.1 }

  missing : named_action target name ≡ None → false ≡ true
  missing is = with_action None is

-- at the goal nothing fits
settled : (bit : Bool) (plan : TargetPlan) → reaches_goal target (state_at Settled bit) plan ≡ true → plan ≡ []
settled bit [] reaches = refl
settled bit (name ∷ plan) reaches = by (found name)
  where
    idle : (kind : Kind) → fits kind Settled bit ≡ true → false ≡ true
    idle Step fit = fit
    idle Finish fit = fit
    idle Collect fit = fit
    idle Forgo fit = fit

    by : Lookup name → name ∷ plan ≡ []
    by (Is kind is same) = absurd (true≢false (sym (idle kind (goes Settled bit name plan reaches kind is).fit)))
    by (Missing is) = absurd (true≢false (sym (missing Settled bit name plan reaches is)))

-- one action settles the preference
settling : (bit : Bool) (plan : TargetPlan) → reaches_goal target (state_at Settling bit) plan ≡ true → plan ≡ settle bit ∷ []
unfolding computes
settling bit [] reaches = absurd (true≢false (sym reaches))
settling bit (name ∷ plan) reaches = by (found name)
  where
    ends : (kind : Kind) (b : Bool) → fits kind Settling b ≡ true → (action_of kind).name ≡ settle b
    ends Step b fit = absurd (true≢false (sym fit))
    ends Finish b fit = absurd (true≢false (sym fit))
    ends Collect true fit = refl
    ends Collect false fit = absurd (true≢false (sym fit))
    ends Forgo true fit = absurd (true≢false (sym fit))
    ends Forgo false fit = refl

    last : (kind : Kind) (b : Bool) → fits kind Settling b ≡ true → next kind ≡ Settled
    last Step b fit = absurd (true≢false (sym fit))
    last Finish b fit = absurd (true≢false (sym fit))
    last Collect b fit = refl
    last Forgo b fit = refl

    by : Lookup name → name ∷ plan ≡ settle bit ∷ []
    by (Is kind is same) =
        let on = goes Settling bit name plan reaches kind is in
        let none = settled (next_bit kind bit) plan (subst (λ stage. reaches_goal target (state_at stage (next_bit kind bit)) plan ≡ true) (last kind bit on.fit) on.rest) in
        λ i. (same ∙ ends kind bit on.fit) i ∷ none i
    by (Missing is) = absurd (true≢false (sym (missing Settling bit name plan reaches is)))

-- a plan that reaches the goal is some steps and the end
record Run (bit : Bool) (plan : TargetPlan) : Type 0 where
  steps : ℕ
  is : plan ≡ run steps bit

running : (plan : TargetPlan) (bit : Bool) → reaches_goal target (state_at Running bit) plan ≡ true → Run bit plan
unfolding computes
running [] bit reaches = absurd (true≢false (sym reaches))
running (name ∷ plan) bit reaches = by (found name) (running plan true)
  where
    by : Lookup name → (reaches_goal target (state_at Running true) plan ≡ true → Run true plan) → Run bit (name ∷ plan)
    by (Is Step is same) later = let rest = later (goes Running bit name plan reaches Step is).rest in record { steps = suc rest.steps; is = λ i. same i ∷ rest.is i }
    by (Is Finish is same) later = let rest = settling bit plan (goes Running bit name plan reaches Finish is).rest in record { steps = 0; is = λ i. same i ∷ rest i }
    by (Is Collect is same) later = absurd (true≢false (sym (goes Running bit name plan reaches Collect is).fit))
    by (Is Forgo is same) later = absurd (true≢false (sym (goes Running bit name plan reaches Forgo is).fit))
    by (Missing is) later = absurd (true≢false (sym (missing Running bit name plan reaches is)))

-- ---- such plans reach the goal; what they lift to and cost

reaches_end : (steps : ℕ) (bit : Bool) → reaches_goal target (state_at Running bit) (run steps bit) ≡ true
unfolding computes
reaches_end zero true = refl
reaches_end zero false = refl
reaches_end (suc steps) bit = reaches_end steps true

lifts_to : (steps : ℕ) (bit : Bool) → ground_lift task (run steps bit) ≡ zeros steps
unfolding computes
lifts_to zero true = refl
lifts_to zero false = refl
lifts_to (suc steps) bit = ap (λ plan. 0 ∷ plan) (lifts_to steps true)

costs : (steps : ℕ) (bit : Bool) → target_cost target (run steps bit) ≡ cost_of (end_bit steps bit)
unfolding computes
costs zero true = refl
costs zero false = refl
costs (suc steps) bit = costs steps true

long : (steps : ℕ) (bit : Bool) → length (run steps bit) ≡ steps + 2
long zero bit = refl
long (suc steps) bit = let rest = long steps true in omega (arith, rest)

length-zeros : (steps : ℕ) → length (zeros steps) ≡ steps
length-zeros zero = refl
length-zeros (suc steps) = let rest = length-zeros steps in omega (arith, rest)

-- ---- ground plans: the one step again and again

abbrev only_step : GroundStep
only_step = record { number = 0; pre = True; prefs = []; effects = sets 0 ∷ []; cost = Some 0 }

abbrev bits_at : Bool → State
bits_at bit = bit ∷ []

abbrev all_fit : State → GroundPlan → Bool
all_fit state plan = list_all (λ (move : State × ℕ). ground_fits task move.0 move.1) (zip (visited_from task state plan) plan)

zeros_fit : (steps : ℕ) (state : State) → all_fit state (zeros steps) ≡ true
unfolding computes
zeros_fit zero state = refl
zeros_fit (suc steps) state = zeros_fit steps (state_by state (step_of task 0))

only_zeros : (plan : GroundPlan) (state : State) → all_fit state plan ≡ true → (steps : ℕ) × (plan ≡ zeros steps)
unfolding computes
only_zeros [] state all = (0, refl)
only_zeros (number ∷ plan) state all = by (0 == number) refl (only_zeros plan (state_by state (step_of task number)))
  where
    both : (ground_fits task state number ≡ true) × (all_fit (state_by state (step_of task number)) plan ≡ true)
    both = and_parts (ground_fits task state number) _ all

    by : (b : Bool) → (0 == number) ≡ b → (all_fit (state_by state (step_of task number)) plan ≡ true → (steps : ℕ) × (plan ≡ zeros steps)) → (steps : ℕ) × (number ∷ plan ≡ zeros steps)
    by true e later = let rest = later both.1 in let same : number ≡ 0 = grind (arith, nat_tests, e) in (suc rest.0, λ i. same i ∷ rest.1 i)
    by false e later = absurd (true≢false (sym both.0 ∙ (λ i. fits_by state (cond (e i) (Some only_step) None))))

-- ---- their loss

-- the last state is behind the first
last_behind : (state : State) (W : List State) → 1 ≤ length W → last_of (state ∷ W) ≡ last_of W
last_behind state W some = ap (λ place. slice_index_or (state ∷ W) place []) (let place : length (state ∷ W) - 1 ≡ suc (length W - 1) = omega (arith, some) in place)

visits_some : (steps : ℕ) (state : State) → 1 ≤ length (visited_from task state (zeros steps))
unfolding visited_from
visits_some zero state = omega arith
visits_some (suc steps) state = omega arith

last_bit : (steps : ℕ) (bit : Bool) → truth (last_of (visited_from task (bits_at bit) (zeros steps))) (Atom 0) ≡ end_bit steps bit
unfolding computes
last_bit zero bit = refl
last_bit (suc steps) bit =
    ap (λ state. truth state (Atom 0)) (last_behind (bits_at bit) (visited_from task (bits_at true) (zeros steps)) (visits_some steps (bits_at true))) ∙ last_bit steps true

-- no step has preferences, and none costs
no_prefs : (steps : ℕ) (state : State) → sum_by (λ (move : State × ℕ). false_prefs move.0 0 (step_of task move.1)) (zip (visited_from task state (zeros steps)) (zeros steps)) ≡ 0
unfolding computes
no_prefs zero state = refl
no_prefs (suc steps) state = no_prefs steps (state_by state (step_of task 0))

no_cost : (steps : ℕ) → ground_cost task (zeros steps) ≡ 0
unfolding computes
no_cost zero = refl
no_cost (suc steps) = no_cost steps

no_extra : (steps : ℕ) → ground_extra task weights (zeros steps) ≡ 0
unfolding ground_extra
no_extra zero = refl
no_extra (suc steps) = no_extra steps

abbrev violations : Bool → ℕ
violations bit = cond (not (bit && true)) 1 0

violated : (steps : ℕ) → ground_violated task (zeros steps) 0 ≡ violations (end_bit steps false)
unfolding ground_violated ground_sat
violated steps =
    let none = no_prefs steps (bits_at false) in
    let first = ap violations (last_bit steps false) in
    omega (arith, none, first)

loss : (steps : ℕ) → ground_loss task weights (zeros steps) ≡ cost_of (end_bit steps false)
unfolding ground_loss
loss steps = by (end_bit steps false) (violated steps) (no_cost steps)
  where
    by : (bit : Bool) → ground_violated task (zeros steps) 0 ≡ violations bit → ground_cost task (zeros steps) ≡ 0 → ground_loss task weights (zeros steps) ≡ cost_of bit
    by true is none = omega (arith, is, none)
    by false is none = omega (arith, is, none)

valid_zeros : (steps : ℕ) → GroundValid task (zeros steps)
unfolding is_ground_valid truth
valid_zeros steps = and_from _ true (and_from (all_fit (bits_at false) (zeros steps)) true (zeros_fit steps (bits_at false)) refl) refl

only_valid : (plan : GroundPlan) → GroundValid task plan → (steps : ℕ) × (plan ≡ zeros steps)
unfolding is_ground_valid truth
only_valid plan valid = only_zeros plan (bits_at false) (and_parts (all_fit (bits_at false) plan) true (and_parts (all_fit (bits_at false) plan && true) true valid).0).0

-- ---- compiled

module _ (plan : TargetPlan) (valid : TargetValid target plan) where
  as_run : Run false plan
  as_run = running plan false valid

  lift_is : ground_lift task plan ≡ zeros as_run.steps
  lift_is = ap (ground_lift task) as_run.is ∙ lifts_to as_run.steps false

  sound : IsSoundFor task weights target plan
  sound = record {
    valid = subst (GroundValid task) (sym lift_is) (valid_zeros as_run.steps);
    cost = ap (target_cost target) as_run.is ∙ costs as_run.steps false ∙ sym (loss as_run.steps) ∙ ap (ground_loss task weights) (sym lift_is);
  }

  long_enough : length plan ≡ length (ground_lift task plan) + 1 + 1 + ground_extra task weights (ground_lift task plan)
  long_enough =
      let own = ap length as_run.is ∙ long as_run.steps false in
      let lifted = ap length lift_is ∙ length-zeros as_run.steps in
      let extra = ap (ground_extra task weights) lift_is ∙ no_extra as_run.steps in
      omega (arith, own, lifted, extra)

one_origin : (plan : GroundPlan) → GroundValid task plan → HasOneOrigin task target plan
one_origin plan valid = record {
  origin = run steps false;
  valid = reaches_end steps false;
  lifts = lifts_to steps false ∙ sym is;
  only = λ other reaches lifts.
      let found_run = as_run other reaches in
      let lengths = ap length (sym (lift_is other reaches) ∙ lifts ∙ is) in
      let mine = length-zeros found_run.steps in
      let yours = length-zeros steps in
      let same : found_run.steps ≡ steps = omega (arith, lengths, mine, yours) in
      found_run.is ∙ ap (λ n. run n false) same;
} where
  steps : ℕ
  steps = (only_valid plan valid).0

  is : plan ≡ zeros steps
  is = (only_valid plan valid).1

pub target_compiled : Compiled task weights target
target_compiled = record {
  sound = sound;
  one_to_one = one_origin;
  length = long_enough;
  named = target_named;
  sized = target_sized;
  led = target_led;
}
