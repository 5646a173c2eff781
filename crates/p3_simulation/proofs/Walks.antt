-- Plans of a target as lists of its actions, in place of their names.
use Rattle.std.proofs.Common.{◌≡◌, ◌∙◌, ◌⊎◌, inl, inr, ℕ, zero, suc, ◌+◌, Bool, true, false, not, ◌&&◌, cond, List, [], ◌∷◌, map, sum_by, refl, sym, ap, subst, arith, true≢false, Option, Some, None}
use Rattle.std.specs.Prelude.{Contains, bytes_eq, find, filter_map}
use Rattle.std.specs.List.{cons_option, list_any}
use Rattle.std.proofs.lemmas.Bool.{and_parts, and_from, eq-eqb, eqb-true, not-true, or_cases, or_left, or_right}
use Rattle.std.proofs.lemmas.List.Sums.{sum_by-cons}
use Rattle.std.proofs.lemmas.Slice.Eq.{bytes_eq-Decides}
use Rattle.p3_base.specs.Words.{Name, has_name, are_different}
use Rattle.p3_formula.specs.Forms.{State, truth}
use Rattle.p3_formula.specs.Next.{after}
use Rattle.p3_formula.specs.GroundPlans.{is_numbered}
use Rattle.p3_formula.specs.Targets.{Fits, TargetPlan, action_of, fits_by, state_by, cost_by, reaches_goal, target_cost, ground_lift, lifted_number}
use Rattle.p3_formula.specs.declared.target.Target.{Target}
use Rattle.p3_formula.specs.declared.target.TargetAction.{TargetAction}
use Rattle.p3_formula.specs.declared.task.GroundTask.{GroundTask}
pub use Rattle.p3_simulation.specs.Parts.{counted}

-- ---- members of lists

pub head_or_tail : {A : Type 0} (x : A) (xs : List A) (a : A) → Contains (x ∷ xs) a → (x ≡ a) ⊎ Contains xs a
head_or_tail x xs a (zero, within, is) = inl is
head_or_tail x xs a (suc k, within, is) = inr (k, omega (arith, within), is)

pub in_none : {A : Type 0} {B : Type 0} (a : A) → Contains [] a → B
in_none a (k, within, is) = absurd (omega (arith, within))

pub is_head : {A : Type 0} (x : A) (xs : List A) → Contains (x ∷ xs) x
is_head x xs = (0, omega arith, refl)

pub is_behind : {A : Type 0} (x : A) (xs : List A) (a : A) → Contains xs a → Contains (x ∷ xs) a
is_behind x xs a (k, within, is) = (suc k, omega (arith, within), is)

-- ---- actions and their names

abbrev pub names : List TargetAction → TargetPlan
names plan = map (λ (action : TargetAction). action.name) plan

-- the actions fit one after another, and lead to the goal
abbrev pub Reaches : Target → State → List TargetAction → Type 0
Reaches X state [] = truth state X.goal ≡ true
Reaches X state (action ∷ plan) = Contains X.actions action × (truth state action.pre ≡ true) × Reaches X (after state action.effects) plan

abbrev pub plan_cost : List TargetAction → ℕ
plan_cost plan = sum_by (λ (action : TargetAction). action.cost) plan

abbrev pub lifted : GroundTask → List TargetAction → List ℕ
lifted G plan = filter_map (counted G) plan

-- an action that counts as that step fits
abbrev pub enters : GroundTask → Target → State → ℕ → Bool
enters G X state number = list_any (λ (action : TargetAction). is_numbered number (counted G action) && truth state action.pre) X.actions

has_its_name : (actions : List TargetAction) (a : TargetAction) → Contains actions a → has_name (names actions) a.name ≡ true
has_its_name [] a member = in_none a member
has_its_name (x ∷ xs) a member = elim (head_or_tail x xs a member) [
  | inl is ↦ or_left (bytes_eq x.name a.name) _ ((bytes_eq-Decides x.name a.name).1 (ap (λ (action : TargetAction). action.name) is))
  | inr later ↦ or_right (bytes_eq x.name a.name) _ (has_its_name xs a later)
]

found : (actions : List TargetAction) → are_different (names actions) ≡ true → (a : TargetAction) → Contains actions a → find (λ (action : TargetAction). bytes_eq action.name a.name) actions ≡ Some a
found [] differ a member = in_none a member
found (x ∷ xs) differ a member = elim (head_or_tail x xs a member) [
  | inl is ↦ ap (λ b. cond b (Some x) (find (λ (action : TargetAction). bytes_eq action.name a.name) xs)) ((bytes_eq-Decides x.name a.name).1 (ap (λ (action : TargetAction). action.name) is)) ∙ ap Some is
  | inr later ↦ by (bytes_eq x.name a.name) refl later (found xs parts.1 a later)
]
  where
    parts : (not (has_name (names xs) x.name) ≡ true) × (are_different (names xs) ≡ true)
    parts = and_parts (not (has_name (names xs) x.name)) _ differ

    by : (b : Bool) → bytes_eq x.name a.name ≡ b → Contains xs a → find (λ (action : TargetAction). bytes_eq action.name a.name) xs ≡ Some a → find (λ (action : TargetAction). bytes_eq action.name a.name) (x ∷ xs) ≡ Some a
    by true e later rest =
        let same : x.name ≡ a.name = (bytes_eq-Decides x.name a.name).0 e in
        absurd (true≢false (sym (has_its_name xs a later) ∙ ap (has_name (names xs)) (sym same) ∙ not-true _ parts.0))
    by false e later rest = ap (λ b. cond b (Some x) (find (λ (action : TargetAction). bytes_eq action.name a.name) xs)) e ∙ rest

-- what is found is a member and has the name
found_is : (name : Name) (actions : List TargetAction) (a : TargetAction) → find (λ (action : TargetAction). bytes_eq action.name name) actions ≡ Some a → Contains actions a × (a.name ≡ name)
found_is name [] a e = absurd (cc)
found_is name (x ∷ xs) a e = by (bytes_eq x.name name) refl (found_is name xs a)
  where
    by : (b : Bool) → bytes_eq x.name name ≡ b → (find (λ (action : TargetAction). bytes_eq action.name name) xs ≡ Some a → Contains xs a × (a.name ≡ name)) → Contains (x ∷ xs) a × (a.name ≡ name)
    by true t more =
        let is : Some x ≡ Some a = ap (λ b. cond b (Some x) (find (λ (action : TargetAction). bytes_eq action.name name) xs)) (sym t) ∙ e in
        let same : x ≡ a = cc in
        (subst (λ (b : TargetAction). Contains (x ∷ xs) b) same (is_head x xs), sym (ap (λ (action : TargetAction). action.name) same) ∙ (bytes_eq-Decides x.name name).0 t)
    by false t more =
        let later = more (ap (λ b. cond b (Some x) (find (λ (action : TargetAction). bytes_eq action.name name) xs)) (sym t) ∙ e) in
        (is_behind x xs a later.0, later.1)

pub record Walked (X : Target) (state : State) (q : TargetPlan) : Type 0 where
  pub plan : List TargetAction
  pub spelled : names plan ≡ q
  pub reaches : Reaches X state plan

module _ (X : Target) (differ : are_different (names X.actions) ≡ true) where
  action_is : (a : TargetAction) → Contains X.actions a → action_of X a.name ≡ Some a
  action_is a member = found X.actions differ a member

  -- a plan of actions, as one of names
  pub spelled_reaches : (plan : List TargetAction) (state : State) → Reaches X state plan → reaches_goal X state (names plan) ≡ true
  unfolding reaches_goal
  spelled_reaches [] state goal = goal
  spelled_reaches (a ∷ plan) state (member, fits, rest) =
      let is = action_is a member in
      (λ i. fits_by state (is i) && reaches_goal X (state_by state (is i)) (names plan))
      ∙ and_from (truth state a.pre) _ fits (spelled_reaches plan (after state a.effects) rest)

  pub spelled_cost : (plan : List TargetAction) (state : State) → Reaches X state plan → target_cost X (names plan) ≡ plan_cost plan
  unfolding target_cost
  spelled_cost [] state goal = refl
  spelled_cost (a ∷ plan) state (member, fits, rest) =
      sum_by-cons (λ name. cost_by (action_of X name)) a.name (names plan)
      ∙ (λ i. cost_by (action_is a member i) + spelled_cost plan (after state a.effects) rest i)
      ∙ sym (sum_by-cons (λ (action : TargetAction). action.cost) a plan)

  pub walked : (q : TargetPlan) (state : State) → reaches_goal X state q ≡ true → Walked X state q
  unfolding reaches_goal
  walked [] state goal = record { plan = []; spelled = refl; reaches = goal }
  walked (name ∷ q) state holds = by (action_of X name) refl (walked q)
    where
      further : (a : TargetAction) → action_of X name ≡ Some a → (truth state a.pre ≡ true) → Walked X (after state a.effects) q → Walked X state (name ∷ q)
      further a e fits rest =
          let is = found_is name X.actions a e in
          record { plan = a ∷ rest.plan; spelled = λ i. is.1 i ∷ rest.spelled i; reaches = (is.0, fits, rest.reaches) }

      by : (o : Option TargetAction) → action_of X name ≡ o → ((later : State) → reaches_goal X later q ≡ true → Walked X later q) → Walked X state (name ∷ q)
      by None e more = absurd (true≢false (sym holds ∙ (λ i. fits_by state (e i) && reaches_goal X (state_by state (e i)) q)))
      by (Some a) e more =
          let parts = and_parts (truth state a.pre) (reaches_goal X (after state a.effects) q) (sym (λ i. fits_by state (e i) && reaches_goal X (state_by state (e i)) q) ∙ holds) in
          further a e parts.0 (more (after state a.effects) parts.1)

-- the plan lifts by its names
pub spelled_lift : (G : GroundTask) (plan : List TargetAction) → ground_lift G (names plan) ≡ lifted G plan
unfolding ground_lift
spelled_lift G [] = refl
spelled_lift G (a ∷ plan) = ap (cons_option (counted G a)) (go plan)
  where
    go : (plan : List TargetAction) → filter_map (lifted_number G) (names plan) ≡ lifted G plan
    go [] = refl
    go (b ∷ rest) = ap (cons_option (counted G b)) (go rest)

-- ---- the action that enters a step

is_counted : (number : ℕ) (name : Option ℕ) → is_numbered number name ≡ true → name ≡ Some number
is_counted number None e = absurd (true≢false (sym e))
is_counted number (Some other) e = ap Some (eqb-true other number e)

module _ (G : GroundTask) (X : Target) (state : State) (number : ℕ) where
  pub record Entry : Type 0 where
    pub action : TargetAction
    pub fits : Fits X state action
    pub counts : counted G action ≡ Some number

  abbrev enters_by : TargetAction → Bool
  enters_by action = is_numbered number (counted G action) && truth state action.pre

  entered_by : (actions : List TargetAction) → list_any enters_by actions ≡ true → (action : TargetAction) × Contains actions action × (enters_by action ≡ true)
  entered_by [] some = absurd (true≢false (sym some))
  entered_by (first ∷ actions) some = elim (or_cases (enters_by first) _ some) [
    | inl here ↦ (first, is_head first actions, here)
    | inr later ↦ let more = entered_by actions later in (more.0, is_behind first actions more.0 more.1, more.2)
  ]

  pub entry : enters G X state number ≡ true → Entry
  entry some =
      let found = entered_by X.actions some in
      let both = and_parts (is_numbered number (counted G found.0)) _ found.2 in
      record { action = found.0; fits = record { own = found.1; holds = both.1 }; counts = is_counted number (counted G found.0) both.0 }

  enters_one : (actions : List TargetAction) (action : TargetAction) → Contains actions action → enters_by action ≡ true → list_any enters_by actions ≡ true
  enters_one [] action own fits = in_none action own
  enters_one (first ∷ actions) action own fits = elim (head_or_tail first actions action own) [
    | inl is ↦ or_left (enters_by first) _ (ap enters_by is ∙ fits)
    | inr later ↦ or_right (enters_by first) _ (enters_one actions action later fits)
  ]

  pub enters_with : (action : TargetAction) → Fits X state action → counted G action ≡ Some number → enters G X state number ≡ true
  enters_with action fits counts = enters_one X.actions action fits.own (and_from (is_numbered number (counted G action)) _ (ap (is_numbered number) counts ∙ eq-eqb number number refl) fits.holds)
