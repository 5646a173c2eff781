-- Laws of the actions of all steps together.
use Rattle.std.proofs.Common.{◌≡◌, ◌∙◌, ◌≢◌, ◌⊎◌, inl, inr, ⊎_elim, ℕ, ◌+◌, ◌<◌, ◌≤◌, Bool, true, false, cond, List, [], ◌∷◌, ◌++◌, refl, sym, ap, subst, arith, Option, Some, None, true≢false}
use Rattle.std.specs.Prelude.{◌==◌, Contains, is_some, find}
use Rattle.std.proofs.lemmas.Bool.{cases_eq, eq-eqb, ne_eqb, eqb-true}
use Rattle.std.proofs.lemmas.List.Elements.{Contains-append_cases, Contains-append_left, Contains-append_right}
use Rattle.p3_base.specs.Limits.{width_limit}
use Rattle.p3_formula.specs.Forms.{State, is_set, truth}
use Rattle.p3_formula.specs.Next.{after}
use Rattle.p3_formula.specs.declared.target.TargetAction.{TargetAction}
use Rattle.p3_formula.specs.declared.target.Weights.{Weights}
use Rattle.p3_formula.specs.declared.task.GroundStep.{GroundStep}
use Rattle.p3_monitors.specs.declared.monitoring.Monitor.{Monitor}
use Rattle.p3_simulation.proofs.Walks.{head_or_tail, in_none, is_head, is_behind}
use Rattle.p3_simulation.specs.Gadgets.{IsOpen, IsAsking, IsStepGadget, Owns, Narrow, Wide, AreGadgets, NoSteps, Costless, OneStep, AreRising}

-- ---- steps by their numbers

pub rising_low : (low : ℕ) (steps : List GroundStep) → AreRising low steps → (step : GroundStep) → Contains steps step → low ≤ step.number
rising_low low [] rising step member = in_none step member
rising_low low (first ∷ steps) (least, rising) step member = elim (head_or_tail first steps step member) [
  | inl is ↦ let e = ap (λ (s : GroundStep). s.number) is in omega (arith, e, least)
  | inr later ↦ let more = rising_low (first.number + 1) steps rising step later in omega (arith, more, least)
]

-- a step is found by its number
pub found_step : (low : ℕ) (steps : List GroundStep) → AreRising low steps → (step : GroundStep) → Contains steps step → find (λ (s : GroundStep). s.number == step.number) steps ≡ Some step
found_step low [] rising step member = in_none step member
found_step low (first ∷ steps) (least, rising) step member = elim (head_or_tail first steps step member) [
  | inl is ↦ ap (λ b. cond b (Some first) (find (λ (s : GroundStep). s.number == step.number) steps)) (eq-eqb first.number step.number (ap (λ (s : GroundStep). s.number) is)) ∙ ap Some is
  | inr later ↦
      let more = rising_low (first.number + 1) steps rising step later in
      ap (λ b. cond b (Some first) (find (λ (s : GroundStep). s.number == step.number) steps)) (ne_eqb first.number step.number (λ same. omega (arith, same, more))) ∙ found_step (first.number + 1) steps rising step later
]

pub step_found : (number : ℕ) (steps : List GroundStep) (step : GroundStep) → find (λ (s : GroundStep). s.number == number) steps ≡ Some step → Contains steps step × (step.number ≡ number)
step_found number [] step e = absurd (cc)
step_found number (first ∷ steps) step e = by (first.number == number) refl (step_found number steps step)
  where
    by : (b : Bool) → (first.number == number) ≡ b → (find (λ (s : GroundStep). s.number == number) steps ≡ Some step → Contains steps step × (step.number ≡ number)) → Contains (first ∷ steps) step × (step.number ≡ number)
    by true t more =
        let is : Some first ≡ Some step = ap (λ b. cond b (Some first) (find (λ (s : GroundStep). s.number == number) steps)) (sym t) ∙ e in
        let same : first ≡ step = cc in
        (subst (λ (s : GroundStep). Contains (first ∷ steps) s) same (is_head first steps), sym (ap (λ (s : GroundStep). s.number) same) ∙ eqb-true first.number number t)
    by false t more =
        let later = more (ap (λ b. cond b (Some first) (find (λ (s : GroundStep). s.number == number) steps)) (sym t) ∙ e) in
        (is_behind first steps step later.0, later.1)

module _ (go first size : ℕ) (behind_go : go < first) (counted : TargetAction → Option ℕ) (weights : Weights) (sources : ℕ) (hard monitors : List Monitor) where
  abbrev pub Gadgets : ℕ → ℕ → List GroundStep → List TargetAction → Type 0
  Gadgets = AreGadgets go first size counted weights sources hard monitors

  -- the step whose action it is, of all actions
  pub record Owner (from : ℕ) (steps : List GroundStep) (all : List TargetAction) (action : TargetAction) : Type 0 where
    pub step : GroundStep
    pub has_step : Contains steps step
    pub costs : is_some step.cost ≡ true
    pub current : ℕ
    pub located : (current ≡ go) ⊎ (from ≤ current)
    pub actions : List TargetAction
    pub made : IsStepGadget go first size counted weights sources hard monitors step current actions
    pub own : Contains actions action
    pub inside : (other : TargetAction) → Contains actions other → Contains all other

  later_owner : (from next : ℕ) (first_step : GroundStep) (steps : List GroundStep) (own rest : List TargetAction) (action : TargetAction) → from ≤ next → Owner next steps rest action → Owner from (first_step ∷ steps) (own ++ rest) action
  later_owner from next first_step steps own rest action before owner = record {
    step = owner.step;
    has_step = is_behind first_step steps owner.step owner.has_step;
    costs = owner.costs;
    current = owner.current;
    located = ⊎_elim (λ is. inl is) (λ low. inr (omega (arith, low, before))) owner.located;
    actions = owner.actions;
    made = owner.made;
    own = owner.own;
    inside = λ other member. Contains-append_right own rest other (owner.inside other member);
  }

  goes_up : (from current next : ℕ) → Owns go first size from current next → from ≤ next
  goes_up from current next Narrow = omega arith
  goes_up from current next Wide = omega arith

  located_by : (from current next : ℕ) → Owns go first size from current next → (current ≡ go) ⊎ (from ≤ current)
  located_by from current next Narrow = inl refl
  located_by from current next Wide = inr (omega arith)

  pub owner : (from to : ℕ) (steps : List GroundStep) (all : List TargetAction) → Gadgets from to steps all → (action : TargetAction) → Contains all action → Owner from steps all action
  owner from to steps all (NoSteps _) action member = in_none action member
  owner from to steps all (Costless _ _ step others rest none are) action member = later_owner from from step others [] rest action (omega arith) (owner from to others rest are action member)
  owner from to steps all (OneStep _ current next _ step others actions rest costs owns made are) action member = elim (Contains-append_cases actions rest action member) [
    | inl own ↦ record { step = step; has_step = is_head step others; costs = costs; current = current; located = located_by from current next owns; actions = actions; made = made; own = own; inside = Contains-append_left actions rest }
    | inr later ↦ later_owner from next step others actions rest action (goes_up from current next owns) (owner next to others rest are action later)
  ]

  -- the actions of a step
  pub record Maker (all : List TargetAction) (step : GroundStep) : Type 0 where
    pub current : ℕ
    pub actions : List TargetAction
    pub made : IsStepGadget go first size counted weights sources hard monitors step current actions
    pub inside : (action : TargetAction) → Contains actions action → Contains all action

  pub maker : (from to : ℕ) (steps : List GroundStep) (all : List TargetAction) → Gadgets from to steps all → (step : GroundStep) → Contains steps step → is_some step.cost ≡ true → Maker all step
  maker from to steps all (NoSteps _) step member costs = in_none step member
  maker from to steps all (Costless _ _ other others rest none are) step member costs = elim (head_or_tail other others step member) [
    | inl is ↦ absurd (true≢false (sym costs ∙ ap (λ (s : GroundStep). is_some s.cost) (sym is) ∙ none))
    | inr later ↦ maker from to others rest are step later costs
  ]
  maker from to steps all (OneStep _ current next _ other others actions rest has owns made are) step member costs = elim (head_or_tail other others step member) [
    | inl is ↦ record { current = current; actions = actions; made = subst (λ (s : GroundStep). IsStepGadget go first size counted weights sources hard monitors s current actions) is made; inside = λ action own. Contains-append_left actions rest action own }
    | inr later ↦
        let more = maker next to others rest are step later costs in
        record { current = more.current; actions = more.actions; made = more.made; inside = λ action own. Contains-append_right actions rest action (more.inside action own) }
  ]

  -- ---- open bits

  counts_from : (low from to : ℕ) (steps : List GroundStep) (all : List TargetAction) → AreRising low steps → Gadgets from to steps all → (bits : State) → IsOpen go first size bits
      → (action : TargetAction) → Contains all action → truth bits action.pre ≡ true → (number : ℕ) → counted action ≡ Some number → low ≤ number
  counts_from low from to steps all rising are bits is action member fits number counts =
      let o = owner from to steps all are action member in
      let known : Some o.step.number ≡ Some number = sym (o.made.gadget.open_counts bits is action o.own fits) ∙ counts in
      let same : o.step.number ≡ number = cc in
      let least = rising_low low steps rising o.step o.has_step in omega (arith, same, least)

  pub open_one : (low from to : ℕ) (steps : List GroundStep) (all : List TargetAction) → Gadgets from to steps all → AreRising low steps → (bits : State) → IsOpen go first size bits
      → (one other : TargetAction) → Contains all one → Contains all other → truth bits one.pre ≡ true → truth bits other.pre ≡ true → (number : ℕ) → counted one ≡ Some number → counted other ≡ Some number → one ≡ other
  open_one low from to steps all (NoSteps _) rising bits is one other member member_two fits fit number counts count = in_none one member
  open_one low from to steps all (Costless _ _ step others rest none are) rising bits is one other member member_two fits fit number counts count =
      open_one (step.number + 1) from to others rest are rising.1 bits is one other member member_two fits fit number counts count
  open_one low from to steps all (OneStep _ current next _ step others actions rest costs owns made are) rising bits is one other member member_two fits fit number counts count =
      elim (Contains-append_cases actions rest one member) [
        | inl own ↦ elim (Contains-append_cases actions rest other member_two) [
          | inl too ↦ made.gadget.open_one bits is one other own too fits fit
          | inr later ↦ absurd (differ one own fits counts (counts_from (step.number + 1) next to others rest rising.1 are bits is other later fit number count))
        ]
        | inr later ↦ elim (Contains-append_cases actions rest other member_two) [
          | inl too ↦ absurd (differ other too fit count (counts_from (step.number + 1) next to others rest rising.1 are bits is one later fits number counts))
          | inr later_too ↦ open_one (step.number + 1) next to others rest are rising.1 bits is one other later later_too fits fit number counts count
        ]
      ]
    where
      differ : (action : TargetAction) → Contains actions action → truth bits action.pre ≡ true → counted action ≡ Some number → step.number + 1 ≤ number → ⊥
      differ action own holds counted_is above =
          let known : Some step.number ≡ Some number = sym (made.gadget.open_counts bits is action own holds) ∙ counted_is in
          let same : step.number ≡ number = cc in omega (arith, same, above)

  -- ---- in the middle of a step

  module _ (current : ℕ) (bits : State) (asking : IsAsking go first size current bits) where
    no_go : is_set bits go ≡ true → ⊥
    no_go set = true≢false (sym set ∙ asking.stopped)

    pub not_go : current ≡ go → ⊥
    not_go same = let far = asking.behind in omega (arith, same, far, behind_go)

    -- only the current step's actions fit
    pub current_is : (from : ℕ) → first + width_limit < from → (steps : List GroundStep) (all : List TargetAction) (action : TargetAction) (o : Owner from steps all action) → truth bits action.pre ≡ true → o.current ≡ current
    current_is from far steps all action o fits = ⊎_elim (λ set. absurd (no_go set)) (λ set. by set (cases_eq o.current current)) (o.made.gadget.guarded bits action o.own fits)
      where
        beyond : is_set bits o.current ≡ true → o.current ≢ current → from ≤ o.current → ⊥
        beyond set differ low = let small = asking.within in true≢false (sym set ∙ asking.clear o.current (omega (arith, low, far, behind_go)) differ (λ same. omega (arith, same, low, far, small)))

        by : is_set bits o.current ≡ true → (o.current ≡ current) ⊎ (o.current ≡ current → ⊥) → o.current ≡ current
        by set (inl same) = same
        by set (inr differ) = ⊎_elim (λ same. absurd (no_go (ap (is_set bits) (sym same) ∙ set))) (λ low. absurd (beyond set differ low)) o.located

    own_asking : (other : ℕ) → other ≡ current → IsAsking go first size other bits
    own_asking other same = subst (λ c. IsAsking go first size c bits) (sym same) asking

    pub amid_one : (from to : ℕ) → first + width_limit < from → (steps : List GroundStep) (all : List TargetAction) → Gadgets from to steps all
        → (one other : TargetAction) → Contains all one → Contains all other → truth bits one.pre ≡ true → truth bits other.pre ≡ true → one ≡ other
    amid_one from to far steps all (NoSteps _) one other member member_two fits fit = in_none one member
    amid_one from to far steps all (Costless _ _ step others rest none are) one other member member_two fits fit = amid_one from to far others rest are one other member member_two fits fit
    amid_one from to far steps all (OneStep _ mine next _ step others actions rest costs owns made are) one other member member_two fits fit =
        elim (Contains-append_cases actions rest one member) [
          | inl own ↦ elim (Contains-append_cases actions rest other member_two) [
            | inl too ↦ made.gadget.amid_one bits (own_asking mine (mine_is one own fits)) one other own too fits fit
            | inr later ↦ absurd (clash one own fits (owner next to others rest are other later) (current_is next ahead others rest other (owner next to others rest are other later) fit))
          ]
          | inr later ↦ elim (Contains-append_cases actions rest other member_two) [
            | inl too ↦ absurd (clash other too fit (owner next to others rest are one later) (current_is next ahead others rest one (owner next to others rest are one later) fits))
            | inr later_too ↦ amid_one next to ahead others rest are one other later later_too fits fit
          ]
        ]
      where
        ahead : first + width_limit < next
        ahead = let up = goes_up from mine next owns in omega (arith, up, far)

        mine_is : (action : TargetAction) → Contains actions action → truth bits action.pre ≡ true → mine ≡ current
        mine_is action own holds = current_is from far (step ∷ others) actions action (record { step = step; has_step = is_head step others; costs = costs; current = mine; located = located_by from mine next owns; actions = actions; made = made; own = own; inside = λ other member. member }) holds

        past : (c n : ℕ) → Owns go first size from c n → c ≡ current → n ≤ current → ⊥
        past c n Narrow same low = not_go (sym same)
        past c n Wide same low = omega (arith, same, low)

        clash : (action : TargetAction) → Contains actions action → truth bits action.pre ≡ true → {another : TargetAction} → (o : Owner next others rest another) → o.current ≡ current → ⊥
        clash action own holds o is = ⊎_elim (λ same. not_go (sym is ∙ same)) (λ low. past mine next owns (mine_is action own holds) (omega (arith, low, is))) o.located

    module _ (from to : ℕ) (far : first + width_limit < from) (steps : List GroundStep) (all : List TargetAction) (are : Gadgets from to steps all) (action : TargetAction) (member : Contains all action) (fits : truth bits action.pre ≡ true) where
      pub amid_counts : counted action ≡ None
      amid_counts = let o = owner from to steps all are action member in o.made.gadget.amid_counts bits (own_asking o.current (current_is from far steps all action o fits)) action o.own fits

      pub amid_next : IsOpen go first size (after bits action.effects) ⊎ IsAsking go first size current (after bits action.effects)
      amid_next =
          let o = owner from to steps all are action member in
          let same = current_is from far steps all action o fits in
          ⊎_elim (λ is. inl is) (λ is. inr (subst (λ c. IsAsking go first size c (after bits action.effects)) same is)) (o.made.gadget.amid_next bits (own_asking o.current same) action o.own fits)
      -- ---- one step more, behind the others
