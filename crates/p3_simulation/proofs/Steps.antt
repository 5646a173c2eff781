-- The actions of the steps of a target, as gadgets one after another.
use Rattle.std.proofs.Common.{◌≡◌, ◌∙◌, ◌≢◌, ℕ, ◌+◌, ◌^◌, ◌<◌, ◌≤◌, nat_lt, true, ◌&&◌, cond, List, [], ◌∷◌, ◌++◌, length, refl, sym, ap, arith, Some, None}
use Rattle.std.specs.Prelude.{All, decimal, is_some, flat_map}
use Rattle.std.specs.List.{list_all}
use Rattle.std.proofs.lemmas.Bool.{and_parts, ltb-true, lt-ltb, le-ltb}
use Rattle.std.proofs.lemmas.List.Elements.{All-head, All-tail}
use Rattle.p3_base.specs.Copies.{copy_name}
use Rattle.p3_base.specs.Limits.{width_limit}
use Rattle.p3_base.specs.Words.{Name}
use Rattle.p3_formula.specs.Conditions.{is_step_below, IsWithinLimits, rises}
use Rattle.p3_formula.specs.Forms.{State, truth, is_below}
use Rattle.p3_formula.specs.Modals.{is_modal_below}
use Rattle.p3_formula.specs.Next.{after}
use Rattle.p3_formula.specs.Targets.{is_sized_change, lifted_number}
use Rattle.p3_formula.specs.Weighted.{width_of}
use Rattle.p3_formula.specs.declared.form.Change.{Change}
use Rattle.p3_formula.specs.GroundModal.{GroundModal}
use Rattle.p3_formula.specs.declared.modal.GroundPref.{GroundPref}
use Rattle.p3_formula.specs.declared.target.TargetAction.{TargetAction}
use Rattle.p3_formula.specs.declared.target.Weights.{Weights}
use Rattle.p3_formula.specs.declared.task.GroundStep.{GroundStep}
use Rattle.p3_formula.specs.declared.task.GroundTask.{GroundTask}
use Rattle.p3_formula.proofs.NameLaws.{copy_lifted, other_not_lifted}
use Rattle.p3_monitors.specs.declared.monitoring.Monitor.{Monitor}
use Rattle.p3_simulation.proofs.Bounds.{below_more, step_more}
use Rattle.p3_simulation.proofs.Guarded.{own_holds, plain_pre}
use Rattle.p3_simulation.proofs.Narrow.{copies_turn}
use Rattle.p3_simulation.proofs.Monitored.{Spread, spread}
use Rattle.p3_simulation.proofs.Wide.{asks_turn}
use Rattle.p3_simulation.specs.Assembled.{AreOfStep, Costless, Narrow, Wide, AreOfSteps, NoSteps, OneStep}
use Rattle.p3_simulation.specs.Gadgets as gadget
use Rattle.p3_simulation.specs.Gadgets.{AreGadgets, AreRising}
use Rattle.p3_simulation.specs.Naming.{wide_steps}
use Rattle.p3_simulation.specs.Parts.{counted}
use Rattle.p3_simulation.specs.Monitoring.{AreMonitors, IsEffects}

-- ---- the numbers of the steps

pub numbers : (count from : ℕ) (step : GroundStep) (steps : List GroundStep) → rises from count (step ∷ steps) ≡ true → (step.number < count) × (from ≤ step.number) × (rises (step.number + 1) count steps ≡ true)
numbers count from step steps rising =
    let parts = and_parts (nat_lt step.number count && nat_lt from (step.number + 1)) _ rising in
    let both = and_parts (nat_lt step.number count) _ parts.0 in
    (ltb-true step.number count both.0, (let low = ltb-true from (step.number + 1) both.1 in omega (arith, low)), parts.1)

pub are_rising : (count from : ℕ) (steps : List GroundStep) → rises from count steps ≡ true → AreRising from steps
are_rising count from [] rising = tt
are_rising count from (step ∷ steps) rising = let n = numbers count from step steps rising in (n.1, are_rising count (step.number + 1) steps n.2)

-- ---- the current atoms

module _ (go first : ℕ) (weights : Weights) (hard monitors : List Monitor) where
  next_current : (from next : ℕ) (step : GroundStep) (actions : List TargetAction) → AreOfStep go first weights hard monitors from next step actions → (steps : List GroundStep)
      → from + length (wide_steps weights.by_name (step ∷ steps)) ≡ next + length (wide_steps weights.by_name steps)
  next_current from next step actions (Costless _ none) steps = ap (λ b. from + length (cond (b && nat_lt 8 (width_of weights.by_name step)) (step ∷ wide_steps weights.by_name steps) (wide_steps weights.by_name steps))) none
  next_current from next step actions (Narrow _ pre effects _ costs few does guarded are) steps =
      (λ i. from + length (cond (costs i && le-ltb 8 (width_of weights.by_name step) few i) (step ∷ wide_steps weights.by_name steps) (wide_steps weights.by_name steps)))
  next_current from next step actions (Wide _ effects _ costs many does are) steps =
      (λ i. from + length (cond (costs i && lt-ltb 8 (width_of weights.by_name step) many i) (step ∷ wide_steps weights.by_name steps) (wide_steps weights.by_name steps)))
      ∙ omega arith

  pub all_currents : (from to : ℕ) (steps : List GroundStep) (actions : List TargetAction) → AreOfSteps go first weights hard monitors from to steps actions → from + length (wide_steps weights.by_name steps) ≡ to
  all_currents from to steps actions (NoSteps _) = omega arith
  all_currents from to steps actions (OneStep _ next _ step others own rest are more) = next_current from next step own are others ∙ all_currents next to others rest more

-- ---- the names

module _ (G : GroundTask) (count : G.step_count ≤ 2 ^ 64) where
  counts : (step : GroundStep) → step.number < G.step_count → (action : TargetAction) (rest : Name) → action.name ≡ copy_name step.number rest → counted G action ≡ Some step.number
  counts step within action rest named = ap (lifted_number G) named ∙ copy_lifted G step.number rest within count

  pub uncounted : (action : TargetAction) (byte : ℕ) (rest : Name) → action.name ≡ byte ∷ rest → 115 ≢ byte → counted G action ≡ None
  uncounted action byte rest named differ = ap (lifted_number G) named ∙ other_not_lifted G byte rest differ

-- ---- the gadgets

module _ (G : GroundTask) (weights : Weights) (hard monitors : List Monitor) (go first size : ℕ) (inside : G.atoms ≤ go) (behind : go < first) (count : G.step_count ≤ 2 ^ 64)
    (constraints : List GroundModal) (monitors_are : AreMonitors G.initial G.atoms go constraints monitors) (constraints_below : list_all (is_modal_below G.atoms) constraints ≡ true) where
  pub gadgets_of : (low from to : ℕ) (steps : List GroundStep) (actions : List TargetAction) → AreOfSteps go first weights hard monitors from to steps actions
      → rises low G.step_count steps ≡ true → list_all (is_step_below G.atoms) steps ≡ true → All (IsWithinLimits weights) steps → first + width_limit < from → (from < to → to ≤ size)
      → AreGadgets go first size (counted G) weights G.atoms hard monitors from to steps actions
  gadgets_of low from to steps actions (NoSteps _) rising below limits far room = gadget.NoSteps from
  gadgets_of low from to steps actions (OneStep _ next _ step others own rest are more) rising below limits far room =
      by next own are (let e = all_currents go first weights hard monitors next to others rest more in omega (arith, e)) (gadgets_of (step.number + 1) next to others rest more n.2 parts.1 (All-tail (IsWithinLimits weights) step others limits))
    where
      n : (step.number < G.step_count) × (low ≤ step.number) × (rises (step.number + 1) G.step_count others ≡ true)
      n = numbers G.step_count low step others rising

      parts : (is_step_below G.atoms step ≡ true) × (list_all (is_step_below G.atoms) others ≡ true)
      parts = and_parts (is_step_below G.atoms step) _ below

      halves : ((is_below G.atoms step.pre && list_all (λ (pref : GroundPref). is_below G.atoms pref.body) step.prefs) ≡ true) × (list_all (is_sized_change G.atoms) step.effects ≡ true)
      halves = and_parts (is_below G.atoms step.pre && list_all (λ (pref : GroundPref). is_below G.atoms pref.body) step.prefs) _ parts.0

      own_below : is_below G.atoms step.pre ≡ true
      own_below = (and_parts (is_below G.atoms step.pre) _ halves.0).0

      spread_of : (effects : List Change) (does : IsEffects go monitors step effects) → Spread G.initial G.atoms G.atoms step.effects monitors does.updates
      spread_of effects does = spread G.initial G.atoms step.effects halves.1
          G.atoms G.atoms go constraints monitors does.updates does.watched monitors_are constraints_below (omega arith) refl

      does_all : (effects : List Change) (does : IsEffects go monitors step effects) (state : State) → truth state step.pre ≡ true → after state effects ≡ after state (step.effects ++ flat_map (λ effects. effects) (spread_of effects does).changes)
      does_all effects does state holds = does.does state holds ∙ ap (λ list. after state (step.effects ++ list)) (sym (spread_of effects does).same)

      by : (next : ℕ) (own : List TargetAction) → AreOfStep go first weights hard monitors from next step own → next ≤ to → (first + width_limit < next → (next < to → to ≤ size) → AreGadgets go first size (counted G) weights G.atoms hard monitors next to others rest)
          → AreGadgets go first size (counted G) weights G.atoms hard monitors from to (step ∷ others) (own ++ rest)
      by next own (Costless _ none) up onward = gadget.Costless from to step others rest none (onward far room)
      by next own (Narrow _ pre effects _ costs few does guarded split) up onward =
          gadget.OneStep from go from to step others own rest costs gadget.Narrow
          (record {
            changes = (spread_of effects does).changes;
            riders = (spread_of effects does).riders;
            pre = pre;
            guarded = guarded;
            gadget = copies_turn go first size behind (counted G) weights step pre effects _ own few split does.below (λ state holds. does_all effects does state (own_holds go hard step pre guarded state holds)) (counts G count step n.0);
          })
          (onward far room)
      by next own (Wide _ effects _ costs many does chain) up onward =
          gadget.OneStep from from (from + 1) to step others own rest costs gadget.Wide
          (record {
            changes = (spread_of effects does).changes;
            riders = (spread_of effects does).riders;
            pre = step.pre;
            guarded = plain_pre go hard step (below_more G.atoms go inside step.pre own_below);
            gadget = asks_turn go first size from behind far (let fits = room (omega (arith, up)) in omega (arith, up, fits)) (counted G) weights step effects _ own many (some_width costs) (step_more G.atoms go inside step parts.0) chain does.below (does_all effects does)
                (counts G count step n.0) (λ action rest named. uncounted G count action 113 (decimal step.number ++ rest) named (λ same. omega (arith, same)));
          })
          (onward (omega (arith, far)) (λ more. room (omega (arith, more))))
        where
          some_width : is_some step.cost ≡ true → width_of weights.by_name step ≤ width_limit
          some_width costs = (All-head (IsWithinLimits weights) step others limits).width costs
