-- All atoms of a target are below the number of its predicates.
use Rattle.std.proofs.Common.{◌≡◌, ◌∙◌, ℕ, ◌+◌, ◌<◌, ◌≤◌, nat_lt, nat_le, true, ◌&&◌, List, [], ◌∷◌, length, take, drop, refl, ap, arith, ⊎_elim}
use Rattle.std.specs.Prelude.{◌==◌, All}
use Rattle.std.specs.List.{list_all}
use Rattle.std.proofs.lemmas.Bool.{and_parts, and_from, lt-ltb, eqb-true, leb-true, or_cases}
use Rattle.std.proofs.lemmas.List.Elements.{All-head, All-tail, All-nil, All-cons}
use Rattle.std.proofs.lemmas.List.Folds.{list_all-append}
use Rattle.std.proofs.lemmas.List.Sums.{AllPass-from_list_all, list_all-from_AllPass}
use Rattle.p3_base.specs.Limits.{width_limit}
use Rattle.p3_formula.specs.Conditions.{IsReady, IsWithinLimits, is_step_below}
use Rattle.p3_formula.specs.Forms.{is_below, has_atoms}
use Rattle.p3_formula.specs.Targets.{is_sized_action, is_sized_change, IsSized}
use Rattle.p3_formula.specs.declared.form.Change.{Change}
use Rattle.p3_formula.specs.declared.modal.GroundPref.{GroundPref}
use Rattle.p3_formula.specs.declared.target.Target.{Target}
use Rattle.p3_formula.specs.declared.target.TargetAction.{TargetAction}
use Rattle.p3_formula.specs.declared.target.Weights.{Weights}
use Rattle.p3_formula.specs.declared.task.GroundStep.{GroundStep}
use Rattle.p3_formula.specs.declared.task.GroundTask.{GroundTask}
use Rattle.p3_formula.proofs.FormLemmas.{has_atoms-Atom}
use Rattle.p3_endphase.specs.Ends as phase
use Rattle.p3_endphase.specs.declared.phase.SoftEnd.{SoftEnd}
use Rattle.p3_endphase.proofs.WholeLemmas.{every_atom}
use Rattle.p3_monitors.specs.declared.monitoring.Monitor.{Monitor}
use Rattle.p3_precprefs.specs.Copies.{HasPartsIn, HasAtomsIn}
use Rattle.p3_precprefs.specs.Questions.{is_own}
use Rattle.p3_precprefs.specs.declared.copies.StepCopy.{StepCopy}
use Rattle.p3_precprefs.proofs.ChainAtoms.{chain_atoms}
use Rattle.p3_simulation.proofs.Assembling.{inside, behind, size_is, currents_fit}
use Rattle.p3_simulation.proofs.Bounds.{all_weaker, below_more, change_more, step_more}
use Rattle.p3_simulation.proofs.EndForms.{end_count}
use Rattle.p3_simulation.proofs.Steps.{all_currents}
use Rattle.p3_simulation.specs.Assembled.{Assembly, IsAssembled, AreCopyActions, AreOfStep, Costless, Narrow, Wide, AreOfSteps, NoSteps, OneStep}

module _ (go first size : ℕ) (behind_go : go < first) (room : first ≤ size) where
  effects_sized : (effects : List Change) → list_all (is_sized_change go) effects ≡ true → list_all (is_sized_change size) effects ≡ true
  effects_sized = all_weaker (is_sized_change go) (is_sized_change size) (change_more go size (omega (arith, behind_go, room)))

  parts_of : (step : GroundStep) → is_step_below go step ≡ true → HasPartsIn (λ atom. nat_lt atom size) step
  parts_of step below =
      let wide = step_more go size (omega (arith, behind_go, room)) step below in
      let front = and_parts (is_below size step.pre) _ (and_parts (is_below size step.pre && list_all (λ (pref : GroundPref). is_below size pref.body) step.prefs) _ wide).0 in
      record { pre = front.0; bodies = AllPass-from_list_all (λ (pref : GroundPref). is_below size pref.body) step.prefs front.1 }

  copies_sized : (number : ℕ) (effects : List Change) (copies : List StepCopy) (actions : List TargetAction) → AreCopyActions go number effects copies actions → All (λ (copy : StepCopy). HasAtomsIn (λ atom. nat_lt atom size) copy.pre) copies
      → list_all (is_sized_change size) effects ≡ true → list_all (is_sized_action size) actions ≡ true
  copies_sized number effects [] [] are within sized = refl
  copies_sized number effects [] (action ∷ actions) are within sized = absurd are
  copies_sized number effects (copy ∷ copies) [] are within sized = absurd are
  copies_sized number effects (copy ∷ copies) (action ∷ actions) are within sized =
      and_from (is_sized_action size action) _
      (and_from _ _ (are.0.pre.reads (λ atom. nat_lt atom size) (λ i. lt-ltb go size (omega (arith, behind_go, room)) i && true) (All-head (λ (c : StepCopy). HasAtomsIn (λ atom. nat_lt atom size) c.pre) copy copies within)) (are.0.atoms (λ atom. nat_lt atom size) sized))
      (copies_sized number effects copies actions are.1 (All-tail (λ (c : StepCopy). HasAtomsIn (λ atom. nat_lt atom size) c.pre) copy copies within) sized)

  own_below : (current : ℕ) → first + width_limit < current → current < size → (atom : ℕ) → is_own go first current atom ≡ true → nat_lt atom size ≡ true
  own_below current far fits atom own = lt-ltb atom size (⊎_elim
      (λ is. let e = eqb-true go atom is in omega (arith, e, behind_go, room))
      (λ rest. ⊎_elim (λ is. let e = eqb-true current atom is in omega (arith, e, fits))
      (λ between. let high = leb-true atom (first + width_limit) (and_parts (nat_le first atom) _ between).1 in omega (arith, high, far, fits))
      (or_cases (current == atom) _ rest)) (or_cases (go == atom) _ own))

  module _ (weights : Weights) (hard monitors : List Monitor) where
    pub steps_sized : (from to : ℕ) (steps : List GroundStep) (actions : List TargetAction) → AreOfSteps go first weights hard monitors from to steps actions → list_all (is_step_below go) steps ≡ true
        → All (IsWithinLimits weights) steps → first + width_limit < from → (from < to → to ≤ size) → list_all (is_sized_action size) actions ≡ true
    steps_sized from to steps actions (NoSteps _) below limits far fits = refl
    steps_sized from to steps actions (OneStep _ next _ step others own rest are more) below limits far fits =
        list_all-append (is_sized_action size) own rest
        ∙ by next own are (let e = all_currents go first weights hard monitors next to others rest more in omega (arith, e)) (steps_sized next to others rest more parts.1 (All-tail (IsWithinLimits weights) step others limits))
      where
        parts : (is_step_below go step ≡ true) × (list_all (is_step_below go) others ≡ true)
        parts = and_parts (is_step_below go step) _ below

        by : (next : ℕ) (own : List TargetAction) → AreOfStep go first weights hard monitors from next step own → next ≤ to → (first + width_limit < next → (next < to → to ≤ size) → list_all (is_sized_action size) rest ≡ true)
            → (list_all (is_sized_action size) own && list_all (is_sized_action size) rest) ≡ true
        by next own (Costless _ none) up onward = onward far fits
        by next own (Narrow _ pre effects _ costs few does guarded split) up onward =
            and_from _ _ (copies_sized step.number effects split.copies own split.are (split.atoms (λ atom. nat_lt atom size) (below_more go size (omega (arith, behind_go, room)) pre guarded.below) (parts_of step parts.0).bodies) (effects_sized effects does.below)) (onward far fits)
        by next own (Wide _ effects _ costs many does chain) up onward =
            and_from _ _
            (list_all-from_AllPass (is_sized_action size) own (chain_atoms go first from weights step effects ((All-head (IsWithinLimits weights) step others limits).width costs) own chain (λ atom. nat_lt atom size)
            (record { parts = parts_of step parts.0; changes = effects_sized effects does.below; own = own_below from far (let f = fits (omega (arith, up)) in omega (arith, up, f)) })))
            (onward (omega (arith, far)) (λ less. fits (omega (arith, less))))

  accepts_below : (instances : List SoftEnd) → phase.AreBelow go instances → All (λ (instance : SoftEnd). has_atoms (λ atom. nat_lt atom size) instance.accept ≡ true) instances
  accepts_below [] below = All-nil (λ (instance : SoftEnd). has_atoms (λ atom. nat_lt atom size) instance.accept ≡ true)
  accepts_below (instance ∷ instances) below = All-cons (λ (instance : SoftEnd). has_atoms (λ atom. nat_lt atom size) instance.accept ≡ true) instance instances (below_more go size (omega (arith, behind_go, room)) instance.accept below.0) (accepts_below instances below.1)

module _ (G : GroundTask) (weights : Weights) (X : Target) (made : Assembly) (ready : IsReady G weights) (is : IsAssembled G weights X made) where
  first_fits : made.first ≤ length X.predicates
  first_fits = let s = size_is G weights X made ready is in omega (arith, s)

  phase_end : made.go + made.phase.atoms ≡ made.first
  phase_end = let q = is.questions in let c = is.phase.count in let e = end_count weights.by_name G.soft (drop (length G.hard) made.monitors) made.instances is.ends in omega (arith, q, c, e)

  pub sized : IsSized X
  sized = record {
    bits = is.bits;
    goal = ap (is_below (length X.predicates)) (is.goal ∙ is.phase.reached) ∙ has_atoms-Atom (λ atom. nat_lt atom (length X.predicates)) (made.go + (1 + length made.instances))
        ∙ lt-ltb (made.go + (1 + length made.instances)) (length X.predicates) (let f = first_fits in let q = is.questions in let e = end_count weights.by_name G.soft (drop (length G.hard) made.monitors) made.instances is.ends in omega (arith, f, q, e));
    actions = ap (list_all (is_sized_action (length X.predicates))) is.actions ∙ list_all-append (is_sized_action (length X.predicates)) made.actions made.phase.actions
        ∙ and_from _ _
        (steps_sized made.go made.first (length X.predicates) (behind G weights X made ready is) first_fits weights (take (length G.hard) made.monitors) made.monitors (made.first + 201) made.last G.steps made.actions is.steps
        (all_weaker (is_step_below G.atoms) (is_step_below made.go) (step_more G.atoms made.go (inside G weights X made ready is)) G.steps ready.atoms.steps) ready.limits (omega arith) (currents_fit G weights X made ready is))
        (list_all-from_AllPass (is_sized_action (length X.predicates)) made.phase.actions (every_atom made.finish made.instances made.go made.phase is.phase (λ atom. nat_lt atom (length X.predicates)) (record {
          may_finish = below_more made.go (length X.predicates) (let b = behind G weights X made ready is in let f = first_fits in omega (arith, b, f)) made.finish is.finish;
          may_accept = accepts_below made.go made.first (length X.predicates) (behind G weights X made ready is) first_fits made.instances is.instances;
          own = λ place low. lt-ltb (made.go + place) (length X.predicates) (let e = phase_end in let f = first_fits in omega (arith, low, e, f));
        })));
  }
