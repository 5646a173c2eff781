-- What the body of a ground compiler shows makes the parts of a compiled task.
use Rattle.std.proofs.Common.{◌≡◌, ◌∙◌, ◌≢◌, inl, inr, ℕ, ◌+◌, ◌-◌, ◌^◌, ◌<◌, ◌≤◌, true, false, ◌&&◌, List, [], ◌∷◌, ◌++◌, map, length, take, drop, take-append-drop, refl, sym, ap, subst, arith, append_assoc}
use Rattle.std.specs.Prelude.{Contains, codes, decimal, flat_map, replicate}
use Rattle.std.specs.List.{list_all, range_with_len}
use Rattle.std.proofs.lemmas.Bool.{and_parts, and_from}
use Rattle.std.proofs.lemmas.List.{length-append, length-map, get_or_append_left}
use Rattle.std.proofs.lemmas.List.FromFn.{length-range_with_len}
use Rattle.std.proofs.lemmas.List.Elements.{All-contains}
use Rattle.std.proofs.lemmas.List.Folds.{list_all-append}
use Rattle.std.proofs.lemmas.List.Sums.{AllPass-from_list_all}
use Rattle.p3_base.specs.Words.{Name}
use Rattle.p3_formula.specs.Alike.{AgreeBelow}
use Rattle.p3_formula.specs.Conditions.{IsReady, is_step_below}
use Rattle.p3_formula.specs.Forms.{State, is_set, is_below}
use Rattle.p3_formula.specs.Modals.{is_modal_below}
use Rattle.p3_formula.specs.Targets.{is_sized_change}
use Rattle.p3_formula.specs.declared.form.Form.{Form}
use Rattle.p3_formula.specs.declared.modal.GroundPref.{GroundPref}
use Rattle.p3_formula.specs.declared.modal.GroundSoft.{GroundSoft}
use Rattle.p3_formula.specs.declared.target.Target.{Target}
use Rattle.p3_formula.specs.declared.target.TargetAction.{TargetAction}
use Rattle.p3_formula.specs.declared.target.Weights.{Weights}
use Rattle.p3_formula.specs.declared.task.GroundStep.{GroundStep}
use Rattle.p3_formula.specs.declared.task.GroundTask.{GroundTask}
use Rattle.p3_formula.proofs.TurnLaws.{conditions_below}
use Rattle.p3_endphase.specs.declared.phase.SoftEnd.{SoftEnd}
use Rattle.p3_endphase.specs.Ends.{AreActions, Settles}
use Rattle.p3_endphase.proofs.EndLemmas as ends
use Rattle.p3_monitors.specs.Riders.{AreKept}
use Rattle.p3_simulation.proofs.EndForms.{front_modals, end_count, may_by, settled_soft}
use Rattle.p3_simulation.proofs.Steps.{are_rising, all_currents, gadgets_of, uncounted}
use Rattle.p3_simulation.proofs.Walks.{head_or_tail, in_none}
use Rattle.p3_simulation.proofs.Monitored.{all_bits, monitors_rise, are_before, bit_count, set_next, kept_first, clear_behind}
use Rattle.p3_simulation.specs.Assembled.{Assembly, IsAssembled}
use Rattle.p3_simulation.specs.Gadgets.{IsOpen}
use Rattle.p3_simulation.specs.Naming.{all_numbered, atom_names, question_names, current_name, wide_steps, numbered}
use Rattle.p3_simulation.specs.Parts.{IsMade}
use Rattle.p3_simulation.specs.Monitoring.{all_modals, modals}

-- ---- how many atoms there are

length-numbered : (letter : Name) (from count : ℕ) → length (all_numbered letter from count) ≡ count
length-numbered letter from count = length-map (range_with_len from count) (numbered letter) ∙ length-range_with_len from count

pub atom_total : (sources watched chain : ℕ) (wide : List GroundStep) → length (atom_names sources watched chain wide) ≡ sources + (watched + (1 + (chain + (length (question_names wide) + length wide))))
atom_total sources watched chain wide =
    let f = length-append (all_numbered (codes "f") 0 sources) (all_numbered (codes "m") 0 watched ++ (codes "go" ∷ (all_numbered (codes "e") 0 chain ++ (question_names wide ++ map current_name wide)))) in
    let m = length-append (all_numbered (codes "m") 0 watched) (codes "go" ∷ (all_numbered (codes "e") 0 chain ++ (question_names wide ++ map current_name wide))) in
    let e = length-append (all_numbered (codes "e") 0 chain) (question_names wide ++ map current_name wide) in
    let q = length-append (question_names wide) (map current_name wide) in
    let c = length-map wide current_name in
    let nf = length-numbered (codes "f") 0 sources in
    let nm = length-numbered (codes "m") 0 watched in
    let ne = length-numbered (codes "e") 0 chain in
    omega (arith, f, m, e, q, c, nf, nm, ne)

pub question_total : (step : GroundStep) (steps : List GroundStep) → length (question_names (step ∷ steps)) ≡ 201
question_total step steps = length-numbered (codes "h") 0 201

-- ---- the constraints

parts_below : (count : ℕ) (softs : List GroundSoft) → list_all (λ (soft : GroundSoft). list_all (is_modal_below count) soft.parts) softs ≡ true → list_all (is_modal_below count) (flat_map (λ (soft : GroundSoft). soft.parts) softs) ≡ true
parts_below count [] below = refl
parts_below count (soft ∷ softs) below =
    let parts = and_parts (list_all (is_modal_below count) soft.parts) _ below in
    list_all-append (is_modal_below count) soft.parts (flat_map (λ (soft : GroundSoft). soft.parts) softs) ∙ and_from _ _ parts.0 (parts_below count softs parts.1)

-- ---- the names of the end phase

-- the name begins with a letter that no step's begins with
abbrev pub BeginsApart : TargetAction → Type 0
BeginsApart action = (byte : ℕ) × (rest : Name) × (action.name ≡ byte ∷ rest) × (115 ≢ byte)

settles_apart : (first number : ℕ) (instances : List SoftEnd) (actions : List TargetAction) → Settles first number instances actions → (action : TargetAction) → Contains actions action → BeginsApart action
settles_apart first number [] [] settles action own = in_none action own
settles_apart first number [] (other ∷ actions) settles action own = absurd settles
settles_apart first number (instance ∷ instances) [] settles action own = absurd settles
settles_apart first number (instance ∷ instances) (one ∷ []) settles action own = absurd settles
settles_apart first number (instance ∷ instances) (collect ∷ forgo ∷ actions) settles action own = elim (head_or_tail collect (forgo ∷ actions) action own) [
  | inl is ↦ (99, codes "ollect" ++ decimal number, ap (λ (a : TargetAction). a.name) (sym is) ∙ settles.0.collects.is_named, λ same. omega (arith, same))
  | inr more ↦ elim (head_or_tail forgo actions action more) [
    | inl is ↦ (102, codes "orgo" ++ decimal number, ap (λ (a : TargetAction). a.name) (sym is) ∙ settles.0.forgoes.is_named, λ same. omega (arith, same))
    | inr later ↦ settles_apart first (number + 1) instances actions settles.1 action later
  ]
]

phase_apart : (first : ℕ) (finish : Form) (instances : List SoftEnd) (actions : List TargetAction) → AreActions first finish instances actions → (action : TargetAction) → Contains actions action → BeginsApart action
phase_apart first finish instances [] are action own = absurd are
phase_apart first finish instances (one ∷ actions) are action own = elim (head_or_tail one actions action own) [
  | inl is ↦ (102, codes "inish", ap (λ (a : TargetAction). a.name) (sym is) ∙ are.0.is_named, λ same. omega (arith, same))
  | inr later ↦ settles_apart first 0 instances actions are.1 action later
]

-- ---- the parts

module _ (G : GroundTask) (weights : Weights) (X : Target) (made : Assembly) (ready : IsReady G weights) (is : IsAssembled G weights X made) where
  constraints_below : list_all (is_modal_below G.atoms) (all_modals G) ≡ true
  constraints_below = list_all-append (is_modal_below G.atoms) G.hard (flat_map (λ (soft : GroundSoft). soft.parts) G.soft) ∙ and_from _ _ ready.atoms.hard (parts_below G.atoms G.soft ready.atoms.soft)

  pub inside : G.atoms ≤ made.go
  inside = monitors_rise G.initial G.atoms made.go (all_modals G) made.monitors is.monitors

  pub size_is : length X.predicates ≡ made.first + (length (question_names (wide_steps weights.by_name G.steps)) + length (wide_steps weights.by_name G.steps))
  size_is =
      let n = ap length is.names in
      let t = atom_total G.atoms (made.go - G.atoms) (length G.soft + 1) (wide_steps weights.by_name G.steps) in
      let q = is.questions in
      let i = inside in
      omega (arith, n, t, q, i)

  last_is : made.first + 201 + length (wide_steps weights.by_name G.steps) ≡ made.last
  last_is = all_currents made.go made.first weights (take (length G.hard) made.monitors) made.monitors (made.first + 201) made.last G.steps made.actions is.steps

  pub currents_fit : made.first + 201 < made.last → made.last ≤ length X.predicates
  currents_fit some = by (wide_steps weights.by_name G.steps) last_is size_is
    where
      by : (wide : List GroundStep) → made.first + 201 + length wide ≡ made.last → length X.predicates ≡ made.first + (length (question_names wide) + length wide) → made.last ≤ length X.predicates
      by [] end size = absurd (omega (arith, end, some))
      by (step ∷ steps) end size = let q = question_total step steps in omega (arith, end, size, q)

  -- ---- the initial state

  front : State
  front = G.initial ++ all_bits made.monitors

  front_long : length (G.initial ++ all_bits made.monitors) ≡ made.go
  front_long = length-append G.initial (all_bits made.monitors) ∙ (let b = ready.bits in let c = bit_count G.initial G.atoms made.go (all_modals G) made.monitors is.monitors in omega (arith, b, c))

  initial_is : X.initial ≡ (G.initial ++ all_bits made.monitors) ++ true ∷ replicate is.idle false
  initial_is = is.initial ∙ sym (append_assoc G.initial (all_bits made.monitors) (true ∷ replicate is.idle false))

  begins : IsOpen made.go made.first (length X.predicates) X.initial
  begins = record {
    room = is.bits;
    running = (λ i. is_set (initial_is i) (sym front_long i)) ∙ set_next (G.initial ++ all_bits made.monitors) true (replicate is.idle false);
    clear = λ atom high. ap (λ state. is_set state atom) initial_is ∙ clear_behind (G.initial ++ all_bits made.monitors) is.idle atom (let l = front_long in omega (arith, l, high));
  }

  sources : AgreeBelow G.atoms X.initial G.initial
  sources atom low = ap (λ state. is_set state atom) is.initial ∙ get_or_append_left G.initial (all_bits made.monitors ++ true ∷ replicate is.idle false) false atom (let b = ready.bits in omega (arith, b, low))

  -- ---- the steps

  step_is : (step : GroundStep) → Contains G.steps step → is_step_below G.atoms step ≡ true
  step_is step own = All-contains (λ (s : GroundStep). is_step_below G.atoms s ≡ true) G.steps step (AllPass-from_list_all (is_step_below G.atoms) G.steps ready.atoms.steps) own

  split_step : (step : GroundStep) → Contains G.steps step → (is_below G.atoms step.pre ≡ true) × (list_all (λ (pref : GroundPref). is_below G.atoms pref.body) step.prefs ≡ true) × (list_all (is_sized_change G.atoms) step.effects ≡ true)
  split_step step own =
      let parts = and_parts (is_below G.atoms step.pre && list_all (λ (pref : GroundPref). is_below G.atoms pref.body) step.prefs) _ (step_is step own) in
      let both = and_parts (is_below G.atoms step.pre) _ parts.0 in (both.0, both.1, parts.1)

  pub behind : made.go < made.first
  behind = let q = is.questions in omega (arith, q)

  counting : G.step_count ≤ 2 ^ 64
  counting = let n = is.numbers in omega (arith, n)

  halved : (W : List State) (bits : State) → AreKept made.monitors W bits → AreKept (take (length G.hard) made.monitors ++ drop (length G.hard) made.monitors) W bits
  halved W bits = subst (λ list. AreKept list W bits) (sym (take-append-drop (length G.hard) made.monitors))

  hard : modals (take (length G.hard) made.monitors) ≡ G.hard
  hard = front_modals G.initial G.atoms made.go G.hard (flat_map (λ (soft : GroundSoft). soft.parts) G.soft) made.monitors is.monitors

  pub made_parts : IsMade G weights X made.monitors made.go made.first made.last (length X.predicates) made.actions made.phase made.finish made.instances
  made_parts = record {
    inside = inside;
    before = are_before G.initial G.atoms G.atoms made.go (all_modals G) made.monitors is.monitors constraints_below;
    chain = let q = is.questions in let c = is.phase.count in let e = end_count weights.by_name G.soft (drop (length G.hard) made.monitors) made.instances is.ends in omega (arith, q, c, e);
    room = let s = size_is in omega (arith, s);
    actions = is.actions;
    goal = is.goal;
    hard = hard;
    gadgets = gadgets_of G weights (take (length G.hard) made.monitors) made.monitors made.go made.first (length X.predicates) inside behind counting (all_modals G) is.monitors constraints_below 0 (made.first + 201) made.last G.steps made.actions is.steps
        ready.numbers ready.atoms.steps ready.limits (omega arith) currents_fit;
    rising = are_rising G.step_count 0 G.steps ready.numbers;
    begins = begins;
    sources = sources;
    source_bits = ready.bits;
    kept = kept_first G.initial X.initial (true ∷ replicate is.idle false) (subst (λ count. AgreeBelow count X.initial G.initial) (sym ready.bits) sources) G.atoms made.go (all_modals G) made.monitors G.initial is.monitors
        (ap (λ count. list_all (is_modal_below count) (all_modals G)) ready.bits ∙ constraints_below) ready.bits is.initial;
    conditions = λ step own. conditions_below G.atoms step.effects (split_step step own).2;
    preconditions = λ step own. (split_step step own).0;
    bodies = λ step own pref member. All-contains (λ (p : GroundPref). is_below G.atoms p.body ≡ true) step.prefs pref (AllPass-from_list_all (λ (p : GroundPref). is_below G.atoms p.body) step.prefs (split_step step own).1) member;
    phase_is = is.phase;
    one_end = ends.one_end made.finish made.instances made.go made.phase is.phase is.instances;
    no_end = ends.no_end made.finish made.instances made.go made.phase is.phase;
    one_fits = λ bits place single. ends.one_fits made.finish made.instances made.go made.phase is.phase place bits single;
    moves_on = λ bits place single. ends.moves_on made.finish made.instances made.go made.phase is.phase place bits single;
    uncounted = λ action own. let apart = phase_apart made.go made.finish made.instances made.phase.actions is.phase.settles action own in
        uncounted G counting action apart.0 apart.1 apart.2 apart.3;
    may_finish = λ W bits kept agree. may_by W bits G weights (take (length G.hard) made.monitors) (drop (length G.hard) made.monitors) (halved W bits kept) made.finish hard ready.atoms.goal is.accepts agree;
    settled = λ W bits kept agree. settled_soft W bits G weights (take (length G.hard) made.monitors) (drop (length G.hard) made.monitors) (halved W bits kept) made.instances is.ends;
    instance_count = end_count weights.by_name G.soft (drop (length G.hard) made.monitors) made.instances is.ends;
  }
