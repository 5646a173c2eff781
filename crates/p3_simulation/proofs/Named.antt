-- The names of a target all differ, and are names of the grammar.
use Rattle.std.proofs.Common.{◌≡◌, ◌∙◌, ℕ, zero, suc, ◌+◌, ◌*◌, ◌-◌, ◌<◌, ◌≤◌, ◌^◌, Bool, true, false, not, cond, List, [], ◌∷◌, ◌++◌, map, length, take, drop, refl, sym, ap, subst, arith}
use Rattle.std.specs.Prelude.{All, codes, decimal, flat_map, if◌then◌else◌}
use Rattle.std.specs.List.{list_all}
use Rattle.std.proofs.lemmas.Bool.{and_parts, and_from}
use Rattle.std.proofs.lemmas.List.{map-append}
use Rattle.std.proofs.lemmas.List.Elements.{All-head, All-tail}
use Rattle.std.proofs.lemmas.List.Folds.{list_all-append}
use Rattle.p3_base.specs.Copies.{copy_name, question_name}
use Rattle.p3_base.specs.Limits.{instance_limit, width_limit}
use Rattle.p3_base.specs.Words.{Name, is_lowered, is_name, is_predicate_name}
use Rattle.p3_formula.specs.Conditions.{IsReady, IsWithinLimits, rises}
use Rattle.p3_formula.specs.Targets.{IsNamed, action_names, ends_with_c_number}
use Rattle.p3_formula.specs.Weighted.{weighted, width_of}
use Rattle.p3_formula.specs.declared.form.Change.{Change}
use Rattle.p3_formula.specs.declared.form.Form.{Form}
use Rattle.p3_formula.specs.declared.modal.GroundPref.{GroundPref}
use Rattle.p3_formula.specs.declared.target.Target.{Target}
use Rattle.p3_formula.specs.declared.target.TargetAction.{TargetAction}
use Rattle.p3_formula.specs.declared.target.Weights.{Weights}
use Rattle.p3_formula.specs.declared.task.GroundStep.{GroundStep}
use Rattle.p3_formula.specs.declared.task.GroundTask.{GroundTask}
use Rattle.p3_endphase.specs.Ends.{AreActions, Settles}
use Rattle.p3_endphase.specs.declared.phase.SoftEnd.{SoftEnd}
use Rattle.p3_monitors.specs.declared.monitoring.Monitor.{Monitor}
use Rattle.p3_precprefs.specs.Copies.{IsSublist, Nothing, Keeps, Leaves, both_ways, patterns, violated_lists}
use Rattle.p3_precprefs.specs.Questions.{AreAnswers}
use Rattle.p3_precprefs.specs.declared.copies.StepCopy.{StepCopy}
use Rattle.p3_simulation.proofs.Assembling.{inside, size_is}
use Rattle.p3_simulation.proofs.Bounds.{all_weaker}
use Rattle.p3_simulation.proofs.EndForms.{end_count}
use Rattle.p3_simulation.proofs.Keys.{key, key_of, bits_value, read_written, read_numbered, answer_place, AreRisen, risen_join, risen_wider, risen_one, all_good, risen_differ, risen_numbered, risen_weaker}
use Rattle.p3_simulation.proofs.Spelled.{is_atom_name, is_action_name, atom_numbered, copy_spelled, yes_spelled, no_spelled, answer_spelled, collect_spelled, forgo_spelled}
use Rattle.p3_simulation.proofs.Steps.{numbers}
use Rattle.p3_simulation.proofs.Walks.{names}
use Rattle.p3_simulation.specs.Assembled.{Assembly, IsAssembled, AreCopyActions, AreOfStep, Costless, Narrow, Wide, AreOfSteps, NoSteps, OneStep}
use Rattle.p3_simulation.specs.Naming.{atom_names, question_names, current_name, wide_steps, is_wide, all_numbered, pattern}

abbrev Atoms : ℕ → ℕ → List Name → Type 0
Atoms = AreRisen is_atom_name

abbrev Actions : ℕ → ℕ → List Name → Type 0
Actions = AreRisen is_action_name

-- the key of the first action of a step
abbrev from_step : ℕ → ℕ
from_step number = 6 * 2 ^ 64 + 1024 * number

-- ---- the copies of a step

abbrev value : List Bool → ℕ
value violated = bits_value 0 (pattern violated)

value_more : (before : ℕ) (violated : List Bool) (one : Bool) → bits_value before (pattern (violated ++ one ∷ [])) ≡ 2 * bits_value before (pattern violated) + (if one then 1 else 0)
value_more before [] true = refl
value_more before [] false = refl
value_more before (first ∷ violated) one = value_more (2 * before + ((if first then 49 else 48) - 48)) violated one

-- the patterns stand by rising value
abbrev AreUpward : ℕ → ℕ → List (List Bool) → Type 0
AreUpward low high [] = low ≤ high
AreUpward low high (violated ∷ more) = (low ≤ value violated) × AreUpward (value violated + 1) high more

upward_wider : (low least high : ℕ) (lists : List (List Bool)) → least ≤ low → AreUpward low high lists → AreUpward least high lists
upward_wider low least high [] below upward = omega (arith, below, upward)
upward_wider low least high (violated ∷ more) below upward = let first = upward.0 in (omega (arith, below, first), upward.1)

-- so do some of them
upward_some : (low high : ℕ) (some all : List (List Bool)) → IsSublist some all → AreUpward low high all → AreUpward low high some
upward_some low high some all Nothing upward = upward
upward_some low high some all (Keeps violated fewer more kept) upward = (upward.0, upward_some (value violated + 1) high fewer more kept upward.1)
upward_some low high some all (Leaves violated _ more kept) upward =
    let first = upward.0 in upward_wider (value violated + 1) low high some (omega (arith, first)) (upward_some (value violated + 1) high some more kept upward.1)

upward_doubled : (low high : ℕ) (lists : List (List Bool)) → AreUpward low high lists → AreUpward (2 * low) (2 * high) (flat_map both_ways lists)
upward_doubled low high [] upward = omega (arith, upward)
upward_doubled low high (violated ∷ more) upward =
    let first = upward.0 in
    let without = value_more 0 violated false in
    let with_one = value_more 0 violated true in
    (omega (arith, first, without), (omega (arith, without, with_one), upward_wider (2 * (value violated + 1)) (value (violated ++ true ∷ []) + 1) (2 * high) (flat_map both_ways more) (omega (arith, with_one)) (upward_doubled (value violated + 1) high more upward.1)))

abbrev doubles : ℕ → ℕ
doubles zero = 1
doubles (suc count) = 2 * doubles count

upward_patterns : (count : ℕ) → AreUpward 0 (doubles count) (patterns count)
upward_patterns zero = (omega arith, omega arith)
upward_patterns (suc count) = upward_doubled 0 (doubles count) (patterns count) (upward_patterns count)

doubles_rise : (more count n : ℕ) → more + count ≡ n → doubles count ≤ doubles n
doubles_rise zero count n is = subst (λ m. doubles count ≤ doubles m) (let same : count ≡ n = omega (arith, is) in same) (omega arith)
doubles_rise (suc more) count zero is = absurd (omega (arith, is))
doubles_rise (suc more) count (suc n) is = let less = doubles_rise more count n (omega (arith, is)) in omega (arith, less)

few_patterns : (count : ℕ) → count ≤ 8 → doubles count ≤ 256
few_patterns count few = doubles_rise (8 - count) count 8 (omega (arith, few))

copy_key : (number : ℕ) (rest : Name) → number < 2 ^ 64 → key (copy_name number rest) ≡ from_step number + bits_value 0 rest
copy_key number rest fits = read_written key_of (codes "s") number (codes "v" ++ rest) refl fits refl

copies_risen : (number : ℕ) → number < 2 ^ 64 → (low high : ℕ) (lists : List (List Bool)) → AreUpward low high lists → Actions (from_step number + low) (from_step number + high) (map (λ violated. copy_name number (pattern violated)) lists)
copies_risen number fits low high [] upward = omega (arith, upward)
copies_risen number fits low high (violated ∷ more) upward =
    let here = copy_key number (pattern violated) fits in
    let first = upward.0 in (
      omega (arith, here, first),
      copy_spelled number violated,
      risen_wider is_action_name (from_step number + (value violated + 1)) (from_step number + high) (key (copy_name number (pattern violated)) + 1) (from_step number + high) _ (omega (arith, here)) (omega arith)
          (copies_risen number fits (value violated + 1) high more upward.1),
    )

copies_named : (go number : ℕ) (effects : List Change) (copies : List StepCopy) (actions : List TargetAction) → AreCopyActions go number effects copies actions → names actions ≡ map (λ violated. copy_name number (pattern violated)) (violated_lists copies)
copies_named go number effects [] [] are = refl
copies_named go number effects [] (action ∷ actions) are = absurd are
copies_named go number effects (copy ∷ copies) [] are = absurd are
copies_named go number effects (copy ∷ copies) (action ∷ actions) are = λ i. are.0.named i ∷ copies_named go number effects copies actions are.1 i

-- ---- the chain of a step

module _ (first current number : ℕ) (by_name : List ℕ) (fits : number < 2 ^ 64) where
  answers_risen : (place : ℕ) (prefs : List GroundPref) (answers : List TargetAction) → AreAnswers first current number by_name place prefs answers → place + length prefs ≤ width_limit → Actions (from_step number + (256 + 2 * place)) (from_step number + 1023) (names answers)
  answers_risen place [] [] are few = omega (arith, few)
  answers_risen place [] (action ∷ answers) are few = absurd are
  answers_risen place (pref ∷ prefs) [] are few = absurd are
  answers_risen place (pref ∷ prefs) (one ∷ []) are few = absurd are
  answers_risen place (pref ∷ prefs) (agree ∷ deny ∷ answers) are few =
      let yes_is = ap key are.0.has_name ∙ yes_key place (omega (arith, few)) in
      let no_is = ap key are.1.has_name ∙ no_key place (omega (arith, few)) in (
        omega (arith, yes_is),
        ap is_action_name are.0.has_name ∙ yes_spelled number place,
        (
          omega (arith, yes_is, no_is),
          ap is_action_name are.1.has_name ∙ no_spelled number place,
          risen_wider is_action_name (from_step number + (256 + 2 * (place + 1))) (from_step number + 1023) (key deny.name + 1) (from_step number + 1023) (names answers) (omega (arith, no_is)) (omega arith)
              (answers_risen (place + 1) prefs answers are.2 (omega (arith, few))),
        ),
      )
    where
      yes_key : (place : ℕ) → place < width_limit → key (question_name number (codes "y" ++ decimal place)) ≡ from_step number + (256 + 2 * place)
      yes_key place small = read_written key_of (codes "q") number (codes "y" ++ decimal place) refl fits refl ∙ ap (λ n. from_step number + n) (read_numbered answer_place (codes "y") place refl (omega (arith, small)))

      no_key : (place : ℕ) → place < width_limit → key (question_name number (codes "n" ++ decimal place)) ≡ from_step number + (257 + 2 * place)
      no_key place small = read_written key_of (codes "q") number (codes "n" ++ decimal place) refl fits refl ∙ ap (λ n. from_step number + n) (read_numbered answer_place (codes "n") place refl (omega (arith, small)))

-- ---- the steps

module _ (go first : ℕ) (weights : Weights) (hard monitors : List Monitor) where
  step_risen : (from next : ℕ) (step : GroundStep) (actions : List TargetAction) → AreOfStep go first weights hard monitors from next step actions → step.number < 2 ^ 64 → IsWithinLimits weights step
      → Actions (from_step step.number) (from_step (step.number + 1)) (names actions)
  step_risen from next step actions (Costless _ none) fits limits = omega arith
  step_risen from next step actions (Narrow _ pre effects _ costs few does guarded split) fits limits =
      subst (Actions (from_step step.number) (from_step (step.number + 1))) (sym (copies_named go step.number effects split.copies actions split.are))
      (risen_wider is_action_name (from_step step.number + 0) (from_step step.number + doubles (width_of weights.by_name step)) (from_step step.number) (from_step (step.number + 1)) _ (omega arith)
      (let small = few_patterns (width_of weights.by_name step) few in omega (arith, small))
      (copies_risen step.number fits 0 (doubles (width_of weights.by_name step)) (violated_lists split.copies)
      (upward_some 0 (doubles (width_of weights.by_name step)) (violated_lists split.copies) (patterns (width_of weights.by_name step)) split.shown (upward_patterns (width_of weights.by_name step)))))
  step_risen from next step actions (Wide _ effects _ costs many does chain) fits limits =
      subst (λ list. Actions (from_step step.number) (from_step (step.number + 1)) (names list)) (sym chain.are) (
        omega (arith, begin_key),
        ap is_action_name chain.begins.has_name ∙ copy_spelled step.number [],
        subst (Actions (key chain.begin.name + 1) (from_step (step.number + 1))) (sym (map-append (λ (action : TargetAction). action.name) chain.answers (chain.ending ∷ [])))
            (risen_join is_action_name (key chain.begin.name + 1) (from_step step.number + 1023) (from_step (step.number + 1)) (names chain.answers) (chain.ending.name ∷ [])
            (risen_wider is_action_name (from_step step.number + (256 + 2 * 0)) (from_step step.number + 1023) (key chain.begin.name + 1) (from_step step.number + 1023) (names chain.answers) (omega (arith, begin_key)) (omega arith)
            (answers_risen first from step.number weights.by_name fits 0 (weighted weights.by_name step.prefs) chain.answers chain.asks (let few = limits.width costs in omega (arith, few))))
            (risen_one is_action_name chain.ending.name (from_step step.number + 1023) (from_step step.number + 1023) (from_step (step.number + 1)) end_key (ap is_action_name chain.ends.has_name ∙ answer_spelled step.number (codes "end") refl refl) (omega arith) (omega arith))),
      )
    where
      begin_key : key chain.begin.name ≡ from_step step.number + 0
      begin_key = ap key chain.begins.has_name ∙ copy_key step.number [] fits

      end_key : key chain.ending.name ≡ from_step step.number + 1023
      end_key = ap key chain.ends.has_name ∙ read_written key_of (codes "q") step.number (codes "end") refl fits refl

  steps_risen : (count low from to : ℕ) (steps : List GroundStep) (actions : List TargetAction) → AreOfSteps go first weights hard monitors from to steps actions → rises low count steps ≡ true → count < 2 ^ 32 → low ≤ 2 ^ 32 → All (IsWithinLimits weights) steps
      → Actions (from_step low) (7 * 2 ^ 64) (names actions)
  steps_risen count low from to steps actions (NoSteps _) rising small below limits = omega (arith, below)
  steps_risen count low from to steps actions (OneStep _ next _ step others own rest are more) rising small below limits =
      subst (Actions (from_step low) (7 * 2 ^ 64)) (sym (map-append (λ (action : TargetAction). action.name) own rest))
      (risen_join is_action_name (from_step low) (from_step (step.number + 1)) (7 * 2 ^ 64) (names own) (names rest)
      (risen_wider is_action_name (from_step step.number) (from_step (step.number + 1)) (from_step low) (from_step (step.number + 1)) (names own) (let least = n.1 in omega (arith, least)) (omega arith)
      (step_risen from next step own are (let within = n.0 in omega (arith, within, small)) (All-head (IsWithinLimits weights) step others limits)))
      (steps_risen count (step.number + 1) next to others rest more n.2 small (let within = n.0 in omega (arith, within, small)) (All-tail (IsWithinLimits weights) step others limits)))
    where
      n : (step.number < count) × (low ≤ step.number) × (rises (step.number + 1) count others ≡ true)
      n = numbers count low step others rising

-- ---- the end phase

module _ (first : ℕ) where
  settles_risen : (number : ℕ) (instances : List SoftEnd) (actions : List TargetAction) → Settles first number instances actions → number + length instances ≤ instance_limit → Actions (8 * 2 ^ 64 + 2 * number) (9 * 2 ^ 64) (names actions)
  settles_risen number [] [] settles few = omega (arith, few)
  settles_risen number [] (action ∷ actions) settles few = absurd settles
  settles_risen number (instance ∷ instances) [] settles few = absurd settles
  settles_risen number (instance ∷ instances) (one ∷ []) settles few = absurd settles
  settles_risen number (instance ∷ instances) (collect ∷ forgo ∷ actions) settles few =
      let collect_is = ap key settles.0.collects.is_named ∙ read_numbered key_of (codes "collect") number refl (omega (arith, few)) in
      let forgo_is = ap key settles.0.forgoes.is_named ∙ read_numbered key_of (codes "forgo") number refl (omega (arith, few)) in (
        omega (arith, collect_is),
        ap is_action_name settles.0.collects.is_named ∙ collect_spelled number,
        (
          omega (arith, collect_is, forgo_is),
          ap is_action_name settles.0.forgoes.is_named ∙ forgo_spelled number,
          risen_wider is_action_name (8 * 2 ^ 64 + 2 * (number + 1)) (9 * 2 ^ 64) (key forgo.name + 1) (9 * 2 ^ 64) (names actions) (omega (arith, forgo_is)) (omega arith)
              (settles_risen (number + 1) instances actions settles.1 (omega (arith, few))),
        ),
      )

  phase_risen : (finish : Form) (instances : List SoftEnd) (actions : List TargetAction) → AreActions first finish instances actions → length instances ≤ instance_limit → Actions (7 * 2 ^ 64) (9 * 2 ^ 64) (names actions)
  phase_risen finish instances [] are few = absurd are
  phase_risen finish instances (action ∷ actions) are few =
      let finish_is : key action.name ≡ 7 * 2 ^ 64 = ap key are.0.is_named in (
        omega (arith, finish_is),
        ap is_action_name are.0.is_named,
        risen_wider is_action_name (8 * 2 ^ 64 + 2 * 0) (9 * 2 ^ 64) (key action.name + 1) (9 * 2 ^ 64) (names actions) (omega (arith, finish_is)) (omega arith)
            (settles_risen 0 instances actions are.1 (omega (arith, few))),
      )

-- ---- the atoms

currents_risen : (by_name : List ℕ) (count low : ℕ) (steps : List GroundStep) → rises low count steps ≡ true → count < 2 ^ 32 → low ≤ 2 ^ 32 → Atoms (5 * 2 ^ 64 + low) (6 * 2 ^ 64) (map current_name (wide_steps by_name steps))
currents_risen by_name count low [] rising small below = omega (arith, below)
currents_risen by_name count low (step ∷ steps) rising small below = by (is_wide by_name step) (currents_risen by_name count (step.number + 1) steps n.2 small (let within = n.0 in omega (arith, within, small)))
  where
    n : (step.number < count) × (low ≤ step.number) × (rises (step.number + 1) count steps ≡ true)
    n = numbers count low step steps rising

    fits : step.number < 2 ^ 64
    fits = let within = n.0 in omega (arith, within, small)

    here : key (current_name step) ≡ 5 * 2 ^ 64 + step.number
    here = read_numbered key_of (codes "c") step.number refl fits

    by : (wide : Bool) → Atoms (5 * 2 ^ 64 + (step.number + 1)) (6 * 2 ^ 64) (map current_name (wide_steps by_name steps))
        → Atoms (5 * 2 ^ 64 + low) (6 * 2 ^ 64) (map current_name (cond wide (step ∷ wide_steps by_name steps) (wide_steps by_name steps)))
    by false more = risen_wider is_atom_name (5 * 2 ^ 64 + (step.number + 1)) (6 * 2 ^ 64) (5 * 2 ^ 64 + low) (6 * 2 ^ 64) _ (let least = n.1 in omega (arith, least)) (omega arith) more
    by true more =
        let least = n.1 in
        let first = here in (
          omega (arith, first, least),
          atom_numbered (codes "c") (λ digits. refl) refl step.number fits,
          risen_wider is_atom_name (5 * 2 ^ 64 + (step.number + 1)) (6 * 2 ^ 64) (key (current_name step) + 1) (6 * 2 ^ 64) _ (omega (arith, first)) (omega arith) more,
        )

questions_risen : (wide : List GroundStep) → Atoms (4 * 2 ^ 64) (5 * 2 ^ 64) (question_names wide)
questions_risen [] = omega arith
questions_risen (step ∷ steps) = risen_wider is_atom_name (4 * 2 ^ 64 + 0) (4 * 2 ^ 64 + (0 + 201)) (4 * 2 ^ 64) (5 * 2 ^ 64) (all_numbered (codes "h") 0 201) (omega arith) (omega arith)
    (risen_numbered is_atom_name (4 * 2 ^ 64) (codes "h") refl (λ n. refl) (atom_numbered (codes "h") (λ digits. refl) refl) 201 0 (omega arith))

atoms_risen : (by_name : List ℕ) (count : ℕ) (steps : List GroundStep) → rises 0 count steps ≡ true → count < 2 ^ 32 → (sources watched chain : ℕ) → sources ≤ 2 ^ 64 → watched ≤ 2 ^ 64 → chain ≤ 2 ^ 64
    → Atoms 0 (6 * 2 ^ 64) (atom_names sources watched chain (wide_steps by_name steps))
atoms_risen by_name count steps rising small sources watched chain first second third =
    risen_join is_atom_name 0 (2 ^ 64) (6 * 2 ^ 64) (all_numbered (codes "f") 0 sources) _
    (risen_wider is_atom_name (0 + 0) (0 + (0 + sources)) 0 (2 ^ 64) (all_numbered (codes "f") 0 sources) (omega arith) (omega (arith, first))
    (risen_numbered is_atom_name 0 (codes "f") refl (λ n. omega arith) (atom_numbered (codes "f") (λ digits. refl) refl) sources 0 (omega (arith, first))))
    (risen_join is_atom_name (2 ^ 64) (2 * 2 ^ 64) (6 * 2 ^ 64) (all_numbered (codes "m") 0 watched) _
    (risen_wider is_atom_name (2 ^ 64 + 0) (2 ^ 64 + (0 + watched)) (2 ^ 64) (2 * 2 ^ 64) (all_numbered (codes "m") 0 watched) (omega arith) (omega (arith, second))
    (risen_numbered is_atom_name (2 ^ 64) (codes "m") refl (λ n. refl) (atom_numbered (codes "m") (λ digits. refl) refl) watched 0 (omega (arith, second))))
    (risen_join is_atom_name (2 * 2 ^ 64) (3 * 2 ^ 64) (6 * 2 ^ 64) (codes "go" ∷ []) _
    (risen_one is_atom_name (codes "go") (2 * 2 ^ 64) (2 * 2 ^ 64) (3 * 2 ^ 64) refl refl (omega arith) (omega arith))
    (risen_join is_atom_name (3 * 2 ^ 64) (4 * 2 ^ 64) (6 * 2 ^ 64) (all_numbered (codes "e") 0 chain) _
    (risen_wider is_atom_name (3 * 2 ^ 64 + 0) (3 * 2 ^ 64 + (0 + chain)) (3 * 2 ^ 64) (4 * 2 ^ 64) (all_numbered (codes "e") 0 chain) (omega arith) (omega (arith, third))
    (risen_numbered is_atom_name (3 * 2 ^ 64) (codes "e") refl (λ n. refl) (atom_numbered (codes "e") (λ digits. refl) refl) chain 0 (omega (arith, third))))
    (risen_join is_atom_name (4 * 2 ^ 64) (5 * 2 ^ 64) (6 * 2 ^ 64) (question_names (wide_steps by_name steps)) _
    (questions_risen (wide_steps by_name steps))
    (risen_wider is_atom_name (5 * 2 ^ 64 + 0) (6 * 2 ^ 64) (5 * 2 ^ 64) (6 * 2 ^ 64) _ (omega arith) (omega arith) (currents_risen by_name count 0 steps rising small (omega arith)))))))

-- ---- the target

module _ (G : GroundTask) (weights : Weights) (X : Target) (made : Assembly) (ready : IsReady G weights) (is : IsAssembled G weights X made) where
  predicates_risen : Atoms 0 (6 * 2 ^ 64) X.predicates
  predicates_risen = subst (Atoms 0 (6 * 2 ^ 64)) (sym is.names)
      (let s = size_is G weights X made ready is in let r = is.room in let q = is.questions in let i = inside G weights X made ready is in
      atoms_risen weights.by_name G.step_count G.steps ready.numbers is.numbers G.atoms (made.go - G.atoms) (length G.soft + 1) (omega (arith, s, r, q, i)) (omega (arith, s, r, q, i)) (omega (arith, s, r, q, i)))

  actions_risen : Actions (6 * 2 ^ 64) (9 * 2 ^ 64) (action_names X)
  actions_risen = subst (Actions (6 * 2 ^ 64) (9 * 2 ^ 64)) (sym (ap names is.actions ∙ map-append (λ (action : TargetAction). action.name) made.actions made.phase.actions))
      (risen_join is_action_name (6 * 2 ^ 64) (7 * 2 ^ 64) (9 * 2 ^ 64) (names made.actions) (names made.phase.actions)
      (risen_wider is_action_name (from_step 0) (7 * 2 ^ 64) (6 * 2 ^ 64) (7 * 2 ^ 64) (names made.actions) (omega arith) (omega arith)
      (steps_risen made.go made.first weights (take (length G.hard) made.monitors) made.monitors G.step_count 0 (made.first + 201) made.last G.steps made.actions is.steps ready.numbers is.numbers (omega arith) ready.limits))
      (phase_risen made.go made.finish made.instances made.phase.actions is.phase.settles (let e = end_count weights.by_name G.soft (drop (length G.hard) made.monitors) made.instances is.ends in let f = ready.few in omega (arith, e, f))))

  atoms_good : list_all is_atom_name X.predicates ≡ true
  atoms_good = all_good is_atom_name 0 (6 * 2 ^ 64) X.predicates predicates_risen

  actions_good : list_all is_action_name (action_names X) ≡ true
  actions_good = all_good is_action_name (6 * 2 ^ 64) (9 * 2 ^ 64) (action_names X) actions_risen

  action_parts : (name : Name) → is_action_name name ≡ true → (is_name name ≡ true) × (list_all is_lowered name ≡ true) × (not (ends_with_c_number name) ≡ true)
  action_parts name good = let both = and_parts (is_name name) _ good in let rest = and_parts (list_all is_lowered name) _ both.1 in (both.0, rest.0, rest.1)

  pub named : IsNamed X
  named = record {
    predicates = all_weaker is_atom_name is_predicate_name (λ name good. (and_parts (is_predicate_name name) _ good).0) X.predicates atoms_good;
    actions = all_weaker is_action_name is_name (λ name good. (action_parts name good).0) (action_names X) actions_good;
    spelled = list_all-append (list_all is_lowered) X.predicates (action_names X) ∙ and_from _ _
        (all_weaker is_atom_name (list_all is_lowered) (λ name good. (and_parts (is_predicate_name name) _ good).1) X.predicates atoms_good)
        (all_weaker is_action_name (list_all is_lowered) (λ name good. (action_parts name good).1) (action_names X) actions_good);
    different = risen_differ (λ name. true) 0 (9 * 2 ^ 64) (X.predicates ++ action_names X)
        (risen_join (λ name. true) 0 (6 * 2 ^ 64) (9 * 2 ^ 64) X.predicates (action_names X)
        (risen_weaker is_atom_name (λ name. true) (λ name good. refl) 0 (6 * 2 ^ 64) X.predicates predicates_risen)
        (risen_weaker is_action_name (λ name. true) (λ name good. refl) (6 * 2 ^ 64) (9 * 2 ^ 64) (action_names X) actions_risen));
    endings = all_weaker is_action_name (λ name. not (ends_with_c_number name)) (λ name good. (action_parts name good).2) (action_names X) actions_good;
  }
