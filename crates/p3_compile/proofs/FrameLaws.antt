-- What the names and monitors of a task make of a frame.
use Rattle.std.proofs.Common.{◌≡◌, ◌∙◌, ℕ, ◌+◌, ◌-◌, ◌<◌, ◌≤◌, ◌^◌, nat_lt, Bool, true, false, ◌&&◌, ◌||◌, cond, List, [], ◌∷◌, ◌++◌, length, refl, sym, ap, subst, arith, append_assoc, length-append, true≢false}
use Rattle.std.specs.Prelude.{codes}
use Rattle.std.specs.List.{All, list_all, list_any}
use Rattle.std.specs.List.Sorted.{IsPermutation}
use Rattle.std.proofs.lemmas.Bool.{and_parts, ltb-true, lt-ltb}
use Rattle.std.proofs.lemmas.List.Elements.{All-nil, All-cons}
use Rattle.std.proofs.lemmas.List.Folds.{list_all-append}
use Rattle.std.proofs.lemmas.List.FromFn.{length-map-range_with_len}
use Rattle.p3_base.specs.Words.{Name}
use Rattle.p3_formula.specs.Conditions.{HasAtomsBelow, IsReady}
use Rattle.p3_formula.specs.Forms.{State}
use Rattle.p3_formula.specs.Kept.{atom_count}
use Rattle.p3_formula.specs.Modals.{is_modal_below}
use Rattle.p3_base.specs.Operators.{formulas_of}
use Rattle.p3_formula.specs.GroundModal.{GroundModal}
use Rattle.p3_formula.specs.declared.form.Form.{Form}
use Rattle.p3_formula.specs.declared.modal.GroundSoft.{GroundSoft}
use Rattle.p3_formula.specs.declared.target.Weights.{Weights}
use Rattle.p3_formula.specs.declared.task.GroundStep.{GroundStep}
use Rattle.p3_formula.specs.declared.task.GroundTask.{GroundTask}
use Rattle.p3_formula.proofs.FormLemmas.{has_atoms-True}
use Rattle.p3_formula.proofs.ReadAtoms.{all_have_more_of}
use Rattle.p3_monitors.specs.declared.monitoring.Monitor.{Monitor}
use Rattle.p3_simulation.specs.Naming.{all_numbered, is_wide, numbered, question_names, wide_steps}
use Rattle.p3_simulation.specs.Parts.{AreBefore}
use Rattle.p3_simulation.specs.Monitoring.{AreMonitors, all_modals}
use Rattle.p3_simulation.proofs.Bounds.{all_weaker}
use Rattle.p3_simulation.proofs.Monitored.{are_before, monitors_rise}
use Rattle.p3_compile.specs.Compiling.{IsReadyTask, IsFrameOf, IsFramed, with_goal, without_goal}
use Rattle.p3_regress.specs.Readers.{AreRising}
use Rattle.p3_compile.specs.Readers.{AreByAtom, readers_of}
use Rattle.p3_compile.specs.Monitored.{IsWatched, monitor_atoms, named_more, soft_modals}
use Rattle.p3_compile.specs.declared.stepping.Frame.{Frame}
use Rattle.p3_compile.proofs.NumberedNames.{length-named, named-join}
use Rattle.p3_compile.proofs.MonitoredLists.{monitors-append}

-- ---- the frame

module _ (G : GroundTask) (frame : Frame) (n1 n2 n3 n4 : List Name) (ready : IsReadyTask G) (sources : n1 ≡ all_numbered (codes "f") 0 G.atoms) (watched : IsWatched G n1 n2 frame.monitors) (running : frame.go ≡ length n2)
    (named_go : n3 ≡ n2 ++ codes "go" ∷ []) (named_chain : n4 ≡ named_more (codes "e") (length n3) n3 (length G.soft + 1)) (end : frame.first ≡ length n4) (hard : frame.hard ≡ length G.hard) where
  first_count : length n1 ≡ G.atoms
  first_count = ap length sources ∙ length-map-range_with_len (numbered (codes "f")) 0 G.atoms

  hard_count : length watched.between ≡ length n1 + monitor_atoms G.hard
  hard_count = ap length watched.hard.names ∙ length-named (codes "m") n1 (length G.initial) (monitor_atoms G.hard)

  soft_count : length n2 ≡ length watched.between + monitor_atoms (soft_modals G.soft)
  soft_count = ap length watched.soft.names ∙ length-named (codes "m") watched.between (length G.initial) (monitor_atoms (soft_modals G.soft))

  behind : length G.initial ≤ length n1
  behind = let b = ready.bits in let c = first_count in omega (arith, b, c)

  no_numbers : (n m : ℕ) → n ≡ m → n - m ≡ 0
  no_numbers n m same = omega (arith, same)

  watched_names : n2 ≡ all_numbered (codes "f") 0 G.atoms ++ all_numbered (codes "m") 0 (frame.go - G.atoms)
  watched_names =
      watched.soft.names
      ∙ ap (λ names. named_more (codes "m") (length G.initial) names (monitor_atoms (soft_modals G.soft))) watched.hard.names
      ∙ named-join (codes "m") n1 (length G.initial) (monitor_atoms G.hard) (monitor_atoms (soft_modals G.soft)) behind
      ∙ (λ i. sources i ++ all_numbered (codes "m") (no_numbers (length n1) (length G.initial) (first_count ∙ sym ready.bits) i) (count i))
    where
      count : monitor_atoms G.hard + monitor_atoms (soft_modals G.soft) ≡ frame.go - G.atoms
      count = let a = first_count in let b = hard_count in let c = soft_count in omega (arith, a, b, c, running)

  chain_names : n4 ≡ (n2 ++ codes "go" ∷ []) ++ all_numbered (codes "e") 0 (length G.soft + 1)
  chain_names = named_chain ∙ (λ i. named_go i ++ all_numbered (codes "e") (no_numbers (length n3) (length n3) refl i) (length G.soft + 1))

  chain_count : length n4 ≡ length n2 + (length G.soft + 2)
  chain_count =
      ap length chain_names ∙ length-append (n2 ++ codes "go" ∷ []) (all_numbered (codes "e") 0 (length G.soft + 1))
      ∙ (let a = length-append n2 (codes "go" ∷ []) in let b = length-map-range_with_len (numbered (codes "e")) 0 (length G.soft + 1) in omega (arith, a, b))

  pub framed_is : IsPermutation (readers_of frame.monitors) frame.readers.items → AreRising frame.readers.items → AreByAtom frame.monitors frame.by_atom.items → frame.first < 2 ^ 64 → IsFramed G n4 frame
  framed_is read rising by_atom room = record {
    is = record {
      monitors = subst (AreMonitors G.initial G.atoms frame.go (all_modals G)) (sym (watched.soft.are ∙ ap (λ list. list ++ watched.soft.monitors) watched.hard.are))
          (monitors-append G.initial G.atoms (length watched.between) frame.go G.hard (soft_modals G.soft) watched.hard.monitors watched.soft.monitors
          (subst (λ from. AreMonitors G.initial from (length watched.between) G.hard watched.hard.monitors) first_count
          (subst (λ to. AreMonitors G.initial (length n1) to G.hard watched.hard.monitors) (sym hard_count) watched.hard.made))
          (subst (λ to. AreMonitors G.initial (length watched.between) to (soft_modals G.soft) watched.soft.monitors) (sym soft_count ∙ sym running) watched.soft.made));
      hard = hard;
      read = read;
      rising = rising;
      by_atom = by_atom;
      questions = end ∙ chain_count ∙ ap (λ n. n + (length G.soft + 2)) (sym running);
      room = room;
    };
    named = chain_names
        ∙ ap (λ names. (names ++ codes "go" ∷ []) ++ all_numbered (codes "e") 0 (length G.soft + 1)) watched_names
        ∙ append_assoc (all_numbered (codes "f") 0 G.atoms ++ all_numbered (codes "m") 0 (frame.go - G.atoms)) (codes "go" ∷ []) (all_numbered (codes "e") 0 (length G.soft + 1))
        ∙ append_assoc (all_numbered (codes "f") 0 G.atoms) (all_numbered (codes "m") 0 (frame.go - G.atoms)) (codes "go" ∷ all_numbered (codes "e") 0 (length G.soft + 1));
    counted = sym end;
  }

-- ---- its monitors

softs_below : (bound : ℕ) (softs : List GroundSoft) → list_all (λ (soft : GroundSoft). list_all (is_modal_below bound) soft.parts) softs ≡ true → list_all (is_modal_below bound) (soft_modals softs) ≡ true
softs_below bound [] below = refl
softs_below bound (soft ∷ softs) below =
    let parts = and_parts (list_all (is_modal_below bound) soft.parts) _ below in
    list_all-append (is_modal_below bound) soft.parts (soft_modals softs) ∙ (λ i. parts.0 i && softs_below bound softs parts.1 i)

modal_more : (low high : ℕ) → low ≤ high → (modal : GroundModal) → is_modal_below low modal ≡ true → is_modal_below high modal ≡ true
modal_more low high wider modal = all_have_more_of (λ atom. nat_lt atom low) (λ atom. nat_lt atom high) (λ atom less. let l = ltb-true atom low less in lt-ltb atom high (omega (arith, l, wider))) (formulas_of modal)

bases : (start : State) (low from to : ℕ) (modals : List GroundModal) (monitors : List Monitor) → AreMonitors start from to modals monitors → low ≤ from → All (λ (monitor : Monitor). low ≤ monitor.base) monitors
bases start low from to [] [] are le = All-nil (λ (monitor : Monitor). low ≤ monitor.base)
bases start low from to [] (monitor ∷ monitors) are le = absurd are
bases start low from to (modal ∷ modals) [] are le = absurd are
bases start low from to (modal ∷ modals) (monitor ∷ monitors) are le =
    All-cons (λ (monitor : Monitor). low ≤ monitor.base) monitor monitors (let base = are.0.base in omega (arith, base, le)) (bases start low (from + atom_count modal) to modals monitors are.1 (omega (arith, le)))

module _ (G : GroundTask) (frame : Frame) (is : IsFrameOf G frame) where
  pub sources_inside : G.atoms ≤ frame.go
  sources_inside = monitors_rise G.initial G.atoms frame.go (all_modals G) frame.monitors is.monitors

  pub frame_behind : All (λ (monitor : Monitor). G.atoms ≤ monitor.base) frame.monitors
  frame_behind = bases G.initial G.atoms G.atoms frame.go (all_modals G) frame.monitors is.monitors (omega arith)

  pub frame_before : HasAtomsBelow G → AreBefore frame.go frame.go frame.monitors
  frame_before atoms = are_before G.initial frame.go G.atoms frame.go (all_modals G) frame.monitors is.monitors
      (all_weaker (is_modal_below G.atoms) (is_modal_below frame.go) (modal_more G.atoms frame.go sources_inside) (all_modals G)
      (list_all-append (is_modal_below G.atoms) G.hard (soft_modals G.soft) ∙ (λ i. atoms.hard i && softs_below G.atoms G.soft atoms.soft i)))

-- ---- the question atoms

pub some_questions : (by_name : List ℕ) (steps : List GroundStep) → list_any (is_wide by_name) steps ≡ true → question_names (wide_steps by_name steps) ≡ all_numbered (codes "h") 0 201
some_questions by_name [] some = absurd (true≢false (sym some))
some_questions by_name (step ∷ steps) some = by (is_wide by_name step) refl (some_questions by_name steps)
  where
    by : (b : Bool) → is_wide by_name step ≡ b → (list_any (is_wide by_name) steps ≡ true → question_names (wide_steps by_name steps) ≡ all_numbered (codes "h") 0 201)
        → question_names (cond (is_wide by_name step) (step ∷ wide_steps by_name steps) (wide_steps by_name steps)) ≡ all_numbered (codes "h") 0 201
    by true e rest = ap (λ b. question_names (cond b (step ∷ wide_steps by_name steps) (wide_steps by_name steps))) e
    by false e rest = ap (λ b. question_names (cond b (step ∷ wide_steps by_name steps) (wide_steps by_name steps))) e ∙ rest (sym (ap (λ b. b || list_any (is_wide by_name) steps) e) ∙ some)

pub no_questions : (by_name : List ℕ) (steps : List GroundStep) → list_any (is_wide by_name) steps ≡ false → wide_steps by_name steps ≡ []
no_questions by_name [] none = refl
no_questions by_name (step ∷ steps) none = by (is_wide by_name step) refl (no_questions by_name steps)
  where
    by : (b : Bool) → is_wide by_name step ≡ b → (list_any (is_wide by_name) steps ≡ false → wide_steps by_name steps ≡ []) → cond (is_wide by_name step) (step ∷ wide_steps by_name steps) (wide_steps by_name steps) ≡ []
    by true e rest = absurd (true≢false (sym (ap (λ b. b || list_any (is_wide by_name) steps) e) ∙ none))
    by false e rest = ap (λ b. cond b (step ∷ wide_steps by_name steps) (wide_steps by_name steps)) e ∙ rest (sym (ap (λ b. b || list_any (is_wide by_name) steps) e) ∙ none)

-- ---- a task whose goal is taken

pub frame_with_goal : (goal : Form) (G : GroundTask) (frame : Frame) → IsFrameOf G frame → IsFrameOf (with_goal goal G) frame
frame_with_goal goal G frame is = record { monitors = is.monitors; hard = is.hard; read = is.read; rising = is.rising; by_atom = is.by_atom; questions = is.questions; room = is.room }

pub ready_without_goal : (G : GroundTask) (weights : Weights) → IsReady G weights → IsReady (without_goal G) weights
ready_without_goal G weights ready = record {
  atoms = record { steps = ready.atoms.steps; goal = has_atoms-True (λ atom. nat_lt atom G.atoms); hard = ready.atoms.hard; soft = ready.atoms.soft };
  bits = ready.bits;
  numbers = ready.numbers;
  names = record { steps = ready.names.steps; soft = ready.names.soft };
  few = ready.few;
  limits = ready.limits;
}
