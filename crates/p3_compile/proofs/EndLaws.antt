-- The end phase of a frame.
use Rattle.std.proofs.Common.{◌≡◌, ◌∙◌, ℕ, suc, ◌+◌, ◌≤◌, nat_le, nat_lt, Bool, true, false, ◌&&◌, List, [], ◌∷◌, ◌++◌, length, map, take, drop, refl, sym, ap, subst, arith}
use Rattle.std.specs.List.{list_all}
use Rattle.std.proofs.Math.Bool.{Bool-set}
use Rattle.std.proofs.Math.Logic.{∥∥₁_elim}
use Rattle.std.proofs.lemmas.Bool.{and_parts, and_from, ltb-true, lt-ltb}
use Rattle.std.proofs.lemmas.List.{length-append, length-map, take-append-drop}
use Rattle.std.proofs.lemmas.List.Folds.{list_all-append, list_all-map}
use Rattle.p3_formula.specs.Conditions.{is_tidy_action}
use Rattle.p3_formula.specs.Forms.{State, has_atoms, is_below, truth}
use Rattle.p3_formula.specs.Kept.{atom_count}
use Rattle.p3_base.specs.Operators.{formulas_of}
use Rattle.p3_formula.specs.Tidy.{is_tidy}
use Rattle.p3_formula.specs.declared.form.Change.{Change}
use Rattle.p3_formula.specs.declared.form.Form.{Form}
use Rattle.p3_formula.specs.GroundModal.{GroundModal}
use Rattle.p3_formula.specs.declared.modal.GroundSoft.{GroundSoft}
use Rattle.p3_formula.specs.declared.target.TargetAction.{TargetAction}
use Rattle.p3_formula.specs.declared.task.GroundTask.{GroundTask}
use Rattle.p3_formula.proofs.FormLemmas.{truth-And, has_atoms-And}
use Rattle.p3_endphase.specs.Ends.{AreActions, AreBelow, IsMove, Settles}
use Rattle.p3_endphase.specs.declared.phase.SoftEnd.{SoftEnd}
use Rattle.p3_monitors.specs.declared.monitoring.Monitor.{Monitor}
use Rattle.p3_simulation.specs.Parts.{AreBefore}
use Rattle.p3_simulation.specs.Monitoring.{AreMonitors, AreSoftEnds, NoneLeft, OneMore, all_accept, all_modals, modals}
use Rattle.p3_compile.specs.Compiling.{IsFrameOf}
use Rattle.p3_compile.specs.declared.stepping.Frame.{Frame}
use Rattle.p3_compile.specs.Ending.{accepting, soft_ends}
use Rattle.p3_compile.specs.Monitored.{soft_modals}
use Rattle.p3_compile.proofs.EndLists.{modals-take, modals-drop}

-- ---- the monitors of a frame

modals_are : (start : State) (from to : ℕ) (constraints : List GroundModal) (monitors : List Monitor) → AreMonitors start from to constraints monitors → modals monitors ≡ constraints
modals_are start from to [] [] are = refl
modals_are start from to [] (monitor ∷ monitors) are = absurd are
modals_are start from to (modal ∷ constraints) [] are = absurd are
modals_are start from to (modal ∷ constraints) (monitor ∷ monitors) are = λ i. are.0.watches i ∷ modals_are start (from + atom_count modal) to constraints monitors are.1 i

module _ (G : GroundTask) (frame : Frame) (is : IsFrameOf G frame) where
  pub all_are : modals frame.monitors ≡ G.hard ++ soft_modals G.soft
  all_are = modals_are G.initial G.atoms frame.go (all_modals G) frame.monitors is.monitors

  pub hard_inside : length G.hard ≤ length frame.monitors
  hard_inside =
      let all = sym (length-map frame.monitors (λ (monitor : Monitor). monitor.modal)) ∙ ap length all_are ∙ length-append G.hard (soft_modals G.soft) in
      omega (arith, all)

  pub soft_are : modals (drop (length G.hard) frame.monitors) ≡ soft_modals G.soft
  soft_are = modals-drop frame.monitors G.hard (soft_modals G.soft) all_are

-- ---- what is accepted

pub accepting_truth : (state : State) (parts : List Form) (monitors : List Monitor) → truth state (accepting parts monitors) ≡ (list_all (truth state) parts && all_accept state monitors)
accepting_truth state parts monitors =
    truth-And state (parts ++ map (λ (monitor : Monitor). monitor.accept) monitors)
    ∙ list_all-append (truth state) parts (map (λ (monitor : Monitor). monitor.accept) monitors)
    ∙ ap (λ b. list_all (truth state) parts && b) (list_all-map (truth state) (λ (monitor : Monitor). monitor.accept) monitors)

pub finish_truth : (state : State) (goal : Form) (monitors : List Monitor) → truth state (accepting (goal ∷ []) monitors) ≡ (truth state goal && all_accept state monitors)
finish_truth state goal monitors = accepting_truth state (goal ∷ []) monitors ∙ ap (λ b. b && all_accept state monitors) (and_last (truth state goal))
  where
    and_last : (b : Bool) → (b && true) ≡ b
    and_last true = refl
    and_last false = refl

module _ (go : ℕ) where
  accept_below : (monitor : Monitor) → list_all (has_atoms (λ atom. nat_lt atom go)) (formulas_of monitor.modal) ≡ true → monitor.base + atom_count monitor.modal ≤ go → is_below go monitor.accept ≡ true
  accept_below monitor below end = ∥∥₁_elim monitor.atoms (Bool-set _ _)
      (λ has. has (λ atom. nat_lt atom go) below (λ atom own. let less = ltb-true atom (monitor.base + atom_count monitor.modal) (and_parts (nat_le monitor.base atom) _ own).1 in lt-ltb atom go (omega (arith, less, end))))

  accepts_below : (monitors : List Monitor) → AreBefore go go monitors → list_all (is_below go) (map (λ (monitor : Monitor). monitor.accept) monitors) ≡ true
  accepts_below [] before = refl
  accepts_below (monitor ∷ monitors) before = and_from (is_below go monitor.accept) _ (accept_below monitor before.0 before.1) (accepts_below monitors before.2)

  pub accepting_below : (parts : List Form) (monitors : List Monitor) → list_all (is_below go) parts ≡ true → AreBefore go go monitors → is_below go (accepting parts monitors) ≡ true
  accepting_below parts monitors below before =
      has_atoms-And (λ atom. nat_lt atom go) (parts ++ map (λ (monitor : Monitor). monitor.accept) monitors)
      ∙ list_all-append (is_below go) parts (map (λ (monitor : Monitor). monitor.accept) monitors)
      ∙ and_from (list_all (is_below go) parts) _ below (accepts_below monitors before)

  before_parts : (front back : List Monitor) → AreBefore go go (front ++ back) → AreBefore go go front × AreBefore go go back
  before_parts [] back before = (tt, before)
  before_parts (monitor ∷ front) back before = let rest = before_parts front back before.2 in ((before.0, before.1, rest.0), rest.1)

  pub cut_before : (count : ℕ) (monitors : List Monitor) → AreBefore go go monitors → AreBefore go go (take count monitors) × AreBefore go go (drop count monitors)
  cut_before count monitors before = before_parts (take count monitors) (drop count monitors) (subst (AreBefore go go) (sym (take-append-drop count monitors)) before)

  pub ends_below : (by_name : List ℕ) (softs : List GroundSoft) (monitors : List Monitor) → AreBefore go go monitors → AreBelow go (soft_ends by_name softs monitors)
  ends_below by_name [] monitors before = tt
  ends_below by_name (soft ∷ softs) monitors before =
      let cut = cut_before (length soft.parts) monitors before in
      (accepting_below [] (take (length soft.parts) monitors) refl cut.0, ends_below by_name softs (drop (length soft.parts) monitors) cut.1)

-- ---- what is settled

pub are_soft_ends : (by_name : List ℕ) (softs : List GroundSoft) (monitors : List Monitor) → modals monitors ≡ soft_modals softs → AreSoftEnds by_name softs monitors (soft_ends by_name softs monitors)
are_soft_ends by_name [] [] are = NoneLeft
are_soft_ends by_name [] (monitor ∷ monitors) are = absurd (cc)
are_soft_ends by_name (soft ∷ softs) monitors are =
    subst (λ list. AreSoftEnds by_name (soft ∷ softs) list (soft_ends by_name (soft ∷ softs) monitors)) (take-append-drop (length soft.parts) monitors)
    (OneMore soft softs (take (length soft.parts) monitors) (drop (length soft.parts) monitors) _ (soft_ends by_name softs (drop (length soft.parts) monitors))
    (record { parts = modals-take monitors soft.parts (soft_modals softs) are; accepts = λ state. accepting_truth state [] (take (length soft.parts) monitors); weighs = refl })
    (are_soft_ends by_name softs (drop (length soft.parts) monitors) (modals-drop monitors soft.parts (soft_modals softs) are)))

pub ends_count : (by_name : List ℕ) (softs : List GroundSoft) (monitors : List Monitor) → length (soft_ends by_name softs monitors) ≡ length softs
ends_count by_name [] monitors = refl
ends_count by_name (soft ∷ softs) monitors = ap suc (ends_count by_name softs (drop (length soft.parts) monitors))

-- ---- its actions are tidy

move_tidy : (atom cost : ℕ) (source : Form) (condition : State → Bool) (name : List ℕ) (action : TargetAction) → IsMove atom source condition name cost action → is_tidy_action action ≡ true
move_tidy atom cost source condition name action move =
    and_from (is_tidy action.pre) _ move.tidy (ap (list_all (λ (change : Change). is_tidy change.cond)) move.moves)

settles_tidy : (go number : ℕ) (instances : List SoftEnd) (actions : List TargetAction) → Settles go number instances actions → list_all is_tidy_action actions ≡ true
settles_tidy go number [] [] settles = refl
settles_tidy go number [] (action ∷ actions) settles = absurd settles
settles_tidy go number (instance ∷ instances) [] settles = absurd settles
settles_tidy go number (instance ∷ instances) (action ∷ []) settles = absurd settles
settles_tidy go number (instance ∷ instances) (collect ∷ forgo ∷ actions) settles =
    and_from (is_tidy_action collect) _ (move_tidy _ _ _ _ _ collect settles.0.collects)
    (and_from (is_tidy_action forgo) _ (move_tidy _ _ _ _ _ forgo settles.0.forgoes) (settles_tidy go (number + 1) instances actions settles.1))

pub phase_tidy : (go : ℕ) (finish : Form) (instances : List SoftEnd) (actions : List TargetAction) → AreActions go finish instances actions → list_all is_tidy_action actions ≡ true
phase_tidy go finish instances [] are = absurd are
phase_tidy go finish instances (action ∷ actions) are = and_from (is_tidy_action action) _ (move_tidy _ _ _ _ _ action are.0) (settles_tidy go 0 instances actions are.1)
