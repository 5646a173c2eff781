-- What holds of every move holds of every action of the phase.
use Rattle.std.proofs.Common.{◌≡◌, ◌∙◌, ℕ, ◌+◌, ◌<◌, Bool, true, ◌&&◌, List, [], ◌∷◌, length, refl, sym, ap, subst, arith}
use Rattle.std.specs.Prelude.{All, IsTrue}
use Rattle.std.specs.List.{list_all}
use Rattle.std.proofs.lemmas.Bool.{and_parts, and_from}
use Rattle.std.proofs.lemmas.List.Elements.{All-nil, All-cons, All-head, All-tail, All-contains}
use Rattle.p3_formula.specs.Constructors.{sets, clears}
use Rattle.p3_formula.specs.Forms.{State, is_set, truth, has_atoms}
use Rattle.p3_formula.specs.Targets.{has_change_atoms, has_action_atoms}
use Rattle.p3_formula.specs.Tidy.{is_tidy}
use Rattle.p3_formula.specs.declared.form.Form.{Form}
use Rattle.p3_formula.specs.declared.target.TargetAction.{TargetAction}
use Rattle.p3_formula.proofs.FormLemmas.{has_atoms-True}
use Rattle.p3_endphase.specs.Ends.{moving, IsMove, Settles, AreActions, IsEndPhase, IsGuarded, MovesForward, AreAllowed}
use Rattle.p3_endphase.specs.declared.phase.EndPhase.{EndPhase}
use Rattle.p3_endphase.specs.declared.phase.SoftEnd.{SoftEnd}

-- every action is a move from a place before the last one, those behind the first from one of the chain
module _ (first total : ℕ) (P : TargetAction → Type 0) (Q : Form → Type 0) where
  abbrev Holds : ℕ → Type 0
  Holds place = (cost : ℕ) (source : Form) (condition : State → Bool) (name : List ℕ) (action : TargetAction) → place < total → Q source → IsMove (first + place) source condition name cost action → P action

  settled_all : ((number : ℕ) → Holds (number + 1)) → (number : ℕ) (instances : List SoftEnd) (actions : List TargetAction) → Settles first number instances actions → number + length instances < total
      → All (λ (instance : SoftEnd). Q instance.accept) instances → All P actions
  settled_all move number [] [] settles few all = All-nil P
  settled_all move number [] (action ∷ actions) settles few all = absurd settles
  settled_all move number (instance ∷ instances) [] settles few all = absurd settles
  settled_all move number (instance ∷ instances) (action ∷ []) settles few all = absurd settles
  settled_all move number (instance ∷ instances) (collect ∷ forgo ∷ actions) settles few all =
      let here = All-head (λ (one : SoftEnd). Q one.accept) instance instances all in
      All-cons P collect (forgo ∷ actions) (move number _ instance.accept _ _ collect (omega (arith, few)) here settles.0.collects)
      (All-cons P forgo actions (move number _ instance.accept _ _ forgo (omega (arith, few)) here settles.0.forgoes)
      (settled_all move (number + 1) instances actions settles.1 (omega (arith, few)) (All-tail (λ (one : SoftEnd). Q one.accept) instance instances all)))

  actions_all : ((place : ℕ) → Holds place) → (finish : Form) (instances : List SoftEnd) (actions : List TargetAction) → AreActions first finish instances actions → length instances < total
      → Q finish → All (λ (instance : SoftEnd). Q instance.accept) instances → All P actions
  actions_all move finish instances [] are few may all = absurd are
  actions_all move finish instances (action ∷ actions) are few may all =
      All-cons P action actions (move 0 _ finish _ _ action (omega (arith, few)) may are.0) (settled_all (λ number. move (number + 1)) 0 instances actions are.1 (omega (arith, few)) all)

-- nothing is asked of the forms
whatever : (instances : List SoftEnd) → All (λ (instance : SoftEnd). Unit {0}) instances
whatever instances k d within = tt

module _ (finish : Form) (instances : List SoftEnd) (first : ℕ) (phase : EndPhase) (shape : IsEndPhase finish instances first phase) where
  few : length instances < length instances + 1
  few = omega arith

  pub every_tidy : All (λ (action : TargetAction). IsTrue (is_tidy action.pre)) phase.actions
  every_tidy = actions_all first (length instances + 1) (λ (action : TargetAction). IsTrue (is_tidy action.pre)) (λ form. Unit {0})
      (λ place cost source condition name action small may move. move.tidy)
      finish instances phase.actions shape.settles few tt (whatever instances)

  pub every_forward : All (λ (action : TargetAction). All (MovesForward first phase.atoms) action.effects) phase.actions
  every_forward = actions_all first (length instances + 1) (λ (action : TargetAction). All (MovesForward first phase.atoms) action.effects) (λ form. Unit {0})
      (λ place cost source condition name action small may move. subst (All (MovesForward first phase.atoms)) (sym move.moves) (forward place small))
      finish instances phase.actions shape.settles few tt (whatever instances)
    where
      forward : (place : ℕ) → place < length instances + 1 → All (MovesForward first phase.atoms) (moving (first + place))
      forward place small =
          let count = shape.count in
          All-cons (MovesForward first phase.atoms) (clears (first + place)) (sets (first + place + 1) ∷ []) (record { low = omega arith; high = omega (arith, small, count); always = refl; forward = λ e. absurd (cc) })
          (All-cons (MovesForward first phase.atoms) (sets (first + place + 1)) [] (record { low = omega arith; high = omega (arith, small, count); always = refl; forward = λ e. omega arith }) (All-nil (MovesForward first phase.atoms)))

  pub every_atom : (allowed : ℕ → Bool) → AreAllowed allowed finish instances first phase.atoms → All (λ (action : TargetAction). IsTrue (has_action_atoms allowed action)) phase.actions
  every_atom allowed are = actions_all first (length instances + 1) (λ (action : TargetAction). IsTrue (has_action_atoms allowed action)) (λ form. has_atoms allowed form ≡ true)
      (λ place cost source condition name action small may move. and_from _ _ (move.reads allowed (here place small) may)
      (ap (list_all (has_change_atoms allowed)) move.moves ∙ (λ i. (here place small i && has_atoms-True allowed i) && ((next place small i && has_atoms-True allowed i) && true))))
      finish instances phase.actions shape.settles few are.may_finish are.may_accept
    where
      here : (place : ℕ) → place < length instances + 1 → allowed (first + place) ≡ true
      here place small = are.own place (let count = shape.count in omega (arith, small, count))

      next : (place : ℕ) → place < length instances + 1 → allowed (first + place + 1) ≡ true
      next place small = let same : first + place + 1 ≡ first + (place + 1) = omega arith in ap allowed same ∙ are.own (place + 1) (let count = shape.count in omega (arith, small, count))

  abbrev Chained : TargetAction → Type 0
  Chained action = (state : State) → truth state action.pre ≡ true → (place : ℕ) × (0 < place) × (place < phase.atoms) × (is_set state (first + place) ≡ true)

  chained : (actions : List TargetAction) → Settles first 0 instances actions → All Chained actions
  chained actions settles = settled_all first (length instances + 1) Chained (λ form. Unit {0})
      (λ number cost source condition name action small may move state fits.
      (number + 1, omega arith, (let count = shape.count in omega (arith, small, count)), (and_parts (is_set state (first + (number + 1))) (condition state) (sym (move.fits state) ∙ fits)).0))
      0 instances actions settles (omega arith) (whatever instances)

  pub every_guard : IsGuarded first phase.atoms phase.actions
  every_guard = by phase.actions shape.settles
    where
      by : (actions : List TargetAction) → AreActions first finish instances actions → IsGuarded first phase.atoms actions
      by [] are = absurd are
      by (action ∷ actions) are = record {
        begin = action;
        others = actions;
        are = refl;
        needs_running = λ state fits. let same : first + 0 ≡ first = omega arith in sym (ap (is_set state) same) ∙ (and_parts (is_set state (first + 0)) (truth state finish) (sym (are.0.fits state) ∙ fits)).0;
        need_chain = λ state other member. All-contains Chained actions other (chained actions are.1) member state;
      }
