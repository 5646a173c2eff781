-- A target made of the actions of all steps and those of the end phase simulates its ground task.
use Rattle.std.proofs.Common.{◌≡◌, ◌∙◌, inl, inr, ℕ, ◌+◌, ◌<◌, ◌≤◌, Bool, true, false, ◌||◌, List, [], ◌∷◌, length, refl, sym, ap, subst, arith}
use Rattle.std.specs.Prelude.{◌==◌, Contains}
use Rattle.std.proofs.lemmas.Bool.{and_parts, ne_eqb}
use Rattle.p3_formula.specs.Forms.{State, is_set, truth}
use Rattle.p3_formula.specs.Next.{after}
use Rattle.p3_formula.specs.declared.form.Form.{Form}
use Rattle.p3_formula.specs.GroundModal.{GroundModal}
use Rattle.p3_base.specs.declared.operator.Operator.TheVariants.{AtEnd, Always, Sometime, AtMostOnce, SometimeAfter, SometimeBefore}
use Rattle.p3_formula.specs.declared.target.TargetAction.{TargetAction}
use Rattle.p3_formula.proofs.NextLaws.{is_set-unchanged}
use Rattle.p3_endphase.specs.declared.phase.SoftEnd.{SoftEnd}
use Rattle.p3_endphase.specs.Ends.{moving, IsMove, Settles, AreActions}
use Rattle.p3_formula.specs.Kept.{AreAt, atom_count, watched}
use Rattle.p3_monitors.specs.Riders.{AreKept}
use Rattle.p3_formula.specs.Alike.{AgreeBelow}
use Rattle.p3_monitors.specs.declared.monitoring.Monitor.{Monitor}
use Rattle.p3_formula.proofs.ReadAtoms.{read_below}
use Rattle.p3_simulation.proofs.Walks.{head_or_tail, in_none}
use Rattle.p3_simulation.specs.Parts.{AreBefore}

-- ---- monitors are kept in states that agree on all lower atoms

pub watched_count : (W : List State) (modal : GroundModal) → length (watched W modal) ≡ atom_count modal
watched_count W (AtEnd f) = refl
watched_count W (Always f) = refl
watched_count W (Sometime f) = refl
watched_count W (AtMostOnce f) = refl
watched_count W (SometimeAfter f g) = refl
watched_count W (SometimeBefore f g) = refl

module _ (sources bound : ℕ) (inside : sources ≤ bound) (first second : State) (agree : AgreeBelow bound second first) (room : bound ≤ length second) where
  stand_still : (base : ℕ) (bits : List Bool) → base + length bits ≤ bound → AreAt base bits first → AreAt base bits second
  stand_still base [] within are = tt
  stand_still base (bit ∷ bits) within are = (agree base (omega (arith, within)) ∙ are.0, stand_still (base + 1) bits (omega (arith, within)) are.1)

  pub kept_still : (monitors : List Monitor) → AreBefore sources bound monitors → (W : List State) → AreKept monitors W first → AreKept monitors W second
  kept_still [] before W kept = tt
  kept_still (monitor ∷ monitors) (below, within, before) W (here, kept) =
      let count = watched_count W monitor.modal in (
        record {
          visited = here.visited;
          carries = record {
            agrees = λ atom read. agree atom (let low = read_below sources monitor.modal below atom read in omega (arith, low, inside)) ∙ here.carries.agrees atom read;
            room = omega (arith, count, within, room);
            stand = stand_still monitor.base (watched W monitor.modal) (omega (arith, count, within)) here.carries.stand;
          };
        },
        kept_still monitors before W kept,
      )

-- ---- the actions of the end phase

module _ (go count : ℕ) where
  -- it moves the atom that is set on
  pub record IsMoveOn (action : TargetAction) : Type 0 where
    pub place : ℕ
    pub within : place + 1 < count
    pub guarded : (bits : State) → truth bits action.pre ≡ true → is_set bits (go + place) ≡ true
    pub moves : action.effects ≡ moving (go + place)

  move_on : (place cost : ℕ) (source : Form) (condition : State → Bool) (name : List ℕ) (action : TargetAction) → place + 1 < count → IsMove (go + place) source condition name cost action → IsMoveOn action
  move_on place cost source condition name action within move = record {
    place = place;
    within = within;
    guarded = λ bits fits. (and_parts (is_set bits (go + place)) (condition bits) (sym (move.fits bits) ∙ fits)).0;
    moves = move.moves;
  }

  settles_move : (number : ℕ) (instances : List SoftEnd) (actions : List TargetAction) → Settles go number instances actions → number + length instances + 2 ≤ count → (action : TargetAction) → Contains actions action → IsMoveOn action
  settles_move number [] [] settles room action member = in_none action member
  settles_move number [] (other ∷ actions) settles room action member = absurd settles
  settles_move number (instance ∷ instances) [] settles room action member = absurd settles
  settles_move number (instance ∷ instances) (other ∷ []) settles room action member = absurd settles
  settles_move number (instance ∷ instances) (collect ∷ forgo ∷ actions) settles room action member = elim (head_or_tail collect (forgo ∷ actions) action member) [
    | inl is ↦ subst IsMoveOn is (move_on (number + 1) _ _ _ _ collect (omega (arith, room)) settles.0.collects)
    | inr other ↦ elim (head_or_tail forgo actions action other) [
      | inl is ↦ subst IsMoveOn is (move_on (number + 1) _ _ _ _ forgo (omega (arith, room)) settles.0.forgoes)
      | inr later ↦ settles_move (number + 1) instances actions settles.1 (omega (arith, room)) action later
    ]
  ]

  pub moves_on : (finish : Form) (instances : List SoftEnd) (actions : List TargetAction) → AreActions go finish instances actions → count ≡ length instances + 2 → (action : TargetAction) → Contains actions action → IsMoveOn action
  moves_on finish instances [] are room action member = absurd are
  moves_on finish instances (first ∷ actions) are room action member = elim (head_or_tail first actions action member) [
    | inl is ↦ subst IsMoveOn is (move_on 0 _ _ _ _ first (omega (arith, room)) are.0)
    | inr later ↦ settles_move 0 instances actions are.1 (omega (arith, room)) action later
  ]

  pub stays_clear : (bits : State) (action : TargetAction) → IsMoveOn action → (atom : ℕ) → go + count ≤ atom → is_set (after bits action.effects) atom ≡ is_set bits atom
  stays_clear bits action move atom far =
      let within = move.within in
      ap (λ effects. is_set (after bits effects) atom) move.moves
      ∙ is_set-unchanged bits (moving (go + move.place)) atom
      (let one : ((go + move.place) == atom) ≡ false = ne_eqb (go + move.place) atom (λ same. omega (arith, same, far, within)) in
      let two : ((go + move.place + 1) == atom) ≡ false = ne_eqb (go + move.place + 1) atom (λ same. omega (arith, same, far, within)) in
      λ i. one i || (two i || false))
