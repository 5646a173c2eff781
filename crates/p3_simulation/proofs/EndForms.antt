-- The form of `finish` and the instances of the end phase, by the accept forms of the monitors.
use Rattle.std.proofs.Common.{◌≡◌, ◌∙◌, ℕ, suc, ◌+◌, Bool, true, false, not, ◌&&◌, List, [], ◌∷◌, ◌++◌, length, take, sum_by, refl, sym, ap}
use Rattle.std.specs.Prelude.{if◌then◌else◌}
use Rattle.std.specs.List.{list_all}
use Rattle.std.proofs.Math.Bool.{Bool-set}
use Rattle.std.proofs.Math.Logic.{∥∥₁_elim}
use Rattle.std.proofs.lemmas.List.Sums.{sum_by-cons}
use Rattle.p3_formula.specs.Alike.{AgreeBelow}
use Rattle.p3_formula.specs.Forms.{State, truth, IsBelow}
use Rattle.p3_formula.specs.GroundPlans.{last_of}
use Rattle.p3_formula.specs.GroundSat.{ground_sat}
use Rattle.p3_formula.specs.Kept.{Kept, atom_count}
use Rattle.p3_formula.specs.Weighted.{named_weight}
use Rattle.p3_formula.specs.declared.form.Form.{Form}
use Rattle.p3_formula.specs.GroundModal.{GroundModal}
use Rattle.p3_formula.specs.declared.modal.GroundSoft.{GroundSoft}
use Rattle.p3_formula.specs.declared.target.Weights.{Weights}
use Rattle.p3_formula.specs.declared.task.GroundTask.{GroundTask}
use Rattle.p3_formula.proofs.KeptLaws.{accepts_sat}
use Rattle.p3_formula.proofs.NextLaws.{truth-below}
use Rattle.p3_endphase.specs.declared.phase.SoftEnd.{SoftEnd}
use Rattle.p3_endphase.specs.Ends.{weight_in, violation}
use Rattle.p3_monitors.specs.Riders.{AreKept}
use Rattle.p3_monitors.specs.declared.monitoring.Monitor.{Monitor}
use Rattle.p3_simulation.specs.Parts.{may_end, end_loss, weigh}
use Rattle.p3_simulation.specs.Monitoring.{AreMonitors, AreSoftEnds, NoneLeft, OneMore, modals, all_accept}

accepting : (monitor : Monitor) (W : List State) (state : State) → Kept monitor.base monitor.modal W state → truth state monitor.accept ≡ ground_sat W monitor.modal
accepting monitor W state kept = ∥∥₁_elim monitor.accepting (Bool-set _ _) (λ accepts. accepts state ∙ accepts_sat monitor.base monitor.modal W state kept)

-- the first monitors of a row watch the first constraints
pub front_modals : (initial : State) (from to : ℕ) (constraints others : List GroundModal) (monitors : List Monitor) → AreMonitors initial from to (constraints ++ others) monitors → modals (take (length constraints) monitors) ≡ constraints
front_modals initial from to [] others monitors are = refl
front_modals initial from to (modal ∷ constraints) others [] are = absurd are
front_modals initial from to (modal ∷ constraints) others (monitor ∷ monitors) are = λ i. are.0.watches i ∷ front_modals initial (from + atom_count modal) to constraints others monitors are.1 i

pub end_count : (by_name : List ℕ) (softs : List GroundSoft) (monitors : List Monitor) (instances : List SoftEnd) → AreSoftEnds by_name softs monitors instances → length instances ≡ length softs
end_count by_name softs monitors instances NoneLeft = refl
end_count by_name softs monitors instances (OneMore soft others own rest instance ends is more) = ap suc (end_count by_name others rest ends more)

module _ (W : List State) (bits : State) where
  accept_all : (monitors : List Monitor) → AreKept monitors W bits → all_accept bits monitors ≡ list_all (ground_sat W) (modals monitors)
  accept_all [] kept = refl
  accept_all (monitor ∷ monitors) kept = λ i. accepting monitor W bits kept.0 i && accept_all monitors kept.1 i

  pub kept_front : (first second : List Monitor) → AreKept (first ++ second) W bits → AreKept first W bits
  kept_front [] second kept = tt
  kept_front (monitor ∷ first) second kept = (kept.0, kept_front first second kept.1)

  kept_back : (first second : List Monitor) → AreKept (first ++ second) W bits → AreKept second W bits
  kept_back [] second kept = kept
  kept_back (monitor ∷ first) second kept = kept_back first second kept.1

  module _ (by_name : List ℕ) where
    one_loss : (soft : GroundSoft) (instance : SoftEnd) (holds : Bool) → truth bits instance.accept ≡ holds → list_all (ground_sat W) soft.parts ≡ holds → instance.weight ≡ named_weight by_name soft.name
        → weight_in bits instance ≡ weigh by_name (not (list_all (ground_sat W) soft.parts)) soft.name
    one_loss soft instance true e f weight = (λ i. if e i then 0 else instance.weight) ∙ sym (λ i. if not (f i) then named_weight by_name soft.name else 0)
    one_loss soft instance false e f weight = (λ i. if e i then 0 else weight i) ∙ sym (λ i. if not (f i) then named_weight by_name soft.name else 0)

    settled_by : (softs : List GroundSoft) (monitors : List Monitor) (instances : List SoftEnd) → AreSoftEnds by_name softs monitors instances → AreKept monitors W bits
        → violation bits instances ≡ sum_by (λ (soft : GroundSoft). weigh by_name (not (list_all (ground_sat W) soft.parts)) soft.name) softs
    settled_by softs monitors instances NoneLeft kept = refl
    settled_by softs monitors instances (OneMore soft others own rest instance ends is more) kept =
        sum_by-cons (weight_in bits) instance ends
        ∙ (λ i. one_loss soft instance (list_all (ground_sat W) soft.parts) (is.accepts bits ∙ accept_all own (kept_front own rest kept) ∙ ap (list_all (ground_sat W)) is.parts) refl is.weighs i + settled_by others rest ends more (kept_back own rest kept) i)
        ∙ sym (sum_by-cons (λ (soft : GroundSoft). weigh by_name (not (list_all (ground_sat W) soft.parts)) soft.name) soft others)

  module _ (G : GroundTask) (weights : Weights) (hard soft : List Monitor) (kept : AreKept (hard ++ soft) W bits) where
    -- `finish` fits exactly where the ground plan may end
    pub may_by : (finish : Form) → modals hard ≡ G.hard → IsBelow G.atoms G.goal → ((state : State) → truth state finish ≡ (truth state G.goal && all_accept state hard))
        → AgreeBelow G.atoms bits (last_of W) → truth bits finish ≡ may_end G weights W
    may_by finish hard_is below finishes agree =
        finishes bits ∙ (λ i. truth-below G.atoms bits (last_of W) agree G.goal below i && (accept_all hard (kept_front hard soft kept) ∙ ap (list_all (ground_sat W)) hard_is) i)

    -- and what is settled is what the instances lose
    pub settled_soft : (instances : List SoftEnd) → AreSoftEnds weights.by_name G.soft soft instances → violation bits instances ≡ end_loss G weights W
    settled_soft instances ends = settled_by weights.by_name G.soft soft instances ends (kept_back hard soft kept)
