-- In a valid plan all guards hold: a step that breaks a constraint which stays broken cannot stand in it.
use Rattle.std.proofs.Common.{◌≡◌, ◌∙◌, ℕ, Bool, true, false, List, [], ◌∷◌, ◌++◌, refl, sym, ap, append_assoc}
use Rattle.std.specs.List.{list_all}
use Rattle.std.proofs.Math.Bool.{and-true}
use Rattle.std.proofs.lemmas.Bool.{and_parts, and_from}
use Rattle.p3_formula.specs.Alike.{AgreeBelow}
use Rattle.p3_formula.specs.Forms.{State, truth, IsBelow}
use Rattle.p3_formula.specs.GroundSat.{ground_sat}
use Rattle.p3_formula.specs.Kept.{Kept}
use Rattle.p3_formula.specs.Lasting.{stays_broken}
use Rattle.p3_formula.specs.Modals.{IsModalBelow}
use Rattle.p3_formula.specs.Next.{after}
use Rattle.p3_formula.specs.declared.form.Change.{Change}
use Rattle.p3_formula.specs.declared.form.Form.{Form}
use Rattle.p3_formula.specs.declared.form.Form.TheVariants.{True}
use Rattle.p3_formula.specs.GroundModal.{GroundModal}
use Rattle.p3_formula.specs.declared.task.GroundStep.{GroundStep}
use Rattle.p3_formula.proofs.FormLemmas.{truth-True}
use Rattle.p3_formula.proofs.LastingLaws.{satisfied_before}
use Rattle.p3_formula.proofs.ReadAtoms.{read_below}
use Rattle.p3_monitors.specs.Guards.{IsGuard}
use Rattle.p3_monitors.specs.Riders.{AreKept}
use Rattle.p3_monitors.specs.declared.monitoring.Monitor.{Monitor}
use Rattle.p3_simulation.specs.Parts.{AreBefore}
use Rattle.p3_simulation.specs.Monitoring.{AreGuards, NoGuards, Unguarded, Guarded, IsGuardedPre, modals}

-- ---- a precondition with guards

-- it holds only where the step's own one does
pub own_holds : (go : ℕ) (hard : List Monitor) (step : GroundStep) (pre : Form) → IsGuardedPre go hard step pre → (state : State) → truth state pre ≡ true → truth state step.pre ≡ true
own_holds go hard step pre is state holds = (and_parts (truth state step.pre) _ (sym (is.holds state) ∙ holds)).0

no_guards : (step : List Change) (monitors : List Monitor) → AreGuards step monitors []
no_guards step [] = NoGuards
no_guards step (monitor ∷ monitors) = Unguarded monitor monitors [] (no_guards step monitors)

-- without a guard it is the step's own one
pub plain_pre : (go : ℕ) (hard : List Monitor) (step : GroundStep) → IsBelow go step.pre → IsGuardedPre go hard step step.pre
plain_pre go hard step below = record { guards = []; are = no_guards step.effects hard; holds = λ state. sym (and-true (truth state step.pre)); below = below }

-- ---- the first monitors

pub before_front : (sources bound : ℕ) (first second : List Monitor) → AreBefore sources bound (first ++ second) → AreBefore sources bound first
before_front sources bound [] second before = tt
before_front sources bound (monitor ∷ first) second before = (before.0, before.1, before_front sources bound first second before.2)

-- ---- the guards

-- the states visited before a step, the one behind it, and those that are visited later
module _ (sources bound : ℕ) (step : List Change) (W rest : List State) (bits next : State) (agree : AgreeBelow sources (after bits step) next) where
  satisfied_next : (modal : GroundModal) → stays_broken modal ≡ true → ground_sat (W ++ next ∷ rest) modal ≡ true → ground_sat (W ++ next ∷ []) modal ≡ true
  satisfied_next modal stays holds = satisfied_before (W ++ next ∷ []) rest modal stays (ap (λ V. ground_sat V modal) (append_assoc W (next ∷ []) rest) ∙ holds)

  guard_holds : (monitor : Monitor) (guard : Form) → IsGuard monitor.base monitor.modal step guard → (stays_broken monitor.modal ≡ false → guard ≡ True) → IsModalBelow sources monitor.modal
      → Kept monitor.base monitor.modal W bits → ground_sat (W ++ next ∷ rest) monitor.modal ≡ true → truth bits guard ≡ true
  guard_holds monitor guard is free below kept holds = by (stays_broken monitor.modal) refl
    where
      by : (b : Bool) → stays_broken monitor.modal ≡ b → truth bits guard ≡ true
      by true stays =
          is W bits next kept (λ atom read. agree atom (read_below sources monitor.modal below atom read)) stays (satisfied_before W (next ∷ rest) monitor.modal stays holds)
          ∙ satisfied_next monitor.modal stays holds
      by false mends = ap (truth bits) (free mends) ∙ truth-True bits

  pub guards_hold : (monitors : List Monitor) (guards : List Form) → AreGuards step monitors guards → AreBefore sources bound monitors → AreKept monitors W bits
      → list_all (ground_sat (W ++ next ∷ rest)) (modals monitors) ≡ true → list_all (truth bits) guards ≡ true
  guards_hold [] guards NoGuards before kept all = refl
  guards_hold (monitor ∷ monitors) guards (Unguarded _ _ _ more) before kept all =
      guards_hold monitors guards more before.2 kept.1 (and_parts (ground_sat (W ++ next ∷ rest) monitor.modal) _ all).1
  guards_hold (monitor ∷ monitors) guards (Guarded _ _ guard others is free more) before kept all =
      let parts = and_parts (ground_sat (W ++ next ∷ rest) monitor.modal) _ all in
      and_from (truth bits guard) _ (guard_holds monitor guard is free before.0 kept.0 parts.0) (guards_hold monitors others more before.2 kept.1 parts.1)
