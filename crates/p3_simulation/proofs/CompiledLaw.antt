-- Such a target is a compiled task.
use Rattle.std.proofs.Common.{◌≡◌, ℕ, length, true, not, List, [], ◌∷◌, ◌++◌, refl, Option, Some, None}
use Rattle.std.proofs.lemmas.Bool.{and_parts}
use Rattle.std.proofs.lemmas.List.Elements.{All-contains}
use Rattle.p3_formula.specs.GroundPlans.{step_of}
use Rattle.p3_formula.specs.Targets.{IsNamed, IsSized, Compiled}
use Rattle.p3_formula.specs.Conditions.{HasNamesBelow}
use Rattle.p3_formula.specs.Weighted.{HasNameBelow, AreNamedBelow}
use Rattle.p3_formula.specs.declared.form.Form.{Form}
use Rattle.p3_formula.specs.declared.modal.GroundPref.{GroundPref}
use Rattle.p3_formula.specs.declared.modal.GroundSoft.{GroundSoft}
use Rattle.p3_formula.specs.declared.target.Target.{Target}
use Rattle.p3_formula.specs.declared.target.TargetAction.{TargetAction}
use Rattle.p3_formula.specs.declared.target.Weights.{Weights}
use Rattle.p3_formula.specs.declared.task.GroundStep.{GroundStep}
use Rattle.p3_formula.specs.declared.task.GroundTask.{GroundTask}
use Rattle.p3_endphase.specs.declared.phase.EndPhase.{EndPhase}
use Rattle.p3_endphase.specs.declared.phase.SoftEnd.{SoftEnd}
use Rattle.p3_monitors.specs.declared.monitoring.Monitor.{Monitor}
use Rattle.p3_simulation.proofs.Walks.{names}
use Rattle.p3_simulation.proofs.GroundWalks.{AreNamed}
use Rattle.p3_simulation.proofs.Simulation.{sound, one_to_one, length_is}
use Rattle.p3_simulation.proofs.Machine.{simulates, led}
use Rattle.p3_simulation.proofs.GadgetLaws.{step_found}
use Rattle.p3_simulation.proofs.MadeLaws.{IsMade}
use Rattle.p3_base.specs.Words.{are_different, Name, has_name}
use Rattle.p3_simulation.proofs.MadeMachine.{machine}

-- of names that all differ, so do those of the second list
behind_differ : (first second : List Name) → are_different (first ++ second) ≡ true → are_different second ≡ true
behind_differ [] second differ = differ
behind_differ (name ∷ names) second differ = behind_differ names second (and_parts (not (has_name (names ++ second) name)) _ differ).1

module _ (G : GroundTask) (weights : Weights) (X : Target) (monitors : List Monitor) (go first last size : ℕ) (all : List TargetAction) (phase : EndPhase) (finish : Form) (instances : List SoftEnd) where
  steps_are_named : HasNamesBelow (length weights.by_name) G → (number : ℕ) → AreNamed G weights (step_of G number)
  steps_are_named names_below number = by (step_of G number) refl
    where
      by : (o : Option GroundStep) → step_of G number ≡ o → AreNamed G weights o
      by None e = tt
      by (Some step) e = λ pref own. All-contains (λ (pref : GroundPref). HasNameBelow (length weights.by_name) pref.name) step.prefs pref (All-contains (λ (step : GroundStep). AreNamedBelow (length weights.by_name) step.prefs) G.steps step names_below.steps (step_found number G.steps step e).0) own

  pub compiled : IsMade G weights X monitors go first last size all phase finish instances → HasNamesBelow (length weights.by_name) G → IsNamed X → IsSized X → Compiled G weights X
  compiled is names_below named sized =
      let m = machine G weights X monitors go first last size all phase finish instances is in
      let simulation = simulates G weights X _ _ _ _ m in
      let softs_named = λ (soft : GroundSoft). All-contains (λ (soft : GroundSoft). HasNameBelow (length weights.by_name) soft.name) G.soft soft names_below.soft in
      let differ = behind_differ X.predicates (names X.actions) named.different in
      record {
        sound = sound G weights X _ simulation differ (steps_are_named names_below) softs_named;
        one_to_one = one_to_one G weights X _ simulation differ (steps_are_named names_below) softs_named;
        length = length_is G weights X _ simulation differ (steps_are_named names_below) softs_named;
        named = named;
        sized = sized;
        led = led G X _ _ _ m.phases;
      }
