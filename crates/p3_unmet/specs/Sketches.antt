-- Headings whose literals are not known yet: what is asked about which states, and what its answers make of them.
use Rattle.std.specs.Prelude.{ℕ, Bool, true, false, if◌then◌else◌, List, [], ◌∷◌, map, take, drop, length, Option}
use Rattle.p3_base.specs.declared.showing.Showing.{Showing}
use Rattle.p3_base.specs.declared.showing.Showing.TheVariants.{HoldsNowhere}
use Rattle.p3_numbers.specs.NumberedModal.{NumberedModal}
use Rattle.p3_numbers.specs.Slots.{Slots}
use Rattle.p3_numbers.specs.declared.condition.NumberedCondition.{NumberedCondition}
use Rattle.p3_numbers.specs.declared.goal.NumberedGoal.{NumberedGoal}
use Rattle.p3_numbers.specs.declared.task.NumberedTask.{NumberedTask}
use Rattle.p3_reasons.specs.Evidences.{evidence_of, operand_of}
use Rattle.p3_reasons.specs.Outcomes.{Test}
use Rattle.p3_reasons.specs.Visits.{test_after}
use Rattle.p3_reasons.specs.declared.decision.Decision.{Decision}
use Rattle.p3_reasons.specs.declared.evidence.Evidence.{Evidence}
use Rattle.p3_reasons.specs.declared.evidence.Operand.{Operand}
use Rattle.p3_reasons.specs.declared.visited.PlacedStep.{PlacedStep}
use Rattle.p3_scenes.specs.Lent.{lent_words}
use Rattle.p3_scenes.specs.Questions.{decided, hard_decided}
use Rattle.p3_scenes.specs.Scenes.{Scene}
use Rattle.p3_scenes.specs.declared.question.Asked.{Asked}
use Rattle.p3_scenes.specs.declared.question.Asked.TheVariants.{Condition, HardPart}
use Rattle.p3_accounts.specs.Operators.{kind_of}
use Rattle.p3_accounts.specs.States.{operand_shown}
use Rattle.p3_accounts.specs.declared.heading.Heading.{Heading}
use Rattle.p3_accounts.specs.declared.spot.Spot.{Spot}
use Rattle.p3_accounts.specs.declared.state.Shown.{Shown}
use Rattle.p3_accounts.specs.declared.state.Shown.TheVariants.{Nowhere, States}
use Rattle.p3_accounts.specs.declared.state.ShownState.{ShownState}
use Rattle.p3_accounts.specs.declared.subject.Binding.{Binding}
use Rattle.p3_accounts.specs.declared.subject.Subject.{Subject}
use Rattle.p3_accounts.specs.declared.subject.Subject.TheVariants as subject
use Rattle.p3_unmet.specs.Bindings.{paired_with}
use Rattle.p3_unmet.specs.declared.draft.Concern.{Concern}
use Rattle.p3_unmet.specs.declared.draft.Concern.TheVariants as concern
use Rattle.p3_unmet.specs.declared.draft.Draft.{Draft}
use Rattle.p3_unmet.specs.declared.draft.Inquiry as declared

-- ---- without references

pub data Wanted : Type 0 where
  OfCondition : (condition : NumberedCondition) → Wanted
  OfHardPart : (goal : NumberedGoal) → Wanted

-- what is asked about a state
pub record Inquiry : Type 0 where
  pub state : ℕ
  pub operand : Option Operand
  pub wanted : Wanted

pub record Sketch : Type 0 where
  pub spot : Option Spot
  pub subject : Subject
  pub slots : Slots
  pub nowhere : Bool
  pub inquiries : List Inquiry

abbrev pub seen_asked : Asked → Wanted
seen_asked (Condition condition) = OfCondition condition.now
seen_asked (HardPart goal) = OfHardPart goal.now

abbrev pub seen_inquiry : declared.Inquiry → Inquiry
seen_inquiry inquiry = record { state = inquiry.state; operand = inquiry.operand; wanted = seen_asked inquiry.asked }

-- what it is of, with what its variables mean
abbrev pub subject_of : Concern → List Binding → Subject
subject_of concern.Goal bindings = subject.Goal
subject_of (concern.Constraint number operator) bindings = subject.Constraint number operator bindings
subject_of (concern.Preference name operator) bindings = subject.Preference name operator bindings
subject_of (concern.StepPreference name step) bindings = subject.StepPreference name step bindings

abbrev pub seen_draft : Draft → Sketch
seen_draft draft = record {
  spot = draft.spot;
  subject = subject_of draft.concern (paired_with (lent_words draft.bindings.variables) draft.bindings.objects);
  slots = draft.bindings.objects;
  nowhere = draft.nowhere;
  inquiries = map seen_inquiry draft.inquiries;
}

-- ---- of an operator

-- it holds in no state, though it should in some
abbrev pub is_nowhere : Showing → Bool
is_nowhere HoldsNowhere = true
is_nowhere _ = false

-- a formula of the operator in a state
abbrev pub inquiry_of : NumberedModal → Evidence → Inquiry
inquiry_of operator evidence = record {
  state = evidence.state;
  operand = operand_shown (kind_of operator) evidence.operand;
  wanted = OfCondition (operand_of operator evidence.operand);
}

abbrev pub operator_sketch : Concern → Option Spot → Scene → Showing → Sketch
operator_sketch concern spot scene showing = record {
  spot = spot;
  subject = subject_of concern (paired_with scene.scope scene.slots);
  slots = scene.slots;
  nowhere = is_nowhere showing;
  inquiries = map (inquiry_of scene.operator) (evidence_of scene.operator showing);
}

-- ---- what is answered

abbrev pub wanted_decision : NumberedTask → Test → Slots → Wanted → Decision
wanted_decision X test slots (OfCondition condition) = decided X test slots condition
wanted_decision X test slots (OfHardPart goal) = hard_decided X test slots goal

-- by the facts of the state
abbrev pub decision_in : NumberedTask → List PlacedStep → Slots → Inquiry → Decision
decision_in X steps slots inquiry = wanted_decision X (test_after X (take inquiry.state steps)) slots inquiry.wanted

abbrev pub decisions_of : NumberedTask → List PlacedStep → Sketch → List Decision
decisions_of X steps sketch = map (decision_in X steps sketch.slots) sketch.inquiries

-- ---- with answers

abbrev pub state_with : Inquiry → Decision → ShownState
state_with inquiry decision = record { state = inquiry.state; operand = inquiry.operand; literals = decision.literals }

-- the answers in order, as far as there are some
abbrev pub states_with : List Inquiry → List Decision → List ShownState
states_with [] decisions = []
states_with (inquiry ∷ inquiries) [] = []
states_with (inquiry ∷ inquiries) (decision ∷ decisions) = state_with inquiry decision ∷ states_with inquiries decisions

abbrev pub shown_with : Sketch → List Decision → Shown
shown_with sketch decisions = if sketch.nowhere then Nowhere else States (states_with sketch.inquiries decisions)

abbrev pub heading_with : Sketch → List Decision → Heading
heading_with sketch decisions = record { spot = sketch.spot; subject = sketch.subject; shown = shown_with sketch decisions }

-- each takes its answers from the front
abbrev pub headings_with : List Sketch → List Decision → List Heading
headings_with [] decisions = []
headings_with (sketch ∷ sketches) decisions = heading_with sketch decisions ∷ headings_with sketches (drop (length sketch.inquiries) decisions)

abbrev pub heading_of : NumberedTask → List PlacedStep → Sketch → Heading
heading_of X steps sketch = heading_with sketch (decisions_of X steps sketch)
