-- What a reader of a plan's text has passed, and what it gives next.
use Rattle.std.proofs.Common.{arith, ◌≡◌, ◌∙◌, ℕ, ◌+◌, List, [], ◌∷◌, ◌≤◌, length, length-drop, take, drop, Some, None, refl, sym, ap, subst, zero, suc}
use Rattle.std.specs.Prelude.{slice_get, Result, Ok, Err, IfOk}
use Rattle.std.proofs.lemmas.List.{drop-drop, length-take}
use Rattle.p3_base.specs.declared.refusal.Refusal.{Refusal}
use Rattle.p3_task.specs.PlanTexts.{IsPlanText, plan_offence}
use Rattle.p3_task.specs.declared.task.Step.{Step}
use Rattle.p3_plans.proofs.PlanLaws.{a_plan_where_no_offence}
use Rattle.p3_task.specs.Plans.{Plan}
use Rattle.p3_task.proofs.OnceLemmas.{Some-injective}
use Rattle.p3_plans.specs.Laws.{AreTextsOf}
use Rattle.p3_plans.specs.Steps.{Left, Progress, Rests, StepText, left, with_next}
use Rattle.p3_plans.specs.declared.reader.PlanStep.{PlanStep}
use Rattle.p3_plans.specs.declared.reader.NextStep.{NextStep}
use Rattle.p3_plans.specs.declared.reader.NextStep.TheVariants as next
use Rattle.p3_inapplicable.specs.Places.{slice_of}

-- one step more is passed; at the end none is left
behind-next : (old new : Progress) (given : NextStep) → left old ≡ with_next given (left new) → Rests old given new → (left new).steps ≡ drop 1 (left old).steps
behind-next old new (next.Step step) parts rests = sym (ap (λ (rest : Left). drop 1 rest.steps) parts)
behind-next old new next.End parts rests = ap (λ (rest : Left). rest.steps) (rests ∙ parts) ∙ sym (ap (λ (rest : Left). drop 1 rest.steps) parts)
behind-next old new (next.Bad refusal) parts rests = ap (λ (rest : Left). rest.steps) (rests ∙ parts) ∙ sym (ap (λ (rest : Left). drop 1 rest.steps) parts)

pub passed-more : (all : List StepText) (k : ℕ) (old new : Progress) (given : NextStep) → (left old).steps ≡ drop k all → left old ≡ with_next given (left new) → Rests old given new → (left new).steps ≡ drop (k + 1) all
passed-more all k old new given passed parts rests = behind-next old new given parts rests ∙ ap (drop 1) passed ∙ drop-drop 1 k all

first-left : {A : Type 0} (k : ℕ) (xs : List A) → slice_get (drop k xs) 0 ≡ slice_get xs k
first-left zero xs = refl
first-left (suc k) [] = refl
first-left (suc k) (x ∷ xs) = first-left k xs

pub next-at : (all : List StepText) (k : ℕ) (old : Progress) (rest : Left) (given : NextStep) → (left old).steps ≡ drop k all → left old ≡ with_next given rest → slice_get (with_next given rest).steps 0 ≡ slice_get all k
next-at all k old rest given passed parts = sym (ap (λ (one : Left). slice_get one.steps 0) parts) ∙ ap (λ steps. slice_get steps 0) passed ∙ first-left k all

-- the step that is given is the one at the place, and where none is given none stands there
pub one-next : (all : List StepText) (k place : ℕ) → k ≡ place → (step : PlanStep) (entry : StepText) → Some (slice_of step) ≡ slice_get all k → slice_get all place ≡ Some entry → slice_of step ≡ entry
one-next all k place same step entry given at = Some-injective (slice_of step) entry (given ∙ ap (slice_get all) same ∙ at)

pub none-next : (all : List StepText) (k place : ℕ) → k ≡ place → (entry : StepText) → None ≡ slice_get all k → slice_get all place ≡ Some entry → ⊥
none-next all k place same entry given at = let wrong : None ≡ Some entry = given ∙ ap (slice_get all) same ∙ at in cc

-- a slice of a text is no longer
pub slice-within : (text source slice : List ℕ) (offset : ℕ) → source ≡ text → slice ≡ take (length slice) (drop offset source) → length slice ≤ length text
slice-within text source slice offset same is =
    omega (arith, ap length is, length-take (length slice) (drop offset source), length-drop offset source, ap length same)

-- the text of the step at a place
pub text-at : (slices : List StepText) (plan : Plan) → AreTextsOf slices plan → (k : ℕ) (step : Step) → slice_get plan k ≡ Some step → (entry : StepText) × (slice_get slices k ≡ Some entry) × IsPlanText entry.text (step ∷ [])
unfolding AreTextsOf
text-at [] [] are k step at = absurd (cc)
text-at [] (one ∷ plan) are k step at = absurd are
text-at (slice ∷ slices) [] are k step at = absurd are
text-at (slice ∷ slices) (one ∷ plan) are zero step at = (slice, refl, subst (λ step. IsPlanText slice.text (step ∷ [])) (Some-injective one step at) are.0)
text-at (slice ∷ slices) (one ∷ plan) are (suc k) step at = text-at slices plan are.1 k step at

-- a text of one step is not refused
pub refused-is-none : (text : List ℕ) (refusal : Refusal) (step : Step) → plan_offence text ≡ Some refusal → IsPlanText text (step ∷ []) → ⊥
refused-is-none text refusal step offence spelled =
    let none : plan_offence text ≡ None = (a_plan_where_no_offence text).0 (record { plan = step ∷ []; spelled = spelled; few = omega arith }) in
    cc

pub IfOk-always : {X Y : Type 0} (r : Result X Y) (P : X → Type 0) → ((x : X) → P x) → IfOk r P
IfOk-always (Ok x) P always = always x
IfOk-always (Err e) P always = tt
