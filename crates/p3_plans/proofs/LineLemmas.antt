-- The step that a line has, and its first offence.
use Rattle.std.proofs.Common.{◌≡◌, ◌∙◌, ℕ, Bool, true, false, List, [], ◌∷◌, map, refl, sym, ap, subst, Option, Some, None}
use Rattle.std.specs.Prelude.{filter_map, flat_map, if◌then◌else◌, nat_lt}
use Rattle.p3_base.specs.declared.refusal.Code.{Code}
use Rattle.p3_base.specs.declared.refusal.Code.TheVariants.{Malformed}
use Rattle.p3_base.specs.declared.refusal.Refusal.{Refusal}
use Rattle.p3_task.specs.Names.{Name}
use Rattle.p3_task.specs.Plans.{Plan}
use Rattle.p3_task.specs.PlanTexts.{Outside, Named, IsPlanText, Mark, Opens, Names, mark_of, plan_offence, refusal, step_marks, word_offence}
use Rattle.p3_task.specs.Tokens.{Token, Open, Close, Word, tokens_of}
use Rattle.p3_task.specs.Watching.{LineText, OneStep, earlier_by, line_by, line_offence, line_text, second_step, step_in, word_of}
use Rattle.p3_task.specs.declared.task.Step.{Step}
use Rattle.p3_task.proofs.LineLaws.{one_step_plan}
use Rattle.p3_plans.specs.Laws.{AreTextsOf, HasPlan, all_of}
use Rattle.p3_plans.specs.Lines.{IsLineStep}
use Rattle.p3_plans.specs.Steps.{IsSlice, Left, StepText, nothing, steps_from, unless_offence, with_next}
use Rattle.p3_plans.specs.declared.line.LineStep.TheVariants as line
use Rattle.p3_plans.specs.declared.reader.NextStep.TheVariants as next
use Rattle.p3_plans.specs.declared.reader.PlanStep.{PlanStep}
use Rattle.p3_plans.proofs.PlanLaws.{a_plan_where_no_offence}
use Rattle.p3_plans.proofs.SliceLemmas.{slices_are_texts_of_steps}

-- ---- the first offence

pub offence_is : (text : List ℕ) (offence : Option Refusal) (second : Option ℕ) → offence ≡ plan_offence text → second ≡ second_step (tokens_of text).tokens
    → earlier_by offence second ≡ line_offence text
unfolding line_offence
offence_is text offence second first behind = λ i. earlier_by (first i) (behind i)

pub is_none : (offence : Option Refusal) → ((own : Refusal) → offence ≡ Some own → ⊥) → offence ≡ None
is_none None not_some = refl
is_none (Some own) not_some = absurd (not_some own refl)

-- ---- lines without an offence

abbrev HasNone : Option Refusal → Option ℕ → Type 0
HasNone offence second = (offence ≡ None) × (second ≡ None)

no_earlier : (offence : Option Refusal) (second : Option ℕ) → earlier_by offence second ≡ None → HasNone offence second
no_earlier offence None e = (e, refl)
no_earlier None (Some at) e = absurd (cc)
no_earlier (Some offence) (Some at) e = by (nat_lt at offence.pos.offset) e
  where
    by : (b : Bool) → (if b then Some (refusal Malformed at 1) else Some offence) ≡ None → HasNone (Some offence) (Some at)
    by true e = absurd (cc)
    by false e = absurd (cc)

module _ (text : List ℕ) (none : line_offence text ≡ None) where
  abbrev tokens : List Token
  tokens = (tokens_of text).tokens

  both : HasNone (plan_offence text) (second_step tokens)
  unfolding line_offence
  both = no_earlier (plan_offence text) (second_step tokens) none

  has : HasPlan text
  has = (a_plan_where_no_offence text).1 both.0

  -- the line is what its tokens spell
  line_is : line_text text ≡ step_in tokens
  unfolding line_text
  line_is = ap (λ offence. line_by offence tokens) none

  slices : AreTextsOf (all_of text).steps has.plan
  slices = slices_are_texts_of_steps text has.plan has.spelled has.few

  -- ---- without a step

  no_tokens : (list : List Token) → map mark_of list ≡ [] → list ≡ []
  no_tokens [] e = refl
  no_tokens (token ∷ list) e = absurd (cc)

  no_plan : (plan : Plan) → AreTextsOf [] plan → plan ≡ []
  unfolding AreTextsOf
  no_plan [] are = refl
  no_plan (step ∷ plan) are = absurd are

  pub blank_line : all_of text ≡ nothing None → IsLineStep text (line_text text) line.Blank
  blank_line is =
      let empty : has.plan ≡ [] = no_plan has.plan (subst (λ (left : Left). AreTextsOf left.steps has.plan) is slices) in
      let bare : tokens ≡ [] = no_tokens tokens (has.spelled.marks ∙ ap (flat_map step_marks) empty) in
      subst (λ (own : LineText). IsLineStep text own line.Blank) (sym (line_is ∙ ap step_in bare)) tt

  pub not_bad : (offence : Refusal) → all_of text ≡ nothing (Some offence) → ⊥
  not_bad offence is = let clash : None ≡ Some offence = sym both.0 ∙ ap (λ (left : Left). left.offence) is in absurd (cc)

  -- ---- with one

  record Shape (list : List Token) : Type 0 where
    pub at : ℕ
    pub place : ℕ
    pub name : Name
    pub rest : List Token
    pub is : list ≡ Open at ∷ Word place name ∷ rest

  shape : (list : List Token) (name : Name) (more : List Mark) → map mark_of list ≡ Opens ∷ Names name ∷ more → Shape list
  shape [] name more e = absurd (cc)
  shape (Close at ∷ list) name more e = absurd (cc)
  shape (Word at text ∷ list) name more e = absurd (cc)
  shape (Open at ∷ []) name more e = absurd (cc)
  shape (Open at ∷ Open place ∷ list) name more e = absurd (cc)
  shape (Open at ∷ Close place ∷ list) name more e = absurd (cc)
  shape (Open at ∷ Word place text ∷ list) name more e = record { at = at; place = place; name = text; rest = list; is = refl }

  -- a step that is begun begins where it was begun
  unless_more : (offence : Option Code) (steps others : List StepText) (first : StepText) → unless_offence offence steps ≡ first ∷ others → steps ≡ first ∷ others
  unless_more None steps others first e = e
  unless_more (Some code) steps others first e = absurd (cc)

  named_at : (source : List ℕ) (n begin : ℕ) (list : List Token) (first : StepText) (others : List StepText) → steps_from source (Named n) begin list ≡ first ∷ others → first.at ≡ begin
  unfolding steps_from
  named_at source n begin [] first others e = absurd (cc)
  named_at source n begin (Open at ∷ list) first others e = absurd (cc)
  named_at source n begin (Close at ∷ list) first others e = sym (ap head_at e)
    where
      head_at : List StepText → ℕ
      head_at [] = begin
      head_at (step ∷ steps) = step.at
  named_at source n begin (Word at text ∷ list) first others e =
      named_at source n begin list first others (unless_more (word_offence text) (steps_from source (Named n) begin list) others first e)

  begun_at : (source : List ℕ) (at place : ℕ) (name : Name) (list : List Token) (first : StepText) (others : List StepText)
      → steps_from source (Outside 0) 0 (Open at ∷ Word place name ∷ list) ≡ first ∷ others → first.at ≡ at
  unfolding steps_from
  begun_at source at place name list first others e =
      named_at source 1 at list first others (unless_more (word_offence name) (steps_from source (Named 1) at list) others first e)

  module _ (slice : PlanStep) (later : Left) (end : ℕ) (gives : all_of text ≡ with_next (next.Step slice) later) (takes : IsSlice text slice.offset slice.text.now end) where
    abbrev first : StepText
    first = record { at = slice.offset; text = slice.text.now }

    by_plan : (plan : Plan) → IsPlanText text plan → AreTextsOf (first ∷ later.steps) plan → IsLineStep text (line_text text) (line.Step slice)
    unfolding AreTextsOf
    by_plan [] spelled are = absurd are
    by_plan (step ∷ plan) spelled are =
        let is = shape tokens step.action _ spelled.marks in
        let own : Step = record { action = is.name; args = filter_map word_of is.rest } in
        let one : step_in tokens ≡ OneStep is.at own = ap step_in is.is in
        let alone : step ∷ plan ≡ own ∷ [] = one_step_plan text (step ∷ plan) is.at own spelled both.1 one in
        let same : step ≡ own = cc in
        let steps : steps_from text (Outside 0) 0 (Open is.at ∷ Word is.place is.name ∷ is.rest) ≡ first ∷ later.steps =
        ap (steps_from text (Outside 0) 0) (sym is.is) ∙ ap (λ (left : Left). left.steps) gives in
        subst (λ (known : LineText). IsLineStep text known (line.Step slice)) (sym (line_is ∙ one)) (record {
          place = begun_at text is.at is.place is.name is.rest first later.steps steps;
          spelled = subst (λ (one : Step). IsPlanText slice.text.now (one ∷ [])) same are.0;
          slice = takes.slice;
        })

    pub step_line : IsLineStep text (line_text text) (line.Step slice)
    step_line = by_plan has.plan has.spelled (subst (λ (left : Left). AreTextsOf left.steps has.plan) gives slices)

-- a line with an offence
pub bad_line : (text : List ℕ) (own : Refusal) → line_offence text ≡ Some own → IsLineStep text (line_text text) (line.Bad own)
unfolding line_text
bad_line text own is = subst (λ (offence : Option Refusal). IsLineStep text (line_by offence (tokens_of text).tokens) (line.Bad own)) (sym is) refl
