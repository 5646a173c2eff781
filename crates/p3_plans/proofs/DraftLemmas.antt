-- Reading a plan, token by token.
use Rattle.std.proofs.Common.{arith, ◌≡◌, ℕ, ◌+◌, ◌≤◌, List, [], ◌∷◌, ◌++◌, Bool, true, false, length, map, flat_map, Option, Some, None, refl, sym, ap, subst, ◌∙◌}
use Rattle.std.specs.Prelude.{Result, Ok, Err, IfOk, IfErr, if◌then◌else◌, nat_lt}
use Rattle.std.specs.List.{list_all}
use Rattle.std.proofs.lemmas.Bool.{and_parts}
use Rattle.std.proofs.lemmas.Bool.Decides.{nat_tests}
use Rattle.std.proofs.lemmas.List.{append_assoc, append-nil, map-append, length-append}
use Rattle.std.proofs.lemmas.List.Folds.{list_all-append}
use Rattle.std.proofs.lemmas.Grind.{flat_map-append}
use Rattle.p3_base.specs.declared.refusal.Code.{Code}
use Rattle.p3_base.specs.declared.refusal.Code.TheVariants.{BadByte, Malformed, TooManySteps}
use Rattle.p3_base.specs.declared.refusal.Refusal.{Refusal}
use Rattle.p3_task.specs.declared.task.Step.{Step}
use Rattle.p3_task.specs.Plans.{Plan}
use Rattle.p3_task.specs.Tokens.{Token, Open, Close, Word, Tokens, before, tokens_of}
use Rattle.p3_task.specs.PlanTexts as texts
use Rattle.p3_task.specs.PlanTexts.{Mark, Opens, Closes, Names, mark_of, step_marks, is_plan_word, has_plan_words, word_offence, step_limit, IsPlanText, offence_of, offence_from, first_of_both, end_offence, plan_offence, refused_at}
use Rattle.p3_plans.specs.Befores.{refusal_by, refusal_of}
use Rattle.p3_plans.specs.Drafts.{draft_before, added, with_argument, IsAdded, IfRefused, Ends}
use Rattle.p3_plans.specs.declared.error.PlanFail.{PlanFail}
use Rattle.p3_plans.specs.declared.error.PlanFail.TheVariants.{Refused, NoMemory}
use Rattle.p3_plans.specs.declared.draft.Draft.{Draft}
use Rattle.p3_plans.specs.declared.draft.Draft.TheVariants.{Outside, Begun, Named}

-- ---- one token

abbrev open_marks : Step → List Mark
open_marks step = Opens ∷ map Names (step.action ∷ step.args)

-- the tokens of what is read
abbrev pub marks_of : Draft → List Mark
marks_of (Outside plan) = flat_map step_marks plan
marks_of (Begun plan) = flat_map step_marks plan ++ Opens ∷ []
marks_of (Named plan step) = flat_map step_marks plan ++ open_marks step

abbrev pub steps_of : Draft → List Step
steps_of (Outside plan) = plan
steps_of (Begun plan) = plan
steps_of (Named plan step) = plan ++ step ∷ []

abbrev pub count_of : texts.Before → ℕ
count_of (texts.Outside steps) = steps
count_of (texts.Begun steps) = steps
count_of (texts.Named steps) = steps

abbrev Free : Draft → Token → Type 0
Free draft token = offence_of (draft_before draft) token ≡ None

pub behind_more : (draft : Draft) (token : Token) → draft_before (added draft token) ≡ texts.behind (draft_before draft) token
behind_more (Outside plan) token = refl
behind_more (Begun plan) token = refl
behind_more (Named plan step) (Open at) = refl
behind_more (Named plan step) (Close at) = ap texts.Outside (length-append plan (step ∷ []))
behind_more (Named plan step) (Word at text) = refl

marks_more : (draft : Draft) (token : Token) → Free draft token → marks_of draft ++ mark_of token ∷ [] ≡ marks_of (added draft token)
marks_more (Outside plan) (Open at) free = refl
marks_more (Outside plan) (Close at) free = absurd cc
marks_more (Outside plan) (Word at text) free = absurd cc
marks_more (Begun plan) (Open at) free = absurd cc
marks_more (Begun plan) (Close at) free = absurd cc
marks_more (Begun plan) (Word at text) free = simp append_assoc
marks_more (Named plan step) (Open at) free = absurd cc
marks_more (Named plan step) (Close at) free = append_assoc (flat_map step_marks plan) (open_marks step) (Closes ∷ []) ∙ sym (flat_map-append step_marks plan (step ∷ []) ∙ ap (λ (m : List Mark). flat_map step_marks plan ++ m) (append-nil (step_marks step)))
marks_more (Named plan step) (Word at text) free =
    append_assoc (flat_map step_marks plan) (open_marks step) (Names text ∷ []) ∙ ap (λ (m : List Mark). flat_map step_marks plan ++ Opens ∷ Names step.action ∷ m) (sym (map-append Names step.args (text ∷ [])))

plan_word : (b : Bool) → (if b then None else Some Malformed) ≡ None → b ≡ true
plan_word true free = refl
plan_word false free = absurd cc

room : (steps limit : ℕ) → (if nat_lt steps limit then None else Some TooManySteps) ≡ None → steps + 1 ≤ limit
room steps limit free = grind (arith, nat_tests)

words_of : (plan : List Step) (step : Step) → list_all has_plan_words plan ≡ true → has_plan_words step ≡ true → list_all has_plan_words (plan ++ step ∷ []) ≡ true
words_of plan step all one = list_all-append has_plan_words plan (step ∷ []) ∙ rw (all, one) refl

last_words : (plan : List Step) (step : Step) → list_all has_plan_words (plan ++ step ∷ []) ≡ true → (list_all has_plan_words plan ≡ true) × (list_all is_plan_word (step.action ∷ step.args) ≡ true)
last_words plan step all =
    let apart : (list_all has_plan_words plan ≡ true) × (list_all has_plan_words (step ∷ []) ≡ true) = and_parts (list_all has_plan_words plan) (list_all has_plan_words (step ∷ [])) (sym (list_all-append has_plan_words plan (step ∷ [])) ∙ all) in
    (apart.0, (and_parts (has_plan_words step) true apart.1).0)

words_more : (draft : Draft) (token : Token) → Free draft token → list_all has_plan_words (steps_of draft) ≡ true → list_all has_plan_words (steps_of (added draft token)) ≡ true
words_more (Outside plan) token free words = words
words_more (Begun plan) (Open at) free words = absurd cc
words_more (Begun plan) (Close at) free words = absurd cc
words_more (Begun plan) (Word at text) free words = words_of plan (record { action = text; args = [] }) words (rw (plan_word (is_plan_word text) free) refl)
words_more (Named plan step) (Open at) free words = absurd cc
words_more (Named plan step) (Close at) free words = words
words_more (Named plan step) (Word at text) free words =
    let apart : (list_all has_plan_words plan ≡ true) × (list_all is_plan_word (step.action ∷ step.args) ≡ true) = last_words plan step words in
    words_of plan (with_argument step text) apart.0 (list_all-append is_plan_word (step.action ∷ step.args) (text ∷ []) ∙ rw (apart.1, plan_word (is_plan_word text) free) refl)

few_more : (draft : Draft) (token : Token) → Free draft token → count_of (draft_before draft) ≤ step_limit → count_of (draft_before (added draft token)) ≤ step_limit
few_more (Outside plan) (Open at) free few = room (length plan) step_limit free
few_more (Outside plan) (Close at) free few = absurd cc
few_more (Outside plan) (Word at text) free few = absurd cc
few_more (Begun plan) token free few = few
few_more (Named plan step) (Open at) free few = few
few_more (Named plan step) (Close at) free few = omega (arith, few, length-append plan (step ∷ []))
few_more (Named plan step) (Word at text) free few = few

-- ---- a part of a text

-- the draft is of the tokens before the later ones
pub record IsRead (text : List ℕ) (draft : Draft) (later : Tokens) : Type 0 where
  pub offence : offence_from (length text) (draft_before draft) later.tokens later.foreign ≡ plan_offence text
  pub known : later.foreign ≡ (tokens_of text).foreign
  pub marks : marks_of draft ++ map mark_of later.tokens ≡ map mark_of (tokens_of text).tokens
  pub words : list_all has_plan_words (steps_of draft) ≡ true
  pub few : count_of (draft_before draft) ≤ step_limit

pub read_first : (text : List ℕ) → IsRead text (Outside []) (tokens_of text)
read_first text = record { offence = refl; known = refl; marks = refl; words = refl; few = omega arith }

module _ (text : List ℕ) (draft : Draft) (token : Token) (later : Tokens) (is_read : IsRead text draft (before token later)) where
  abbrev offence_with : Option Code → texts.Before → Option Refusal
  offence_with code behind = first_of_both code token (offence_from (length text) behind later.tokens later.foreign)

  offence_first : offence_with (offence_of (draft_before draft) token) (texts.behind (draft_before draft) token) ≡ plan_offence text
  unfolding offence_from
  offence_first = is_read.offence

  refused_by : (code : Option Code) (refusal : Refusal) → refusal_by token code ≡ Some refusal → offence_with code (texts.behind (draft_before draft) token) ≡ Some refusal
  refused_by None refusal is = absurd cc
  refused_by (Some code) refusal is = is

  pub read_refused : (refusal : Refusal) → refusal_of (draft_before draft) token ≡ Some refusal → plan_offence text ≡ Some refusal
  read_refused refusal is = sym offence_first ∙ refused_by (offence_of (draft_before draft) token) refusal is

  pub read_more : (next : Draft) → IsAdded draft token next → IsRead text next later
  read_more next is = subst (λ (d : Draft). IsRead text d later) (sym is.reads) (record {
    offence = ap (λ (b : texts.Before). offence_from (length text) b later.tokens later.foreign) (behind_more draft token) ∙ sym (ap (λ (o : Option Code). offence_with o (texts.behind (draft_before draft) token)) is.free) ∙ offence_first;
    known = is_read.known;
    marks = ap (λ (m : List Mark). m ++ map mark_of later.tokens) (sym (marks_more draft token is.free)) ∙ append_assoc (marks_of draft) (mark_of token ∷ []) (map mark_of later.tokens) ∙ is_read.marks;
    words = words_more draft token is.free is_read.words;
    few = few_more draft token is.free is_read.few;
  })

-- ---- the end

pub read_foreign : (text : List ℕ) (draft : Draft) (at : ℕ) → IsRead text draft (record { tokens = []; foreign = Some at }) → plan_offence text ≡ Some (texts.refusal BadByte at 1)
unfolding offence_from
read_foreign text draft at is_read = sym is_read.offence

pub read_end : (text : List ℕ) (draft : Draft) → IsRead text draft (record { tokens = []; foreign = None }) → plan_offence text ≡ end_offence (length text) (draft_before draft)
unfolding offence_from
read_end text draft is_read = sym is_read.offence

pub read_whole : (text : List ℕ) (plan : Plan) → IsRead text (Outside plan) (record { tokens = []; foreign = None }) → IsPlanText text plan
read_whole text plan is_read = record { known = sym is_read.known; marks = sym is_read.marks ∙ append-nil (flat_map step_marks plan); words = is_read.words }

refused_as : (fail : PlanFail) (P Q : Refusal → Type 0) → ((refusal : Refusal) → P refusal → Q refusal) → IfRefused fail P → IfRefused fail Q
refused_as (Refused refusal) P Q leads is = leads refusal is
refused_as NoMemory P Q leads is = tt

abbrev pub IsOffence : List ℕ → PlanFail → Type 0
IsOffence text fail = IfRefused fail (λ refusal. plan_offence text ≡ Some refusal)

pub fail_here : (text : List ℕ) (draft : Draft) (token : Token) (later : Tokens) (fail : PlanFail) → IsRead text draft (before token later)
    → IfRefused fail (λ refusal. refusal_of (draft_before draft) token ≡ Some refusal) → IsOffence text fail
fail_here text draft token later fail is_read = refused_as fail _ _ (read_refused text draft token later is_read)

module _ (text : List ℕ) (draft : Draft) (is_read : IsRead text draft (record { tokens = []; foreign = None })) where
  pub whole_free : (result : Result Plan PlanFail) → Ends (length text) draft result → IfOk result (λ _. plan_offence text ≡ None)
  whole_free (Ok plan) ends = read_end text draft is_read ∙ ap (λ (d : Draft). end_offence (length text) (draft_before d)) ends
  whole_free (Err fail) ends = tt

  pub whole_few : (result : Result Plan PlanFail) → Ends (length text) draft result → IfOk result (λ plan. length plan ≤ step_limit)
  whole_few (Ok plan) ends = subst (λ (d : Draft). count_of (draft_before d) ≤ step_limit) ends is_read.few
  whole_few (Err fail) ends = tt

  pub whole_refused : (result : Result Plan PlanFail) → Ends (length text) draft result → IfErr result (IsOffence text)
  whole_refused (Ok plan) ends = tt
  whole_refused (Err fail) ends = refused_as fail _ _ (λ refusal is. read_end text draft is_read ∙ is) ends
