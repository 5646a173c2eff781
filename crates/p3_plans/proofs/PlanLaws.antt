-- A text has one plan at most, and has one exactly where it has no offence.
use Rattle.std.proofs.Common.{arith, ◌≡◌, ℕ, suc, ◌+◌, ◌≤◌, List, [], ◌∷◌, ◌++◌, true, length, map, flat_map, fold, Option, Some, None, refl, sym, ap, subst, ◌∙◌}
use Rattle.std.specs.Prelude.{◌↔◌, nat_lt}
use Rattle.std.specs.List.{list_all}
use Rattle.std.proofs.lemmas.Bool.{and_parts}
use Rattle.std.proofs.lemmas.Bool.Decides.{nat_tests}
use Rattle.std.proofs.lemmas.List.{append_assoc, append-nil, length-append}
use Rattle.p3_base.specs.declared.refusal.Code.{Code}
use Rattle.p3_base.specs.declared.refusal.Refusal.{Refusal}
use Rattle.p3_task.specs.declared.task.Step.{Step}
use Rattle.p3_task.specs.Names.{Name}
use Rattle.p3_task.specs.Plans.{Plan}
use Rattle.p3_task.specs.Tokens.{Token, Open, Close, Word, Tokens, tokens_of}
use Rattle.p3_task.specs.PlanTexts as texts
use Rattle.p3_task.specs.PlanTexts.{Mark, Opens, Closes, Names, mark_of, step_marks, is_plan_word, has_plan_words, step_limit, IsPlanText, offence_of, offence_from, first_of_both, plan_offence}
use Rattle.p3_plans.specs.Befores.{refusal_by}
use Rattle.p3_plans.specs.Drafts.{draft_before, added, with_argument}
use Rattle.p3_plans.specs.Laws.{HasPlan, StepsBeforeOffences}
use Rattle.p3_plans.specs.Steps.{steps_from}
use Rattle.p3_task.specs.Tokens.{tokens_from}
use Rattle.p3_plans.specs.declared.draft.Draft.{Draft}
use Rattle.p3_plans.specs.declared.draft.Draft.TheVariants.{Outside, Begun, Named}
use Rattle.p3_plans.proofs.DraftLemmas.{IsRead, read_first, read_more, read_refused, read_foreign, read_end, read_whole, behind_more}

-- ---- where no offence is

module _ (text : List ℕ) (free : plan_offence text ≡ None) where
  some_is_none : (refusal : Refusal) → plan_offence text ≡ Some refusal → HasPlan text
  some_is_none refusal is = absurd (let no : None ≡ Some refusal = sym free ∙ is in cc)

  at_end : (draft : Draft) (foreign : Option ℕ) → IsRead text draft (record { tokens = []; foreign = foreign }) → HasPlan text
  at_end draft (Some at) is_read = some_is_none _ (read_foreign text draft at is_read)
  at_end (Outside plan) None is_read = record { plan = plan; spelled = read_whole text plan is_read; few = is_read.few }
  at_end (Begun plan) None is_read = some_is_none _ (read_end text (Begun plan) is_read)
  at_end (Named plan step) None is_read = some_is_none _ (read_end text (Named plan step) is_read)

  from : (tokens : List Token) (foreign : Option ℕ) (draft : Draft) → IsRead text draft (record { tokens = tokens; foreign = foreign }) → HasPlan text
  from [] foreign draft is_read = at_end draft foreign is_read
  from (token ∷ tokens) foreign draft is_read = by (offence_of (draft_before draft) token) refl (from tokens foreign (added draft token))
    where
      later : Tokens
      later = record { tokens = tokens; foreign = foreign }

      by : (code : Option Code) → offence_of (draft_before draft) token ≡ code → (IsRead text (added draft token) later → HasPlan text) → HasPlan text
      by None is go_on = go_on (read_more text draft token later is_read (added draft token) (record { free = is; reads = refl }))
      by (Some code) is go_on = some_is_none (texts.refused_at code token) (read_refused text draft token later is_read (texts.refused_at code token) (ap (refusal_by token) is))

  pub plan_of_text : HasPlan text
  plan_of_text = from (tokens_of text).tokens (tokens_of text).foreign (Outside []) (read_first text)

-- ---- where a plan is

-- the tokens are no offences and lead to the draft
record Follows (size : ℕ) (draft : Draft) (tokens : List Token) (end : Draft) : Type 0 where
  free : offence_from size (draft_before draft) tokens None ≡ None
  leads : fold added draft tokens ≡ end

module _ (size : ℕ) (end : Draft) where
  follows_more : (draft : Draft) (token : Token) (tokens : List Token) → offence_of (draft_before draft) token ≡ None → Follows size (added draft token) tokens end → Follows size draft (token ∷ tokens) end
  unfolding offence_from
  follows_more draft token tokens free follows = record {
    free =
        ap (λ (code : Option Code). first_of_both code token (offence_from size (texts.behind (draft_before draft) token) tokens None)) free
        ∙ ap (λ (before : texts.Before). offence_from size before tokens None) (sym (behind_more draft token)) ∙ follows.free;
    leads = follows.leads;
  }

  -- the marks of an argument or of the end of a step come next
  arguments : (args : List Name) (plan : Plan) (step : Step) (tokens : List Token) (m : List Mark) → map mark_of tokens ≡ map Names args ++ Closes ∷ m → list_all is_plan_word args ≡ true
      → ((later : List Token) → map mark_of later ≡ m → Follows size (Outside (plan ++ record { action = step.action; args = step.args ++ args } ∷ [])) later end)
      → Follows size (Named plan step) tokens end
  arguments [] plan step [] m is words go_on = absurd cc
  arguments (arg ∷ args) plan step [] m is words go_on = absurd cc
  arguments [] plan step (Open at ∷ later) m is words go_on = absurd cc
  arguments [] plan step (Word at text ∷ later) m is words go_on = absurd cc
  arguments [] plan step (Close at ∷ later) m is words go_on =
      follows_more (Named plan step) (Close at) later refl
      (subst (λ (args : List Name). Follows size (Outside (plan ++ record { action = step.action; args = args } ∷ [])) later end) (append-nil step.args) (go_on later (cc)))
  arguments (arg ∷ args) plan step (Open at ∷ later) m is words go_on = absurd cc
  arguments (arg ∷ args) plan step (Close at ∷ later) m is words go_on = absurd cc
  arguments (arg ∷ args) plan step (Word at text ∷ later) m is words go_on =
      let same : text ≡ arg = cc in
      let apart = and_parts (is_plan_word arg) (list_all is_plan_word args) words in
      follows_more (Named plan step) (Word at text) later (rw (same, apart.0) refl)
      (arguments args plan (with_argument step text) later m (cc) apart.1 (λ rest marks.
      subst (λ (all : List Name). Follows size (Outside (plan ++ record { action = step.action; args = all } ∷ [])) rest end)
      (ap (λ (w : Name). step.args ++ w ∷ args) (sym same) ∙ sym (append_assoc step.args (text ∷ []) args)) (go_on rest marks)))

pub below : (steps more : ℕ) → steps + suc more ≤ step_limit → nat_lt steps step_limit ≡ true
below steps more few = grind (arith, nat_tests)

may_begin : (steps more : ℕ) (at : ℕ) → steps + suc more ≤ step_limit → offence_of (texts.Outside steps) (Open at) ≡ None
may_begin steps more at few = rw (below steps more few) refl

-- the tokens of a plan lead to the plan
follows_plan : (size : ℕ) (q p : Plan) (tokens : List Token) → map mark_of tokens ≡ flat_map step_marks q → list_all has_plan_words q ≡ true → length p + length q ≤ step_limit → Follows size (Outside p) tokens (Outside (p ++ q))
unfolding offence_from
follows_plan size [] p [] is words few = record { free = refl; leads = ap Outside (sym (append-nil p)) }
follows_plan size [] p (token ∷ tokens) is words few = absurd cc
follows_plan size (step ∷ q) p [] is words few = absurd cc
follows_plan size (step ∷ q) p (Close at ∷ tokens) is words few = absurd cc
follows_plan size (step ∷ q) p (Word at text ∷ tokens) is words few = absurd cc
follows_plan size (step ∷ q) p (Open at ∷ []) is words few = absurd cc
follows_plan size (step ∷ q) p (Open at ∷ Open place ∷ tokens) is words few = absurd cc
follows_plan size (step ∷ q) p (Open at ∷ Close place ∷ tokens) is words few = absurd cc
follows_plan size (step ∷ q) p (Open at ∷ Word place text ∷ tokens) is words few =
    let same : text ≡ step.action = cc in
    let all = and_parts (has_plan_words step) (list_all has_plan_words q) words in
    let apart = and_parts (is_plan_word step.action) (list_all is_plan_word step.args) all.0 in
    let later : map mark_of tokens ≡ (map Names step.args ++ Closes ∷ []) ++ flat_map step_marks q = cc in
    let marks : map mark_of tokens ≡ map Names step.args ++ Closes ∷ flat_map step_marks q = later ∙ append_assoc (map Names step.args) (Closes ∷ []) (flat_map step_marks q) in
    let count : length (p ++ step ∷ []) + length q ≤ step_limit = omega (arith, few, length-append p (step ∷ [])) in
    follows_more size (Outside (p ++ step ∷ q)) (Outside p) (Open at) (Word place text ∷ tokens) (may_begin (length p) (length q) at few)
    (follows_more size (Outside (p ++ step ∷ q)) (Begun p) (Word place text) tokens (rw (same, apart.0) refl)
    (arguments size (Outside (p ++ step ∷ q)) step.args p (record { action = text; args = [] }) tokens (flat_map step_marks q) marks apart.1 (λ rest is_rest.
    subst (λ (action : Name). Follows size (Outside (p ++ record { action = action; args = step.args } ∷ [])) rest (Outside (p ++ step ∷ q))) (sym same)
    (subst (λ (plan : Plan). Follows size (Outside (p ++ step ∷ [])) rest (Outside plan)) (append_assoc p (step ∷ []) q) (follows_plan size q (p ++ step ∷ []) rest is_rest all.1 count)))))

follows_text : (text : List ℕ) (plan : Plan) → IsPlanText text plan → length plan ≤ step_limit → Follows (length text) (Outside []) (tokens_of text).tokens (Outside plan)
follows_text text plan is few = follows_plan (length text) plan [] (tokens_of text).tokens is.marks is.words (omega (arith, few))

-- the marks tell the arguments and what comes behind them
args_apart : (xs ys : List Name) (m n : List Mark) → map Names xs ++ Closes ∷ m ≡ map Names ys ++ Closes ∷ n → (xs ≡ ys) × (m ≡ n)
args_apart [] [] m n is = (refl, cc)
args_apart [] (y ∷ ys) m n is = absurd cc
args_apart (x ∷ xs) [] m n is = absurd cc
args_apart (x ∷ xs) (y ∷ ys) m n is =
    let same : x ≡ y = cc in
    let rest : map Names xs ++ Closes ∷ m ≡ map Names ys ++ Closes ∷ n = cc in
    let apart = args_apart xs ys m n rest in
    ((λ i. same i ∷ apart.0 i), apart.1)

-- so the marks of a plan tell the plan
plans_apart : (p q : Plan) → flat_map step_marks p ≡ flat_map step_marks q → p ≡ q
plans_apart [] [] is = refl
plans_apart [] (step ∷ q) is = absurd cc
plans_apart (step ∷ p) [] is = absurd cc
plans_apart (step ∷ p) (other ∷ q) is =
    let named : step.action ≡ other.action = cc in
    let behind : (map Names step.args ++ Closes ∷ []) ++ flat_map step_marks p ≡ (map Names other.args ++ Closes ∷ []) ++ flat_map step_marks q = cc in
    let apart = args_apart step.args other.args (flat_map step_marks p) (flat_map step_marks q)
    (sym (append_assoc (map Names step.args) (Closes ∷ []) (flat_map step_marks p)) ∙ behind ∙ append_assoc (map Names other.args) (Closes ∷ []) (flat_map step_marks q)) in
    λ i. record { action = named i; args = apart.0 i } ∷ plans_apart p q apart.1 i

pub one_plan_at_most : (text : List ℕ) (p q : Plan) → IsPlanText text p → IsPlanText text q → p ≡ q
one_plan_at_most text p q is_p is_q = plans_apart p q (sym is_p.marks ∙ is_q.marks)

pub a_plan_where_no_offence : (text : List ℕ) → HasPlan text ↔ (plan_offence text ≡ None)
a_plan_where_no_offence text =
    ((λ has. ap (offence_from (length text) (texts.Outside 0) (tokens_of text).tokens) has.spelled.known ∙ (follows_text text has.plan has.spelled has.few).free), plan_of_text text)

-- ---- worked texts

pub steps_before_offences : StepsBeforeOffences
unfolding offence_from tokens_from steps_from
steps_before_offences = record { broken = refl; whole = refl }
