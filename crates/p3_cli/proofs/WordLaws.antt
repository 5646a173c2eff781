-- Plans that are lifted to a task read from texts, and plans of a target, have words that can be written.
use Rattle.std.proofs.Common.{◌≡◌, ◌∙◌, refl, sym, subst, ℕ, ◌+◌, Bool, true, false, not, ◌&&◌, ◌||◌, cond, List, [], ◌∷◌, map, flat_map, Option, Some, None, arith}
use Rattle.std.specs.Prelude.{◌==◌, find, filter_map, option_map, IfSome, bytes_eq}
use Rattle.std.specs.List.{AllByRecursion, enumerate_from, list_all}
use Rattle.std.proofs.lemmas.Bool.{and_parts, and_from}
use Rattle.std.proofs.lemmas.Bool.Decides.{nat_tests}
use Rattle.std.proofs.lemmas.List.Elements.{All-from_recursion}
use Rattle.std.proofs.lemmas.List.Folds.{list_all-append}
use Rattle.std.proofs.lemmas.List.Sums.{list_all-from_AllPass}
use Rattle.std.proofs.lemmas.Slice.Eq.{bytes_eq-Decides}
use Rattle.p3_base.specs.Words.{is_letter, is_lowered, is_name}
use Rattle.p3_task.specs.Bindings.{tuples}
use Rattle.p3_task.specs.Grammar.Texts.{IsBalanced, Reads}
use Rattle.p3_task.specs.Lifting.{counts_as, lift, lifted_step, steps, steps_of}
use Rattle.p3_task.specs.Names.{Name}
use Rattle.p3_task.specs.PlanTexts.{is_plan_word, mark_of}
use Rattle.p3_task.specs.Plans.{Plan}
use Rattle.p3_task.specs.Tokens.{Token, Open, Close, Word, tokens_of}
use Rattle.p3_task.specs.Types.{declared_objects, is_object_of, objects, once_each}
use Rattle.p3_task.specs.declared.expression.Expression.{Expression}
use Rattle.p3_task.specs.declared.task.Action.{Action}
use Rattle.p3_task.specs.declared.task.Step.{Step}
use Rattle.p3_task.specs.declared.task.Task.{Task}
use Rattle.p3_task.specs.declared.term.Ref.{Ref}
use Rattle.p3_task.specs.declared.term.Typed.{Typed}
use Rattle.p3_lexer.proofs.WordLemmas.{is_word}
use Rattle.p3_lexer.proofs.MarkLemmas.{is_lexed, text_lexed}
use Rattle.p3_formula.specs.Forms.{State}
use Rattle.p3_formula.specs.Targets.{IsNamed, TargetPlan, TargetValid, action_names, action_of, fits_by, reaches_goal, state_by}
use Rattle.p3_formula.specs.declared.target.Target.{Target}
use Rattle.p3_formula.specs.declared.target.TargetAction.{TargetAction}
use Rattle.p3_plans.specs.Layout.{has_written_words, is_written_word}
use Rattle.p3_types.proofs.Gives.{each_appended, each_filtered, each_found, each_mapped}
use Rattle.p3_cli.proofs.NameLemmas.{HasWords, IsTested, IsTestedAction, IsTestedDomain, IsTestedTyped, domain_tested, passes, problem_tested, words_of_text}

-- ---- names

abbrev IsWritten : Name → Type 0
IsWritten name = is_written_word name ≡ true

no_mark : (byte : ℕ) → is_letter byte ≡ true → not (byte == 63 || byte == 58) ≡ true
no_mark byte is = grind (arith, nat_tests)

-- a name in lower case is a word that can be written
name_written : (name : Name) → is_name name ≡ true → list_all is_lowered name ≡ true → IsWritten name
name_written [] is lowered = absurd cc
name_written (byte ∷ bytes) is lowered = and_from (is_plan_word (byte ∷ bytes)) (list_all is_lowered (byte ∷ bytes)) (no_mark byte is) lowered

tested_written : (name : Name) → IsTested is_word name → IsWritten name
tested_written [] is = name_written [] is.is_name refl
tested_written (byte ∷ bytes) is = name_written (byte ∷ bytes) is.is_name is.passes

-- ---- the words of texts

lexed_token : (token : Token) → is_lexed (mark_of token) ≡ passes is_word token
lexed_token (Open at) = refl
lexed_token (Close at) = refl
lexed_token (Word at text) = refl

lexed_tokens : (tokens : List Token) → list_all is_lexed (map mark_of tokens) ≡ list_all (passes is_word) tokens
lexed_tokens [] = refl
lexed_tokens (token ∷ tokens) = λ i. lexed_token token i && lexed_tokens tokens i

text_words : (text : List ℕ) (e : Expression) → IsBalanced text e → HasWords is_word e
text_words text e balanced = words_of_text is_word text e balanced (sym (lexed_tokens (tokens_of text).tokens) ∙ text_lexed false 0 text)

-- ---- the steps of a task

abbrev AreWritten : List Name → Type 0
AreWritten names = list_all is_written_word names ≡ true

abbrev IsWrittenStep : Step → Type 0
IsWrittenStep step = has_written_words step ≡ true

once_written : (names : List Name) → AllByRecursion IsWritten names → AllByRecursion IsWritten (once_each names)
once_written [] each = tt
once_written (name ∷ names) each = (each.0, each_filtered IsWritten _ (once_each names) (once_written names each.1))

headed_written : (rests : List (List Name)) → AllByRecursion AreWritten rests → (names : List Name) → AllByRecursion IsWritten names
    → AllByRecursion AreWritten (flat_map (λ name. map (λ rest. name ∷ rest) rests) names)
headed_written rests those [] each = tt
headed_written rests those (name ∷ names) each =
    each_appended AreWritten (map (λ rest. name ∷ rest) rests) (flat_map (λ name. map (λ rest. name ∷ rest) rests) names)
    (each_mapped AreWritten AreWritten (λ rest. name ∷ rest) (λ rest are. and_from (is_written_word name) (list_all is_written_word rest) each.0 are) rests those)
    (headed_written rests those names each.1)

module _ (T : Task) (declared : AllByRecursion (IsTestedTyped is_word) (declared_objects T)) (actions : AllByRecursion (IsTestedAction is_word) T.domain.actions) where
  objects_written : (types : List Ref) → AllByRecursion IsWritten (objects T types)
  unfolding objects
  objects_written types =
      let names : List Name = map (λ (typed : Typed). typed.name.name) (declared_objects T) in
      each_filtered IsWritten (is_object_of T types) (once_each names) (once_written names
      (each_mapped (IsTestedTyped is_word) IsWritten (λ typed. typed.name.name) (λ typed is. tested_written typed.name.name is) (declared_objects T) declared))

  tuples_written : (params : List Typed) → AllByRecursion AreWritten (tuples T params)
  unfolding tuples
  tuples_written [] = (refl, tt)
  tuples_written (param ∷ params) = headed_written (tuples T params) (tuples_written params) (objects T param.types) (objects_written param.types)

  action_written : (action : Action) → IsTestedAction is_word action → AllByRecursion IsWrittenStep (steps_of T action)
  action_written action is =
      each_mapped AreWritten IsWrittenStep _ (λ tuple are. and_from (is_written_word action.name.name) (list_all is_written_word tuple) (tested_written action.name.name is) are)
      (tuples T action.params) (tuples_written action.params)

  actions_written : (actions : List Action) → AllByRecursion (IsTestedAction is_word) actions → AllByRecursion IsWrittenStep (flat_map (steps_of T) actions)
  actions_written [] each = tt
  actions_written (action ∷ actions) each =
      each_appended IsWrittenStep (steps_of T action) (flat_map (steps_of T) actions) (action_written action each.0) (actions_written actions each.1)

  steps_written : AllByRecursion IsWrittenStep (steps T)
  unfolding steps
  steps_written = actions_written T.domain.actions actions

-- ---- lifted plans

module _ {A : Type 0} (P : A → Type 0) where
  each_numbered : (from : ℕ) (list : List A) → AllByRecursion P list → AllByRecursion (λ (numbered : ℕ × A). P numbered.1) (enumerate_from from list)
  each_numbered from [] each = tt
  each_numbered from (a ∷ list) each = (each.0, each_numbered (from + 1) list each.1)

  one_found : (test : A → Bool) (list : List A) → AllByRecursion P list → IfSome (find test list) P
  one_found test [] each = tt
  one_found test (a ∷ list) each = by (test a) (one_found test list each.1)
    where
      by : (t : Bool) → IfSome (find test list) P → IfSome (cond t (Some a) (find test list)) P
      by true later = each.0
      by false later = later

unnumbered : (found : Option (ℕ × Step)) → IfSome found (λ numbered. IsWrittenStep numbered.1) → IfSome (option_map (λ (numbered : ℕ × Step). numbered.1) found) IsWrittenStep
unnumbered None of = tt
unnumbered (Some numbered) of = of

step_written : (T : Task) → AllByRecursion IsWrittenStep (steps T) → (written : Step) → IfSome (lifted_step T written) IsWrittenStep
unfolding lifted_step
step_written T each written =
    unnumbered (find (counts_as written) (enumerate_from 0 (steps T)))
    (one_found (λ (numbered : ℕ × Step). IsWrittenStep numbered.1) (counts_as written) (enumerate_from 0 (steps T)) (each_numbered IsWrittenStep 0 (steps T) each))

plan_written : (T : Task) → AllByRecursion IsWrittenStep (steps T) → (plan : Plan) → AllByRecursion (λ written. IfSome (lifted_step T written) IsWrittenStep) plan
plan_written T each [] = tt
plan_written T each (written ∷ plan) = (step_written T each written, plan_written T each plan)

pub lifted_words : (d p : List ℕ) (T : Task) → Reads d p T → (plan : Plan) → list_all has_written_words (lift T plan) ≡ true
unfolding lift
lifted_words d p T reads plan =
    let domain : IsTestedDomain is_word T.domain = (domain_tested is_word reads.domain (text_words d reads.domain reads.domain_balanced)).gives T.domain reads.texts.domain in
    let objects = (problem_tested is_word reads.problem (text_words p reads.problem reads.problem_balanced)).gives T.problem reads.texts.problem in
    let declared = each_appended (IsTestedTyped is_word) T.domain.constants T.problem.objects domain.constants objects in
    list_all-from_AllPass has_written_words (filter_map (lifted_step T) plan) (All-from_recursion IsWrittenStep (filter_map (lifted_step T) plan)
    (each_found IsWrittenStep (lifted_step T) plan (plan_written T (steps_written T declared domain.actions) plan)))

-- ---- plans of a target

abbrev IsWrittenAction : TargetAction → Type 0
IsWrittenAction action = IsWritten action.name

target_written : (actions : List TargetAction) → list_all is_name (map (λ action. action.name) actions) ≡ true → list_all (list_all is_lowered) (map (λ action. action.name) actions) ≡ true
    → AllByRecursion IsWrittenAction actions
target_written [] names lowered = tt
target_written (action ∷ actions) names lowered =
    let are = and_parts (is_name action.name) (list_all is_name (map (λ action. action.name) actions)) names in
    let low = and_parts (list_all is_lowered action.name) (list_all (list_all is_lowered) (map (λ action. action.name) actions)) lowered in
    (name_written action.name are.0 low.0, target_written actions are.1 low.1)

-- a name that fits is one of an action
fitting_written : (name : Name) (state : State) (actions : List TargetAction) → AllByRecursion IsWrittenAction actions
    → fits_by state (find (λ action. bytes_eq action.name name) actions) ≡ true → IsWritten name
fitting_written name state [] each fits = absurd cc
fitting_written name state (action ∷ actions) each fits = by (bytes_eq action.name name) refl fits (fitting_written name state actions each.1)
  where
    by : (t : Bool) → bytes_eq action.name name ≡ t → fits_by state (cond t (Some action) (find (λ action. bytes_eq action.name name) actions)) ≡ true
        → (fits_by state (find (λ action. bytes_eq action.name name) actions) ≡ true → IsWritten name) → IsWritten name
    by true same fits later = subst IsWritten ((bytes_eq-Decides action.name name).0 same) each.0
    by false same fits later = later fits

module _ (X : Target) (actions : AllByRecursion IsWrittenAction X.actions) where
  reaching_written : (state : State) (names : TargetPlan) → reaches_goal X state names ≡ true → AreWritten names
  unfolding reaches_goal
  reaching_written state [] reaches = refl
  reaching_written state (name ∷ names) reaches =
      let both = and_parts (fits_by state (action_of X name)) (reaches_goal X (state_by state (action_of X name)) names) reaches in
      and_from (is_written_word name) (list_all is_written_word names) (fitting_written name state X.actions actions both.0) (reaching_written (state_by state (action_of X name)) names both.1)

pub target_words : (X : Target) → IsNamed X → (names : TargetPlan) → TargetValid X names → list_all is_written_word names ≡ true
target_words X named names valid =
    let lowered = and_parts (list_all (list_all is_lowered) X.predicates) (list_all (list_all is_lowered) (action_names X)) (sym (list_all-append (list_all is_lowered) X.predicates (action_names X)) ∙ named.spelled) in
    reaching_written X (target_written X.actions named.actions lowered.1) X.initial names valid
