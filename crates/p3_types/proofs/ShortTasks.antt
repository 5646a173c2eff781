-- The numbers of a task that is read from texts are short.
use Rattle.std.proofs.Common.{IsTrue, List, [], ◌∷◌, ◌++◌, map, codes, Option, Some, None, inl, inr}
use Rattle.std.specs.Prelude.{filter_map, IfSome}
use Rattle.std.specs.List.{AllByRecursion}
use Rattle.std.proofs.lemmas.List.Elements.{All-from_recursion}
use Rattle.std.proofs.lemmas.List.Sums.{list_all-from_AllPass}
use Rattle.p3_base.specs.declared.refusal.Side.{Side}
use Rattle.p3_task.specs.Names.{Name}
use Rattle.p3_task.specs.Sides.{InDomain, InProblem}
use Rattle.p3_task.specs.Costs.{increases, amount_numeral, value_numeral, amount_numerals, value_numerals}
use Rattle.p3_task.specs.Grammar.Words.{◌>>=◌, Place, each_at, only, word_place, parts_place, name_place, function_place, predicate_place, is_word}
use Rattle.p3_task.specs.Grammar.Lists.{object_place, variables_place, objects_in}
use Rattle.p3_task.specs.Grammar.Effects.{effect_or_empty_place}
use Rattle.p3_task.specs.Grammar.Goals.{goal_or_empty_place}
use Rattle.p3_task.specs.Grammar.Constraints.{constraint_or_empty_place}
use Rattle.p3_task.specs.Grammar.Metrics.{metric_in}
use Rattle.p3_task.specs.Grammar.Halves.{Section, section_of, section_place, sections_named, at_most_one, or_absent, optional, once, sections_among, body_at, part_at, requirements, no_constraints, titled, half_in, half_at, action_keywords, keyword_parts, action_in, all_actions, kinds_in, predicates_in, functions_in, domain_keywords, domain_place, initial_in, true_entry, false_entry, not_form, value_form, init_forms, init_place, problem_keywords, problem_place}
use Rattle.p3_task.specs.Refusals.First.{HalfText, IsReadable}
use Rattle.p3_task.specs.declared.expression.Expression.{Expression}
use Rattle.p3_task.specs.declared.term.Ref.{Ref}
use Rattle.p3_task.specs.declared.effect.Effect.TheVariants as effect
use Rattle.p3_task.specs.declared.goal.PreGoal.TheVariants as goal
use Rattle.p3_task.specs.declared.metric.Metric.{Metric}
use Rattle.p3_task.specs.declared.task.Action.{Action}
use Rattle.p3_task.specs.declared.task.Init.{Init}
use Rattle.p3_task.specs.declared.task.Init.TheVariants as init
use Rattle.p3_task.specs.declared.task.Problem.{Problem}
use Rattle.p3_task.specs.declared.task.Task.{Task}
use Rattle.p3_types.specs.Texts.{HasTexts, metric_numerals, numerals, is_short, has_short_numbers}
use Rattle.p3_types.proofs.Gives.{Gives, nothing, just, using, passing, whether, choice, each_filtered, each_mapped, each_appended, each_joined, each_found, only_gives, pair_gives, trees_give, headed_gives}
use Rattle.p3_types.proofs.SpelledNumbers.{IsShort, HasShortWords, HaveShortWords, words_short, parts_short, numeral_short}
use Rattle.p3_types.proofs.ShortNumbers.{IsShortEffect, all_short, effect_or_empty_short, metric_short}

module _ (side : Side) where
  -- ---- sections

  abbrev IsShortSection : Section → Type 0
  IsShortSection section = HaveShortWords side section.behind

  abbrev AreShortSections : List Section → Type 0
  AreShortSections sections = AllByRecursion IsShortSection sections

  each_at_short : {A : Type 0} (P : A → Type 0) (place : Place A) → ((e : Expression) → HasShortWords side e → Gives P (place e))
      → (list : List Expression) → HaveShortWords side list → Gives (AllByRecursion P) (each_at place list)
  each_at_short P place short list each = trees_give P (map place list) (each_mapped (HasShortWords side) (Gives P) place short list each)

  section_short : (e : Expression) → HasShortWords side e → Gives IsShortSection (section_place e)
  section_short e short =
      using _ _ (parts_short side e short) (λ parts each.
      using _ _ (headed_gives (HasShortWords side) (λ (part : Expression). part) parts each) (λ list others.
      just (section_of list) others))

  among_short : (keywords : List Name) (sections : List Section) → AreShortSections sections → Gives AreShortSections (sections_among keywords sections)
  among_short keywords sections each = whether _ _ _ (just sections each) nothing

  -- what a keyword's section gives, where it stands once, or at most once
  module _ {A : Type 0} (P : A → Type 0) (keyword : Name) (reading : Section → Option A) (short : (section : Section) → IsShortSection section → Gives P (reading section))
      (sections : List Section) (each : AreShortSections sections) where
    once_short : Gives P (once keyword reading sections)
    once_short = using _ _ (only_gives IsShortSection (sections_named keyword sections) (each_filtered IsShortSection _ sections each)) short

    optional_short : (absent : A) → P absent → Gives P (optional keyword absent reading sections)
    optional_short absent of = by (sections_named keyword sections) (each_filtered IsShortSection _ sections each)
      where
        by : (found : List Section) → AreShortSections found → Gives P (at_most_one found >>= or_absent absent reading)
        by [] each = just absent of
        by (section ∷ []) each = short section each.0
        by (section ∷ other ∷ found) each = nothing

  part_short : {A : Type 0} (P : A → Type 0) (place : Place A) → ((e : Expression) → HasShortWords side e → Gives P (place e))
      → (section : Section) → IsShortSection section → Gives (λ part. P part.body) (part_at place section)
  part_short P place short section each =
      using _ _ (using _ _ (only_gives (HasShortWords side) section.behind each) short) (λ body of. just (record { at = section.word.at; body = body }) of)

  half_in_short : (kind : Name) (keywords : List Name) (list : List Expression) → HaveShortWords side list → Gives (λ half. AreShortSections half.sections) (half_in kind keywords list)
  half_in_short kind keywords [] each = nothing
  half_in_short kind keywords (word ∷ []) each = nothing
  half_in_short kind keywords (word ∷ title ∷ behind) each =
      passing (is_word (codes "define") word) _ (λ define.
      passing (titled kind title) _ (λ name.
      using _ _ (each_at_short IsShortSection section_place section_short behind each.1.1) (λ list found.
      using _ _ (among_short keywords list found) (λ sections those.
      just (record { name = name; sections = sections }) those))))

  half_short : (kind : Name) (keywords : List Name) (e : Expression) → HasShortWords side e → Gives (λ half. AreShortSections half.sections) (half_at kind keywords e)
  half_short kind keywords e short = using _ _ (parts_short side e short) (half_in_short kind keywords)

  -- ---- the domain half

  keyword_parts_short : (list : List Expression) → HaveShortWords side list → Gives AreShortSections (keyword_parts list)
  keyword_parts_short [] each = just [] tt
  keyword_parts_short (word ∷ []) each = nothing
  keyword_parts_short (word ∷ body ∷ behind) each =
      passing (word_place word) _ (λ keyword.
      using _ _ (keyword_parts_short behind each.1.1) (λ others those.
      just (record { word = keyword; behind = body ∷ [] } ∷ others) ((each.1.0, tt), those)))

  abbrev IsShortAction : Action → Type 0
  IsShortAction action = AllByRecursion (IsShort side) (filter_map amount_numeral (increases action.effect.body))

  action_short : (list : List Expression) → HaveShortWords side list → Gives IsShortAction (action_in list)
  action_short [] each = nothing
  action_short (first ∷ behind) each =
      passing (name_place first) _ (λ name.
      using _ _ (keyword_parts_short behind each.1) (λ list found.
      using _ _ (among_short action_keywords list found) (λ parts those.
      passing (optional (codes ":parameters") [] (body_at variables_place) parts) _ (λ params.
      passing (optional (codes ":precondition") (record { at = name.at; body = goal.Both [] }) (part_at goal_or_empty_place) parts) _ (λ pre.
      using _ _ (optional_short (λ part. IsShortEffect side part.body) (codes ":effect") (part_at effect_or_empty_place) (part_short (IsShortEffect side) effect_or_empty_place (effect_or_empty_short side))
      parts those (record { at = name.at; body = effect.All [] }) (all_short side [] tt)) (λ change of.
      just (record { name = name; params = params; pre = pre; effect = change }) (each_found (IsShort side) amount_numeral (increases change.body) of)))))))

  all_actions_short : (sections : List Section) → AreShortSections sections → Gives (AllByRecursion IsShortAction) (all_actions sections)
  all_actions_short [] each = just [] tt
  all_actions_short (section ∷ sections) each =
      using _ _ (action_short section.behind each.0) (λ first of.
      using _ _ (all_actions_short sections each.1) (λ others those.
      just (first ∷ others) (of, those)))

  domain_short : (e : Expression) → HasShortWords side e → Gives (λ domain. AllByRecursion IsShortAction domain.actions) (domain_place e)
  unfolding domain_place
  domain_short e short =
      using _ _ (half_short (codes "domain") domain_keywords e short) (λ half each.
      passing (optional (codes ":requirements") [] requirements half.sections) _ (λ words.
      passing (optional (codes ":types") [] kinds_in half.sections) _ (λ kinds.
      passing (optional (codes ":constants") [] (λ section. objects_in section.behind) half.sections) _ (λ constants.
      passing (optional (codes ":predicates") [] predicates_in half.sections) _ (λ predicates.
      passing (optional (codes ":functions") [] functions_in half.sections) _ (λ functions.
      passing (optional (codes ":constraints") no_constraints (part_at constraint_or_empty_place) half.sections) _ (λ constraints.
      using _ _ (all_actions_short (sections_named (codes ":action") half.sections) (each_filtered IsShortSection _ half.sections each)) (λ actions those.
      just (record { name = half.name; kinds = kinds; constants = constants; predicates = predicates; functions = functions; constraints = constraints; actions = actions }) those))))))))

  -- ---- the problem half

  abbrev IsShortInit : Init → Type 0
  IsShortInit entry = IfSome (value_numeral entry) (IsShort side)

  initial_short : (entry : Ref → List Expression → Option Init) (place : Place Ref) → ((word : Ref) (behind : List Expression) → Gives IsShortInit (entry word behind))
      → (list : List Expression) → Gives IsShortInit (initial_in entry place list)
  initial_short entry place short [] = nothing
  initial_short entry place short (first ∷ behind) = passing (place first) _ (λ word. short word behind)

  true_short : (pred : Ref) (behind : List Expression) → Gives IsShortInit (true_entry pred behind)
  true_short pred behind = passing (each_at object_place behind) _ (λ args. just (init.True pred args) tt)

  false_short : (pred : Ref) (behind : List Expression) → Gives IsShortInit (false_entry pred behind)
  false_short pred behind = passing (each_at object_place behind) _ (λ args. just (init.False pred args) tt)

  abbrev IsShortForm : (List Expression → Option Init) → Type 0
  IsShortForm form = (behind : List Expression) → HaveShortWords side behind → Gives IsShortInit (form behind)

  not_form_short : IsShortForm not_form
  not_form_short behind each = passing (only behind) _ (λ e. passing (parts_place e) _ (λ parts. initial_short false_entry predicate_place false_short parts))

  value_form_short : IsShortForm value_form
  value_form_short behind each =
      using _ _ (pair_gives (HasShortWords side) behind each) (λ both short.
      passing (parts_place both.0) _ (λ parts.
      using _ _ (numeral_short side both.1 short.1) (λ number of.
      initial_short _ function_place (λ function others. passing (each_at object_place others) _ (λ args. just (init.Value function args number) of)) parts)))

  init_short : (e : Expression) → HasShortWords side e → Gives IsShortInit (init_place e)
  init_short e short =
      using _ _ (parts_short side e short) (λ parts each.
      using _ _ (headed_gives (HasShortWords side) (λ (part : Expression). part) parts each) (λ list others.
      choice IsShortForm list.0.name init_forms (λ behind. initial_in true_entry predicate_place parts) (not_form_short, (value_form_short, tt))
      (λ behind those. initial_short true_entry predicate_place true_short parts) list.1 others))

  abbrev IsShortMetric : Option Metric → Type 0
  IsShortMetric metric = AllByRecursion (IsShort side) (metric_numerals metric)

  -- the values of its initial state and the numbers of its metric are short
  record IsShortProblem (problem : Problem) : Type 0 where
    init : AllByRecursion IsShortInit problem.init
    metric : IsShortMetric problem.metric

  problem_short : (e : Expression) → HasShortWords side e → Gives IsShortProblem (problem_place e)
  unfolding problem_place
  problem_short e short =
      using _ _ (half_short (codes "problem") problem_keywords e short) (λ half each.
      passing (once (codes ":domain") (body_at name_place) half.sections) _ (λ domain.
      passing (optional (codes ":requirements") [] requirements half.sections) _ (λ words.
      passing (optional (codes ":objects") [] (λ section. objects_in section.behind) half.sections) _ (λ objects.
      using _ _ (once_short (AllByRecursion IsShortInit) (codes ":init") (λ section. each_at init_place section.behind)
      (λ section. each_at_short IsShortInit init_place init_short section.behind) half.sections each) (λ entries init.
      passing (once (codes ":goal") (part_at goal_or_empty_place) half.sections) _ (λ goal.
      passing (optional (codes ":constraints") no_constraints (part_at constraint_or_empty_place) half.sections) _ (λ constraints.
      using _ _ (optional_short IsShortMetric (codes ":metric") (λ section. metric_in section.behind >>= λ found. Some (Some found))
      (λ section those. using _ _ (metric_short side section.behind those) (λ found of. just (Some found) of)) half.sections each None tt) (λ metric of.
      just (record { name = half.name; domain = domain; objects = objects; init = entries; goal = goal; constraints = constraints; metric = metric }) (record { init = init; metric = of })))))))))

-- ---- the task

pub short_numbers : (side : Side) (T : Task) → HasTexts side T → IsTrue (has_short_numbers side T)
unfolding has_short_numbers
short_numbers side T texts =
    let first : IsReadable (HalfText side InDomain texts.domain) = λ refusal is. texts.readable refusal (inl is) in
    let second : IsReadable (HalfText side InProblem texts.problem) = λ refusal is. texts.readable refusal (inr (first, inl is)) in
    let domain = words_short side InDomain texts.domain texts.reads.domain first texts.reads.domain_balanced in
    let problem = words_short side InProblem texts.problem texts.reads.problem second texts.reads.problem_balanced in
    let actions = (domain_short side texts.reads.domain domain).gives T.domain texts.reads.texts.domain in
    let both = (problem_short side texts.reads.problem problem).gives T.problem texts.reads.texts.problem in
    list_all-from_AllPass (is_short side) (numerals T) (All-from_recursion (IsShort side) (numerals T)
    (each_appended (IsShort side) (amount_numerals T ++ value_numerals T) (metric_numerals T.problem.metric)
    (each_appended (IsShort side) (amount_numerals T) (value_numerals T)
    (each_joined (IsShort side) (λ action. filter_map amount_numeral (increases action.effect.body)) T.domain.actions actions)
    (each_found (IsShort side) value_numeral T.problem.init both.init)) both.metric))
