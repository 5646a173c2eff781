-- What is true of each word of two texts is true of the names of their task's actions, constants and objects.
use Rattle.std.proofs.Common.{◌≡◌, ◌∙◌, refl, sym, ap, ℕ, Bool, true, false, ◌&&◌, if◌then◌else◌, List, [], ◌∷◌, map, codes, Some, None}
use Rattle.std.specs.List.{AllByRecursion, list_all}
use Rattle.std.proofs.lemmas.Bool.{and_parts}
use Rattle.std.proofs.lemmas.List.Folds.{list_all-append}
use mathlib.Core.Former.{Count}
use Rattle.p3_task.specs.Expressions.{kept, spelling, spellings}
use Rattle.p3_task.specs.Grammar.Constraints.{constraint_or_empty_place}
use Rattle.p3_task.specs.Grammar.Effects.{effect_or_empty_place}
use Rattle.p3_task.specs.Grammar.Goals.{goal_or_empty_place}
use Rattle.p3_task.specs.Grammar.Halves.{Section, action_in, action_keywords, all_actions, at_most_one, body_at, domain_keywords, domain_place, functions_in, half_at, half_in, init_place, keyword_parts, kinds_in, no_constraints, once, optional, or_absent, part_at, predicates_in, problem_keywords, problem_place, requirements, section_of, section_place, sections_among, sections_named, titled}
use Rattle.p3_task.specs.Grammar.Lists.{objects_in, one_type_place, typed_item, variables_place}
use Rattle.p3_task.specs.Grammar.Metrics.{metric_in}
use Rattle.p3_task.specs.Grammar.Texts.{IsBalanced}
use Rattle.p3_task.specs.Grammar.Words.{◌>>=◌, each_at, expressions, is_name, is_word, name_place, parts_place}
use Rattle.p3_task.specs.Names.{Name}
use Rattle.p3_task.specs.Tokens.{Token, Open, Close, Word, tokens_of}
use Rattle.p3_task.specs.declared.effect.Effect.TheVariants as effect
use Rattle.p3_task.specs.declared.expression.Expression.{Expression, Row_of-Expression, end_of-Expression, more_of-Expression}
use Rattle.p3_task.specs.declared.expression.Expression.TheVariants as expression
use Rattle.p3_task.specs.declared.goal.PreGoal.TheVariants as goal
use Rattle.p3_task.specs.declared.task.Action.{Action}
use Rattle.p3_task.specs.declared.task.Domain.{Domain}
use Rattle.p3_task.specs.declared.term.Ref.{Ref}
use Rattle.p3_task.specs.declared.term.Typed.{Typed}
use Rattle.p3_types.proofs.Gives.{Gives, nothing, just, using, passing, whether, each_filtered, each_mapped, headed_gives, trees_give}
use Rattle.p3_cli.proofs.GroupLemmas.{grouped_gives}

module _ (test : Name → Bool) where
  -- ---- words

  abbrev pub passes : Token → Bool
  passes (Open at) = true
  passes (Close at) = true
  passes (Word at text) = test text

  -- each word of it passes the test
  unfoldable mutual
    pub HasWords : Expression → Type 0
    HasWords (expression.Word at text) = test text ≡ true
    HasWords (expression.Group' at shape parts) = RowHasWords parts

    pub RowHasWords : {n : Count} → Row_of-Expression n → Type 0
    RowHasWords end_of-Expression = Unit {0}
    RowHasWords (more_of-Expression part rest) = HasWords part × RowHasWords rest

  abbrev HaveWords : List Expression → Type 0
  HaveWords list = AllByRecursion HasWords list

  mutual
    unfolding HasWords spelling

    spelled_words : (e : Expression) → list_all passes (spelling e) ≡ true → HasWords e
    spelled_words (expression.Word at text) all = (and_parts (test text) true all).0
    spelled_words (expression.Group' at shape parts) all =
        row_words parts (and_parts (list_all passes (spellings parts)) true (sym (list_all-append passes (spellings parts) (Close 0 ∷ [])) ∙ all)).0

    row_words : {n : Count} (row : Row_of-Expression n) → list_all passes (spellings row) ≡ true → RowHasWords row
    row_words end_of-Expression all = tt
    row_words (more_of-Expression part rest) all =
        let both = and_parts (list_all passes (spelling part)) (list_all passes (spellings rest)) (sym (list_all-append passes (spelling part) (spellings rest)) ∙ all) in
        (spelled_words part both.0, row_words rest both.1)

  kept_passes : (token : Token) → passes (kept token) ≡ passes token
  kept_passes (Open at) = refl
  kept_passes (Close at) = refl
  kept_passes (Word at text) = refl

  all_kept : (tokens : List Token) → list_all passes (map kept tokens) ≡ list_all passes tokens
  all_kept [] = refl
  all_kept (token ∷ tokens) = λ i. kept_passes token i && all_kept tokens i

  -- the words of an expression are those of its text
  pub words_of_text : (text : List ℕ) (e : Expression) → IsBalanced text e → list_all passes (tokens_of text).tokens ≡ true → HasWords e
  words_of_text text e balanced all = spelled_words e (ap (list_all passes) (sym balanced.spelled) ∙ all_kept (tokens_of text).tokens ∙ all)

  -- ---- names

  parts_words : (e : Expression) → HasWords e → Gives HaveWords (parts_place e)
  unfolding HasWords
  parts_words (expression.Word at text) has = nothing
  parts_words (expression.Group' at shape parts) has = just (expressions parts) (row parts has)
    where
      row : {n : Count} (parts : Row_of-Expression n) → RowHasWords parts → HaveWords (expressions parts)
      row end_of-Expression has = tt
      row (more_of-Expression part rest) has = (has.0, row rest has.1)

  -- a name that passes the test
  pub record IsTested (name : Name) : Type 0 where
    pub is_name : is_name name ≡ true
    pub passes : test name ≡ true

  abbrev IsTestedRef : Ref → Type 0
  IsTestedRef name = IsTested name.name

  abbrev pub IsTestedTyped : Typed → Type 0
  IsTestedTyped typed = IsTested typed.name.name

  abbrev pub IsTestedAction : Action → Type 0
  IsTestedAction action = IsTested action.name.name

  name_if : (name : Ref) → test name.name ≡ true → (t : Bool) → is_name name.name ≡ t → Gives IsTestedRef (if t then Some name else None)
  name_if name passes true is = just name (record { is_name = is; passes = passes })
  name_if name passes false is = nothing

  name_tested : (e : Expression) → HasWords e → Gives IsTestedRef (name_place e)
  unfolding HasWords
  name_tested (expression.Word at text) has = name_if (record { name = text; at = at }) has (is_name text) refl
  name_tested (expression.Group' at shape parts) has = nothing

  objects_tested : (list : List Expression) → HaveWords list → Gives (AllByRecursion IsTestedTyped) (objects_in list)
  objects_tested list each =
      using _ _ (grouped_gives IsTestedRef HasWords name_place one_type_place name_tested list each) (λ items are.
      just (map typed_item items) (each_mapped (λ item. IsTestedRef item.0) IsTestedTyped typed_item (λ item of. of) items are))

  -- ---- sections

  abbrev IsTestedSection : Section → Type 0
  IsTestedSection section = HaveWords section.behind

  abbrev AreTestedSections : List Section → Type 0
  AreTestedSections sections = AllByRecursion IsTestedSection sections

  section_tested : (e : Expression) → HasWords e → Gives IsTestedSection (section_place e)
  section_tested e has =
      using _ _ (parts_words e has) (λ parts each.
      using _ _ (headed_gives HasWords (λ (part : Expression). part) parts each) (λ list others.
      just (section_of list) others))

  half_in_tested : (kind : Name) (keywords : List Name) (list : List Expression) → HaveWords list → Gives (λ half. AreTestedSections half.sections) (half_in kind keywords list)
  half_in_tested kind keywords [] each = nothing
  half_in_tested kind keywords (word ∷ []) each = nothing
  half_in_tested kind keywords (word ∷ title ∷ behind) each =
      passing (is_word (codes "define") word) _ (λ define.
      passing (titled kind title) _ (λ name.
      using _ _ (trees_give IsTestedSection (map section_place behind) (each_mapped HasWords (Gives IsTestedSection) section_place section_tested behind each.1.1)) (λ list found.
      using _ _ (whether _ _ _ (just list found) nothing) (λ sections those.
      just (record { name = name; sections = sections }) those))))

  half_tested : (kind : Name) (keywords : List Name) (e : Expression) → HasWords e → Gives (λ half. AreTestedSections half.sections) (half_at kind keywords e)
  half_tested kind keywords e has = using _ _ (parts_words e has) (half_in_tested kind keywords)

  -- the objects of a section that stands at most once
  listed_tested : (keyword : Name) (sections : List Section) → AreTestedSections sections
      → Gives (AllByRecursion IsTestedTyped) (optional keyword [] (λ section. objects_in section.behind) sections)
  listed_tested keyword sections each = by (sections_named keyword sections) (each_filtered IsTestedSection _ sections each)
    where
      by : (found : List Section) → AreTestedSections found → Gives (AllByRecursion IsTestedTyped) (at_most_one found >>= or_absent [] (λ section. objects_in section.behind))
      by [] each = just [] tt
      by (section ∷ []) each = objects_tested section.behind each.0
      by (section ∷ other ∷ found) each = nothing

  -- ---- the halves

  action_tested : (list : List Expression) → HaveWords list → Gives IsTestedAction (action_in list)
  action_tested [] each = nothing
  action_tested (first ∷ behind) each =
      using _ _ (name_tested first each.0) (λ name of.
      passing (keyword_parts behind) _ (λ list.
      passing (sections_among action_keywords list) _ (λ parts.
      passing (optional (codes ":parameters") [] (body_at variables_place) parts) _ (λ params.
      passing (optional (codes ":precondition") (record { at = name.at; body = goal.Both [] }) (part_at goal_or_empty_place) parts) _ (λ pre.
      passing (optional (codes ":effect") (record { at = name.at; body = effect.All [] }) (part_at effect_or_empty_place) parts) _ (λ change.
      just (record { name = name; params = params; pre = pre; effect = change }) of))))))

  all_actions_tested : (sections : List Section) → AreTestedSections sections → Gives (AllByRecursion IsTestedAction) (all_actions sections)
  all_actions_tested [] each = just [] tt
  all_actions_tested (section ∷ sections) each =
      using _ _ (action_tested section.behind each.0) (λ first of.
      using _ _ (all_actions_tested sections each.1) (λ others those.
      just (first ∷ others) (of, those)))

  pub record IsTestedDomain (domain : Domain) : Type 0 where
    pub constants : AllByRecursion IsTestedTyped domain.constants
    pub actions : AllByRecursion IsTestedAction domain.actions

  pub domain_tested : (e : Expression) → HasWords e → Gives IsTestedDomain (domain_place e)
  unfolding domain_place
  domain_tested e has =
      using _ _ (half_tested (codes "domain") domain_keywords e has) (λ half each.
      passing (optional (codes ":requirements") [] requirements half.sections) _ (λ words.
      passing (optional (codes ":types") [] kinds_in half.sections) _ (λ kinds.
      using _ _ (listed_tested (codes ":constants") half.sections each) (λ constants are.
      passing (optional (codes ":predicates") [] predicates_in half.sections) _ (λ predicates.
      passing (optional (codes ":functions") [] functions_in half.sections) _ (λ functions.
      passing (optional (codes ":constraints") no_constraints (part_at constraint_or_empty_place) half.sections) _ (λ constraints.
      using _ _ (all_actions_tested (sections_named (codes ":action") half.sections) (each_filtered IsTestedSection _ half.sections each)) (λ actions those.
      just (record { name = half.name; kinds = kinds; constants = constants; predicates = predicates; functions = functions; constraints = constraints; actions = actions })
      (record { constants = are; actions = those })))))))))

  pub problem_tested : (e : Expression) → HasWords e → Gives (λ problem. AllByRecursion IsTestedTyped problem.objects) (problem_place e)
  unfolding problem_place
  problem_tested e has =
      using _ _ (half_tested (codes "problem") problem_keywords e has) (λ half each.
      passing (once (codes ":domain") (body_at name_place) half.sections) _ (λ domain.
      passing (optional (codes ":requirements") [] requirements half.sections) _ (λ words.
      using _ _ (listed_tested (codes ":objects") half.sections each) (λ objects are.
      passing (once (codes ":init") (λ section. each_at init_place section.behind) half.sections) _ (λ entries.
      passing (once (codes ":goal") (part_at goal_or_empty_place) half.sections) _ (λ goal.
      passing (optional (codes ":constraints") no_constraints (part_at constraint_or_empty_place) half.sections) _ (λ constraints.
      passing (optional (codes ":metric") None (λ section. metric_in section.behind >>= λ found. Some (Some found)) half.sections) _ (λ metric.
      just (record { name = half.name; domain = domain; objects = objects; init = entries; goal = goal; constraints = constraints; metric = metric }) are))))))))
