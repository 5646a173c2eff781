-- Texts of the two halves of a task. Sections, and the parts of an action, stand in any order.
use Rattle.std.specs.Prelude.{◌==◌, Bool, false, List, [], ◌∷◌, map, filter, codes, if◌then◌else◌, Option, Some, None}
use Rattle.std.specs.List.{list_all}
use Rattle.p3_task.specs.Names.{Name, same_name, has_name}
use Rattle.p3_task.specs.Grammar.Words.{◌>>=◌, Place, IsText, each_at, only, pair, word_place, parts_place, name_place, predicate_place, function_place, numeral_place, word_if, is_word, headed, choose}
use Rattle.p3_task.specs.Grammar.Lists.{object_place, grouped, variables_in, variables_place, objects_in}
use Rattle.p3_task.specs.Grammar.Effects.{effect_or_empty_place}
use Rattle.p3_task.specs.Grammar.Goals.{goal_or_empty_place}
use Rattle.p3_task.specs.Grammar.Constraints.{constraint_or_empty_place}
use Rattle.p3_task.specs.Grammar.Metrics.{metric_in}
use Rattle.p3_task.specs.declared.expression.Expression.{Expression}
use Rattle.p3_task.specs.declared.term.Ref.{Ref}
use Rattle.p3_task.specs.declared.effect.Effect.TheVariants as effect
use Rattle.p3_task.specs.declared.goal.PreGoal.TheVariants as goal
use Rattle.p3_task.specs.declared.constraint.Constraint.{Constraint}
use Rattle.p3_task.specs.declared.constraint.Constraint.TheVariants as constraint
use Rattle.p3_task.specs.declared.task.Part.{Part}
use Rattle.p3_task.specs.declared.task.Kind.{Kind}
use Rattle.p3_task.specs.declared.task.Header.{Header}
use Rattle.p3_task.specs.declared.task.Action.{Action}
use Rattle.p3_task.specs.declared.task.Init.{Init}
use Rattle.p3_task.specs.declared.task.Init.TheVariants as init
use Rattle.p3_task.specs.declared.task.Domain.{Domain}
use Rattle.p3_task.specs.declared.task.Problem.{Problem}
use Rattle.p3_task.specs.declared.task.Task.{Task}

-- ---- sections

-- a keyword and what stands behind it
pub record Section : Type 0 where
  pub word : Ref
  pub behind : List Expression

abbrev pub section_of : Ref × List Expression → Section
section_of list = record { word = list.0; behind = list.1 }

-- `(` word x* `)`: a section, or an action
abbrev pub section_place : Place Section
section_place e = do
  parts ← parts_place e
  list ← headed (λ (part : Expression). part) parts
  Some (section_of list)

abbrev pub sections_named : Name → List Section → List Section
sections_named keyword sections = filter (λ section. same_name section.word.name keyword) sections

abbrev pub at_most_one : List Section → Option (Option Section)
at_most_one [] = Some None
at_most_one (section ∷ []) = Some (Some section)
at_most_one _ = None

abbrev pub or_absent : {A : Type 0} → A → (Section → Option A) → Option Section → Option A
or_absent absent reading None = Some absent
or_absent absent reading (Some section) = reading section

-- what the section of that keyword gives, where it stands at most once
abbrev pub optional : {A : Type 0} → Name → A → (Section → Option A) → List Section → Option A
optional keyword absent reading sections = at_most_one (sections_named keyword sections) >>= or_absent absent reading

abbrev pub once : {A : Type 0} → Name → (Section → Option A) → List Section → Option A
once keyword reading sections = only (sections_named keyword sections) >>= reading

-- sections with these keywords alone
abbrev pub sections_among : List Name → List Section → Option (List Section)
sections_among keywords sections = if list_all (λ section. has_name keywords section.word.name) sections then Some sections else None

-- the one part behind a keyword
abbrev pub body_at : {A : Type 0} → Place A → Section → Option A
body_at place section = only section.behind >>= place

-- and the keyword's offset
abbrev pub part_at : {A : Type 0} → Place A → Section → Option (Part A)
part_at place section = body_at place section >>= λ body. Some (record { at = section.word.at; body = body })

abbrev pub begins_with_colon : Name → Bool
begins_with_colon [] = false
begins_with_colon (byte ∷ bytes) = byte == 58

-- `(:requirements` word* `)`, each word beginning with `:`; nothing depends on them
abbrev pub requirements : Section → Option (List Ref)
requirements section = each_at (word_if begins_with_colon) section.behind

abbrev pub no_constraints : Part Constraint
no_constraints = record { at = 0; body = constraint.Both [] }

-- `(define (` KIND name `)` section* `)`
pub record NamedSections : Type 0 where
  pub name : Ref
  pub sections : List Section

abbrev pub titled : Name → Expression → Option Ref
titled kind e = do
  parts ← parts_place e
  both ← pair parts
  word ← is_word kind both.0
  name_place both.1

abbrev pub half_in : Name → List Name → List Expression → Option NamedSections
half_in kind keywords (word ∷ title ∷ behind) = do
  define ← is_word (codes "define") word
  name ← titled kind title
  list ← each_at section_place behind
  sections ← sections_among keywords list
  Some (record { name = name; sections = sections })
half_in kind keywords _ = None

abbrev pub half_at : Name → List Name → Place NamedSections
half_at kind keywords e = parts_place e >>= half_in kind keywords

-- ---- actions

abbrev pub action_keywords : List Name
action_keywords = codes ":parameters" ∷ codes ":precondition" ∷ codes ":effect" ∷ []

-- keywords and their bodies
abbrev pub keyword_parts : List Expression → Option (List Section)
keyword_parts [] = Some []
keyword_parts (word ∷ []) = None
keyword_parts (word ∷ body ∷ behind) = do
  keyword ← word_place word
  others ← keyword_parts behind
  Some (record { word = keyword; behind = body ∷ [] } ∷ others)

-- `(:action` name action-part* `)`
-- action-part: `:parameters (` variable-list `)` | `:precondition` pre-goal-or-empty | `:effect` effect-or-empty
-- Each stands at most once. An absent one means no parameters, `(and)` or no effect, and has the offset of the action's name.
abbrev pub action_in : List Expression → Option Action
action_in [] = None
action_in (first ∷ behind) = do
  name ← name_place first
  list ← keyword_parts behind
  parts ← sections_among action_keywords list
  params ← optional (codes ":parameters") [] (body_at variables_place) parts
  pre ← optional (codes ":precondition") (record { at = name.at; body = goal.Both [] }) (part_at goal_or_empty_place) parts
  change ← optional (codes ":effect") (record { at = name.at; body = effect.All [] }) (part_at effect_or_empty_place) parts
  Some (record { name = name; params = params; pre = pre; effect = change })

abbrev pub all_actions : List Section → Option (List Action)
all_actions [] = Some []
all_actions (section ∷ sections) = do
  first ← action_in section.behind
  others ← all_actions sections
  Some (first ∷ others)

-- ---- the domain half

abbrev pub kind_item : Ref × Option Ref → Kind
kind_item item = record { name = item.0; parent = item.1 }

-- `(:types` kind-group* name* `)`, where kind-group is name+ `-` name
abbrev pub kinds_in : Section → Option (List Kind)
kinds_in section = grouped name_place name_place section.behind >>= λ items. Some (map kind_item items)

-- header: `(` name variable-list `)`
abbrev pub header_in : Place Ref → List Expression → Option Header
header_in place [] = None
header_in place (first ∷ behind) = do
  name ← place first
  params ← variables_in behind
  Some (record { name = name; params = params })

abbrev pub header_place : Place Ref → Place Header
header_place place e = parts_place e >>= header_in place

-- `(:predicates` header* `)`
abbrev pub predicates_in : Section → Option (List Header)
predicates_in section = each_at (header_place predicate_place) section.behind

-- `(:functions` function-group* header* `)`, where function-group is header+ `- number`
abbrev pub functions_in : Section → Option (List Header)
functions_in section = grouped (header_place function_place) (is_word (codes "number")) section.behind >>= λ items. Some (map (λ (item : Header × Option Ref). item.0) items)

abbrev pub domain_keywords : List Name
domain_keywords = codes ":requirements" ∷ codes ":types" ∷ codes ":constants" ∷ codes ":predicates" ∷ codes ":functions" ∷ codes ":constraints" ∷ codes ":action" ∷ []

-- domain: `(define (domain` name `)` domain-section* `)`
-- domain-section: `(:requirements` word* `)` | `(:types` kind-group* name* `)` | `(:constants` object-list `)` | `(:predicates` header* `)`
--     | `(:functions` function-group* header* `)` | `(:constraints` constraint-or-empty `)` | `(:action` name action-part* `)`
-- Each but `:action` stands at most once.
unfoldable pub domain_place : Place Domain
domain_place e = do
  half ← half_at (codes "domain") domain_keywords e
  words ← optional (codes ":requirements") [] requirements half.sections
  kinds ← optional (codes ":types") [] kinds_in half.sections
  constants ← optional (codes ":constants") [] (λ section. objects_in section.behind) half.sections
  predicates ← optional (codes ":predicates") [] predicates_in half.sections
  functions ← optional (codes ":functions") [] functions_in half.sections
  constraints ← optional (codes ":constraints") no_constraints (part_at constraint_or_empty_place) half.sections
  actions ← all_actions (sections_named (codes ":action") half.sections)
  Some (record { name = half.name; kinds = kinds; constants = constants; predicates = predicates; functions = functions; constraints = constraints; actions = actions })

-- ---- the problem half

-- `(` name name* `)`
abbrev pub initial_in : (Ref → List Expression → Option Init) → Place Ref → List Expression → Option Init
initial_in entry place [] = None
initial_in entry place (first ∷ behind) = place first >>= λ word. entry word behind

-- `(` name name* `)`
abbrev pub true_entry : Ref → List Expression → Option Init
true_entry pred behind = each_at object_place behind >>= λ args. Some (init.True pred args)

abbrev pub false_entry : Ref → List Expression → Option Init
false_entry pred behind = each_at object_place behind >>= λ args. Some (init.False pred args)

-- `(not (` name name* `))`
abbrev pub not_form : List Expression → Option Init
not_form behind = only behind >>= λ e. parts_place e >>= initial_in false_entry predicate_place

-- `(= (` name name* `)` number `)`
abbrev pub value_form : List Expression → Option Init
value_form behind = do
  both ← pair behind
  parts ← parts_place both.0
  number ← numeral_place both.1
  initial_in (λ function others. each_at object_place others >>= λ args. Some (init.Value function args number)) function_place parts

abbrev pub init_forms : List (Name × (List Expression → Option Init))
init_forms = (codes "not", not_form) ∷ (codes "=", value_form) ∷ []

abbrev pub init_in : List Expression → Option Init
init_in parts = headed (λ (part : Expression). part) parts >>= λ list. choose list.0.name init_forms (λ behind. initial_in true_entry predicate_place parts) list.1

-- init: `(` name name* `)` | `(not (` name name* `))` | `(= (` name name* `)` number `)`
abbrev pub init_place : Place Init
init_place e = parts_place e >>= init_in

abbrev pub problem_keywords : List Name
problem_keywords = codes ":domain" ∷ codes ":requirements" ∷ codes ":objects" ∷ codes ":init" ∷ codes ":goal" ∷ codes ":constraints" ∷ codes ":metric" ∷ []

-- problem: `(define (problem` name `)` problem-section* `)`
-- problem-section: `(:domain` name `)` | `(:requirements` word* `)` | `(:objects` object-list `)` | `(:init` init* `)` | `(:goal` pre-goal-or-empty `)`
--     | `(:constraints` constraint-or-empty `)` | `(:metric` direction num `)`
-- Each stands at most once, and `:domain`, `:init` and `:goal` once.
unfoldable pub problem_place : Place Problem
problem_place e = do
  half ← half_at (codes "problem") problem_keywords e
  domain ← once (codes ":domain") (body_at name_place) half.sections
  words ← optional (codes ":requirements") [] requirements half.sections
  objects ← optional (codes ":objects") [] (λ section. objects_in section.behind) half.sections
  entries ← once (codes ":init") (λ section. each_at init_place section.behind) half.sections
  goal ← once (codes ":goal") (part_at goal_or_empty_place) half.sections
  constraints ← optional (codes ":constraints") no_constraints (part_at constraint_or_empty_place) half.sections
  metric ← optional (codes ":metric") None (λ section. metric_in section.behind >>= λ found. Some (Some found)) half.sections
  Some (record { name = half.name; domain = domain; objects = objects; init = entries; goal = goal; constraints = constraints; metric = metric })

-- ---- the task

-- the expressions of two texts are texts of the halves of the task
pub record IsTaskText (d p : Expression) (T : Task) : Type 0 where
  pub domain : IsText domain_place d T.domain
  pub problem : IsText problem_place p T.problem
