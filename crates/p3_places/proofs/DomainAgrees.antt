-- The domain half has a tree exactly where the table takes it.
use Rattle.std.proofs.Common.{◌≡◌, ◌∙◌, refl, sym, ap, Bool, true, false, ◌&&◌, if◌then◌else◌, List, [], ◌∷◌, map, Option, Some, None}
use Rattle.std.specs.Prelude.{is_some, codes}
use Rattle.std.specs.List.{list_all}
use Rattle.p3_base.specs.Words.{is_name, is_predicate_name, is_function_name}
use Rattle.p3_task.specs.Names.{same_name, has_name}
use Rattle.p3_task.specs.Grammar.Words.{◌>>=◌, name_place, function_place, predicate_place, is_word, expressions}
use Rattle.p3_task.specs.Grammar.Words.{Place as Reads}
use Rattle.p3_task.specs.Grammar.Lists.{variables_in, variables_place, objects_in, one_type_place, grouped, typed_item}
use Rattle.p3_task.specs.Grammar.Goals.{goal_or_empty_place}
use Rattle.p3_task.specs.Grammar.Constraints.{constraint_or_empty_place}
use Rattle.p3_task.specs.Grammar.Effects.{effect_or_empty_place}
use Rattle.p3_task.specs.Grammar.Halves.{Section, NamedSections, sections_named, sections_among, optional, body_at, part_at, requirements, no_constraints, keyword_parts, action_keywords, action_in, all_actions, kind_item, kinds_in, header_in, header_place, predicates_in, functions_in, domain_keywords, domain_place}
use Rattle.p3_task.specs.declared.expression.Expression.{Expression, Group'}
use Rattle.p3_task.specs.declared.expression.Expression.TheVariants as expression
use Rattle.p3_task.specs.declared.effect.Effect.TheVariants as effect
use Rattle.p3_task.specs.declared.goal.PreGoal.TheVariants as goal
use Rattle.p3_task.specs.declared.task.Action.{Action}
use Rattle.p3_task.specs.declared.task.Domain.{Domain}
use Rattle.p3_task.specs.declared.task.Header.{Header}
use Rattle.p3_task.specs.declared.term.Ref.{Ref}
use Rattle.p3_task.specs.declared.term.Typed.{Typed}
use Rattle.p3_places.proofs.Runs.{run}
use Rattle.p3_places.specs.Places.{rest_if, no_domain_section, no_part}
use Rattle.p3_places.proofs.Fits.{ends, run_parts, fits}
use Rattle.p3_places.proofs.DomainFits.{all_parts_allowed, parts_fit, domain_body_fits, actions, action_fits, domain_allowed}
use Rattle.p3_places.proofs.DomainFits.{body_at as body_fits}
use Rattle.p3_places.specs.declared.state.Class.TheVariants as class
use Rattle.p3_places.specs.declared.state.Place.{Place}
use Rattle.p3_places.specs.declared.state.Place.TheVariants as place
use Rattle.p3_places.specs.declared.state.Slot.TheVariants as slot
use Rattle.p3_places.specs.declared.state.Items.TheVariants as items
use Rattle.p3_places.specs.declared.state.Progress.TheVariants as progress
use Rattle.p3_places.specs.declared.state.Rest.TheVariants as rest
use Rattle.p3_places.specs.declared.state.DomainKeyword.TheVariants as domain
use Rattle.p3_places.specs.declared.state.State.TheVariants as state
use Rattle.p3_places.proofs.FitLemmas.{if_is_some, ends_one, ends_many, some_bind, some_two, name_fits, variables_fit, each_fits, list_fits, AreItems, items_go, variables_are}
use Rattle.p3_places.proofs.PlaceLemmas.{bind_rest, the_word}
use Rattle.p3_places.proofs.GoalAgrees.{goal_or_empty_fits, constraint_or_empty_fits}
use Rattle.p3_places.proofs.EffectAgrees.{effect_or_empty_fits}
use Rattle.p3_places.proofs.HalfLemmas.{one_type_fits, only_fits, entry_fits, requirements_fit, optional_fits, then_fits, IsHalf, half_fits}
use Rattle.p3_places.proofs.ActionLemmas.{parts_run}
use Rattle.p3_places.proofs.DomainLemmas.{domain_sections_run}

-- ---- headers

abbrev the_header : Ref → List Typed → Header
the_header name params = record { name = name; params = params }

variables_go : (parts : List Expression) → is_some (variables_in parts) ≡ ends (run_parts (state.Rest (rest.Typed items.Variables progress.Start)) parts)
variables_go parts =
    some_bind (grouped _ _ parts) (map typed_item) ∙ items_go _ _ items.Variables variables_are parts (record { typed = []; waiting = []; is_type_next = false })

header_behind : (b : Bool) (word : Ref) (parts : List Expression)
    → is_some ((if b then Some word else None) >>= λ name. variables_in parts >>= λ params. Some (the_header name params))
    ≡ ends (rest_if b (rest.Typed items.Variables progress.Start) >>= λ r. run_parts (state.Rest r) parts)
header_behind b word parts =
    entry_fits b (rest.Typed items.Variables progress.Start) word (λ name. variables_in parts >>= λ params. Some (the_header name params)) parts
    (some_bind (variables_in parts) (the_header word) ∙ variables_go parts)

predicate_parts : (parts : List Expression) → is_some (header_in predicate_place parts) ≡ ends (run_parts (state.Head place.PredicateHeader) parts)
unfolding run
predicate_parts [] = refl
predicate_parts (Group' at shape row ∷ parts) = refl
predicate_parts (expression.Word at text ∷ parts) =
    header_behind (is_predicate_name text) (the_word text at) parts ∙ bind_rest (rest_if (is_predicate_name text) (rest.Typed items.Variables progress.Start)) parts

predicate_fits : (e : Expression) → is_some (header_place predicate_place e) ≡ fits (slot.List place.PredicateHeader) e
predicate_fits (expression.Word at text) = refl
predicate_fits (Group' at shape row) = predicate_parts (expressions row) ∙ sym (list_fits place.PredicateHeader row)

function_parts : (parts : List Expression) → is_some (header_in function_place parts) ≡ ends (run_parts (state.Head place.FunctionHeader) parts)
unfolding run
function_parts [] = refl
function_parts (Group' at shape row ∷ parts) = refl
function_parts (expression.Word at text ∷ parts) =
    header_behind (is_function_name text) (the_word text at) parts ∙ bind_rest (rest_if (is_function_name text) (rest.Typed items.Variables progress.Start)) parts

function_fits : (e : Expression) → is_some (header_place function_place e) ≡ fits (slot.List place.FunctionHeader) e
function_fits (expression.Word at text) = refl
function_fits (Group' at shape row) = function_parts (expressions row) ∙ sym (list_fits place.FunctionHeader row)

-- ---- lists with types

number_type_fits : (e : Expression) → is_some (is_word (codes "number") e) ≡ fits (slot.Word class.NumberType) e
number_type_fits (expression.Word at text) = if_is_some (same_name (codes "number") text) (the_word text at)
number_type_fits (Group' at shape row) = refl

functions_are : AreItems (header_place function_place) (is_word (codes "number")) items.Functions
functions_are = record { item_fits = function_fits; type_fits = number_type_fits }

kinds_are : AreItems name_place name_place items.Names
kinds_are = record { item_fits = name_fits; type_fits = name_fits }

constants_are : AreItems name_place one_type_place items.Names
constants_are = record { item_fits = name_fits; type_fits = one_type_fits }

functions_fit : (section : Section) → is_some (functions_in section) ≡ domain_body_fits domain.Functions section.behind
functions_fit section =
    some_bind (grouped (header_place function_place) (is_word (codes "number")) section.behind) (map (λ (item : Header × Option Ref). item.0))
    ∙ items_go (header_place function_place) (is_word (codes "number")) items.Functions functions_are section.behind (record { typed = []; waiting = []; is_type_next = false })

kinds_fit : (section : Section) → is_some (kinds_in section) ≡ domain_body_fits domain.Types section.behind
kinds_fit section =
    some_bind (grouped name_place name_place section.behind) (map kind_item)
    ∙ items_go name_place name_place items.Names kinds_are section.behind (record { typed = []; waiting = []; is_type_next = false })

constants_fit : (parts : List Expression) → is_some (objects_in parts) ≡ domain_body_fits domain.Constants parts
constants_fit parts =
    some_bind (grouped name_place one_type_place parts) (map typed_item)
    ∙ items_go name_place one_type_place items.Names constants_are parts (record { typed = []; waiting = []; is_type_next = false })

predicates_fit : (section : Section) → is_some (predicates_in section) ≡ domain_body_fits domain.Predicates section.behind
predicates_fit section = each_fits (header_place predicate_place) (slot.List place.PredicateHeader) predicate_fits section.behind ∙ sym (ends_many (slot.List place.PredicateHeader) section.behind)

constraints_fit : (section : Section) → is_some (part_at constraint_or_empty_place section) ≡ domain_body_fits domain.Constraints section.behind
constraints_fit section =
    some_bind (body_at constraint_or_empty_place section) (λ body. record { at = section.word.at; body = body })
    ∙ only_fits (slot.List place.ConstraintOrEmpty) constraint_or_empty_place constraint_or_empty_fits section.behind

-- ---- actions

-- the one part behind a keyword
one_body : {A : Type 0} (p : Place) (reads : Reads A) → ((e : Expression) → is_some (reads e) ≡ fits (slot.List p) e) → (section : Section) → is_some (body_at reads section) ≡ body_fits p section.behind
one_body p reads same section = only_fits (slot.List p) reads same section.behind ∙ ends_one (slot.List p) section.behind

one_part : {A : Type 0} (p : Place) (reads : Reads A) → ((e : Expression) → is_some (reads e) ≡ fits (slot.List p) e) → (section : Section) → is_some (part_at reads section) ≡ body_fits p section.behind
one_part p reads same section = some_bind (body_at reads section) (λ body. record { at = section.word.at; body = body }) ∙ one_body p reads same section

action_of : Ref → List Section → Option Action
action_of name parts = do
  params ← optional (codes ":parameters") [] (body_at variables_place) parts
  pre ← optional (codes ":precondition") (record { at = name.at; body = goal.Both [] }) (part_at goal_or_empty_place) parts
  change ← optional (codes ":effect") (record { at = name.at; body = effect.All [] }) (part_at effect_or_empty_place) parts
  Some (record { name = name; params = params; pre = pre; effect = change })

action_of_fits : (name : Ref) (parts : List Section) → is_some (action_of name parts) ≡ all_parts_allowed no_part parts
unfolding action_of
action_of_fits name parts =
    then_fits (optional (codes ":parameters") [] (body_at variables_place) parts) _ _ _
    (optional_fits (body_fits place.Variables) [] (body_at variables_place) (one_body place.Variables variables_place variables_fit) (sections_named (codes ":parameters") parts)) (λ params.
    then_fits (optional (codes ":precondition") (record { at = name.at; body = goal.Both [] }) (part_at goal_or_empty_place) parts) _ _ _
    (optional_fits (body_fits place.PreGoalOrEmpty) (record { at = name.at; body = goal.Both [] }) (part_at goal_or_empty_place) (one_part place.PreGoalOrEmpty goal_or_empty_place goal_or_empty_fits) (sections_named (codes ":precondition") parts)) (λ pre.
    some_bind (optional (codes ":effect") (record { at = name.at; body = effect.All [] }) (part_at effect_or_empty_place) parts) _
    ∙ optional_fits (body_fits place.EffectOrEmpty) (record { at = name.at; body = effect.All [] }) (part_at effect_or_empty_place) (one_part place.EffectOrEmpty effect_or_empty_place effect_or_empty_fits) (sections_named (codes ":effect") parts)))

parts_among : (name : Ref) (list : Option (List Section)) → is_some (list >>= λ found. sections_among action_keywords found >>= λ parts. action_of name parts) ≡ parts_fit no_part list
parts_among name None = refl
parts_among name (Some found) = by (list_all (λ section. has_name action_keywords section.word.name) found)
  where
    by : (known : Bool) → is_some ((if known then Some found else None) >>= λ parts. action_of name parts) ≡ (known && all_parts_allowed no_part found)
    by true = action_of_fits name found
    by false = refl

action_named : (b : Bool) (word : Ref) (behind : List Expression)
    → is_some ((if b then Some word else None) >>= λ name. keyword_parts behind >>= λ list. sections_among action_keywords list >>= λ parts. action_of name parts)
    ≡ ends ((if b then Some (state.Parts no_part) else None) >>= λ s. run_parts s behind)
action_named true word behind = parts_among word (keyword_parts behind) ∙ sym (parts_run behind no_part)
action_named false word behind = refl

action_parts : (parts : List Expression) → is_some (action_in parts) ≡ ends (run_parts state.Action parts)
unfolding run action_of
action_parts [] = refl
action_parts (Group' at shape row ∷ parts) = refl
action_parts (expression.Word at text ∷ parts) = action_named (is_name text) (the_word text at) parts

all_actions_fit : (sections : List Section) → is_some (all_actions sections) ≡ list_all action_fits sections
all_actions_fit [] = refl
all_actions_fit (section ∷ sections) =
    some_two (action_in section.behind) (all_actions sections) (λ first others. first ∷ others) ∙ ap (λ b. b && is_some (all_actions sections)) (action_parts section.behind)
    ∙ ap (λ b. action_fits section && b) (all_actions_fit sections)

-- ---- the half

contents_of : NamedSections → Option Domain
contents_of half = do
  words ← optional (codes ":requirements") [] requirements half.sections
  kinds ← optional (codes ":types") [] kinds_in half.sections
  constants ← optional (codes ":constants") [] (λ section. objects_in section.behind) half.sections
  predicates ← optional (codes ":predicates") [] predicates_in half.sections
  functions ← optional (codes ":functions") [] functions_in half.sections
  constraints ← optional (codes ":constraints") no_constraints (part_at constraint_or_empty_place) half.sections
  actions ← all_actions (sections_named (codes ":action") half.sections)
  Some (record { name = half.name; kinds = kinds; constants = constants; predicates = predicates; functions = functions; constraints = constraints; actions = actions })

contents_fit : (half : NamedSections) → is_some (contents_of half) ≡ domain_allowed no_domain_section half.sections
unfolding contents_of
contents_fit half =
    let s = half.sections in
    then_fits (optional (codes ":requirements") [] requirements s) _ _ _
    (optional_fits (domain_body_fits domain.Requirements) [] requirements requirements_fit (sections_named (codes ":requirements") s)) (λ words.
    then_fits (optional (codes ":types") [] kinds_in s) _ _ _
    (optional_fits (domain_body_fits domain.Types) [] kinds_in kinds_fit (sections_named (codes ":types") s)) (λ kinds.
    then_fits (optional (codes ":constants") [] (λ section. objects_in section.behind) s) _ _ _
    (optional_fits (domain_body_fits domain.Constants) [] (λ section. objects_in section.behind) (λ section. constants_fit section.behind) (sections_named (codes ":constants") s)) (λ constants.
    then_fits (optional (codes ":predicates") [] predicates_in s) _ _ _
    (optional_fits (domain_body_fits domain.Predicates) [] predicates_in predicates_fit (sections_named (codes ":predicates") s)) (λ predicates.
    then_fits (optional (codes ":functions") [] functions_in s) _ _ _
    (optional_fits (domain_body_fits domain.Functions) [] functions_in functions_fit (sections_named (codes ":functions") s)) (λ functions.
    then_fits (optional (codes ":constraints") no_constraints (part_at constraint_or_empty_place) s) _ _ _
    (optional_fits (domain_body_fits domain.Constraints) no_constraints (part_at constraint_or_empty_place) constraints_fit (sections_named (codes ":constraints") s)) (λ constraints.
    some_bind (all_actions (sections_named (codes ":action") s)) _
    ∙ all_actions_fit (sections_named (codes ":action") s)))))))

domain_half : IsHalf (codes "domain") domain_keywords (domain_allowed no_domain_section) place.Domain place.DomainTitle state.DomainDefined (state.DomainSections no_domain_section)
domain_half = record {
  head = λ text. refl;
  not_empty = refl;
  no_end = refl;
  titles = record { word = λ text. refl; list = refl; then_to = λ last. refl };
  title_head = λ text. refl;
  title_not_empty = refl;
  sections_go = λ es. domain_sections_run es no_domain_section;
}

-- A DOMAIN has a tree exactly where the table takes its expression.
pub domain_fits : (e : Expression) → is_some (domain_place e) ≡ fits (slot.List place.Domain) e
unfolding domain_place contents_of
domain_fits e =
    half_fits (codes "domain") domain_keywords (domain_allowed no_domain_section) place.Domain place.DomainTitle state.DomainDefined (state.DomainSections no_domain_section) domain_half contents_of contents_fit e
