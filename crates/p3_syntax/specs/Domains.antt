-- What the sections of a domain give.
use Rattle.std.specs.Prelude.{List, [], map, codes, Option, Some}
use Rattle.p3_task.specs.Grammar.Words.{◌>>=◌, each_at, function_place, predicate_place, name_place, is_word}
use Rattle.p3_task.specs.Grammar.Lists.{grouped, objects_in}
use Rattle.p3_task.specs.Grammar.Halves.{Section, optional, sections_named, all_actions, header_place, kind_item, kinds_in, predicates_in, functions_in}
use Rattle.p3_task.specs.declared.expression.Expression.{Expression}
use Rattle.p3_task.specs.declared.term.Ref.{Ref}
use Rattle.p3_task.specs.declared.term.Typed.{Typed}
use Rattle.p3_task.specs.declared.task.Kind.{Kind}
use Rattle.p3_task.specs.declared.task.Header.{Header}
use Rattle.p3_task.specs.declared.task.Action.{Action}
use Rattle.p3_task.specs.declared.task.Domain.{Domain}
use Rattle.p3_syntax.specs.declared.tree.domains.Declarations.{Declarations}
use Rattle.p3_syntax.specs.declared.tree.domains.DomainContents.{DomainContents}
use Rattle.p3_syntax.specs.Sections.{requirements_among, constraints_among}
use Rattle.p3_outline.specs.declared.view.View.{View}
use Rattle.p3_outline.specs.declared.view.Parts.{Parts}
use Rattle.p3_outline.specs.Nodes.{expression_of, expressions_of}
use Rattle.p3_syntax.specs.Groups.{Item, item_at}

abbrev pub kind_at : Item → Option Kind
kind_at typed = item_at name_place name_place typed >>= λ found. Some (kind_item found)

abbrev pub predicate_header : View → Option Header
predicate_header view = header_place predicate_place (expression_of view)

abbrev pub function_header : View → Option Header
function_header view = header_place function_place (expression_of view)

abbrev pub each_predicate : Parts → Option (List Header)
each_predicate parts = each_at (header_place predicate_place) (expressions_of parts)

abbrev pub header_of : Header × Option Ref → Header
header_of found = found.0

abbrev pub function_at : Item → Option Header
function_at typed = item_at (header_place function_place) (is_word (codes "number")) typed >>= λ found. Some (header_of found)

abbrev pub kinds_of : List Expression → Option (List Kind)
kinds_of list = grouped name_place name_place list >>= λ items. Some (map kind_item items)

abbrev pub functions_of : List Expression → Option (List Header)
functions_of list = grouped (header_place function_place) (is_word (codes "number")) list >>= λ items. Some (map header_of items)

abbrev pub kinds_among : List Section → Option (List Kind)
kinds_among sections = optional (codes ":types") [] kinds_in sections

abbrev pub constants_among : List Section → Option (List Typed)
constants_among sections = optional (codes ":constants") [] (λ section. objects_in section.behind) sections

abbrev pub predicates_among : List Section → Option (List Header)
predicates_among sections = optional (codes ":predicates") [] predicates_in sections

abbrev pub functions_among : List Section → Option (List Header)
functions_among sections = optional (codes ":functions") [] functions_in sections

abbrev pub actions_among : List Section → Option (List Action)
actions_among sections = all_actions (sections_named (codes ":action") sections)

-- ---- the sections together

abbrev pub declarations_among : List Section → Option Declarations
declarations_among sections = do
  kinds ← kinds_among sections
  constants ← constants_among sections
  predicates ← predicates_among sections
  functions ← functions_among sections
  Some (record { kinds = kinds; constants = constants; predicates = predicates; functions = functions })

abbrev pub contents_among : List Section → Option DomainContents
contents_among sections = do
  words ← requirements_among sections
  declarations ← declarations_among sections
  actions ← actions_among sections
  constraints ← constraints_among sections
  Some (record { declarations = declarations; constraints = constraints; actions = actions })

abbrev pub domain_of : Ref → DomainContents → Domain
domain_of name contents = record {
  name = name;
  kinds = contents.declarations.kinds;
  constants = contents.declarations.constants;
  predicates = contents.declarations.predicates;
  functions = contents.declarations.functions;
  constraints = contents.constraints;
  actions = contents.actions;
}
