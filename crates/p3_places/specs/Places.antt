-- The table of places.
use Rattle.std.specs.Prelude.{Bool, true, false, ◌&&◌, ◌||◌, if◌then◌else◌, List, [], ◌∷◌, codes, Option, Some, None}
use Rattle.p3_base.specs.Words.{is_name, is_variable, is_function_name, is_predicate_name}
use Rattle.p3_task.specs.Names.{Name, same_name, total_cost}
use Rattle.p3_task.specs.Decimals.{is_decimal}
use Rattle.p3_task.specs.Grammar.Words.{◌>>=◌, choose}
use Rattle.p3_task.specs.Grammar.Halves.{begins_with_colon}
use Rattle.p3_places.specs.Machine.{Table}
use Rattle.p3_places.specs.declared.state.Class.{Class}
use Rattle.p3_places.specs.declared.state.Class.TheVariants as class
use Rattle.p3_places.specs.declared.state.Place.{Place}
use Rattle.p3_places.specs.declared.state.Place.TheVariants as place
use Rattle.p3_places.specs.declared.state.Slot.{Slot}
use Rattle.p3_places.specs.declared.state.Slot.TheVariants as slot
use Rattle.p3_places.specs.declared.state.Items.{Items}
use Rattle.p3_places.specs.declared.state.Items.TheVariants as items
use Rattle.p3_places.specs.declared.state.Progress.{Progress}
use Rattle.p3_places.specs.declared.state.Progress.TheVariants as progress
use Rattle.p3_places.specs.declared.state.Rest.{Rest}
use Rattle.p3_places.specs.declared.state.Rest.TheVariants as rest
use Rattle.p3_places.specs.declared.state.Keyword.{Keyword}
use Rattle.p3_places.specs.declared.state.Keyword.TheVariants as keyword
use Rattle.p3_places.specs.declared.state.Seen.{Seen}
use Rattle.p3_places.specs.declared.state.DomainKeyword.{DomainKeyword}
use Rattle.p3_places.specs.declared.state.DomainKeyword.TheVariants as domain
use Rattle.p3_places.specs.declared.state.DomainSeen.{DomainSeen}
use Rattle.p3_places.specs.declared.state.PartsSeen.{PartsSeen}
use Rattle.p3_places.specs.declared.state.State.{State}
use Rattle.p3_places.specs.declared.state.State.TheVariants as state

-- ---- words

abbrev pub is_word_of : Class → Name → Bool
is_word_of class.Name text = is_name text
is_word_of class.Variable text = is_variable text
is_word_of class.Term text = is_name text || is_variable text
is_word_of class.Number text = is_decimal text
is_word_of class.Keyword text = begins_with_colon text
is_word_of class.Direction text = same_name (codes "minimize") text || same_name (codes "maximize") text
is_word_of class.End text = same_name (codes "end") text
is_word_of class.Numeric text = is_decimal text || same_name total_cost text
is_word_of class.NumberType text = same_name (codes "number") text

-- ---- elements

abbrev pub takes_word : Slot → Name → Bool
takes_word (slot.Word c) text = is_word_of c text
takes_word (slot.List p) text = false
takes_word (slot.Either c p) text = is_word_of c text

abbrev pub list_of : Slot → Option Place
list_of (slot.Word c) = None
list_of (slot.List p) = Some p
list_of (slot.Either c p) = Some p

abbrev pub item_slot : Items → Slot
item_slot items.Variables = slot.Word class.Variable
item_slot items.Names = slot.Word class.Name
item_slot items.Functions = slot.List place.FunctionHeader

abbrev pub type_slot : Items → Slot
type_slot items.Variables = slot.Either class.Name place.Either
type_slot items.Names = slot.Word class.Name
type_slot items.Functions = slot.Word class.NumberType

-- ---- what is still to come

-- the element that comes next
abbrev pub next_slot : Rest → Option Slot
next_slot rest.Nothing = None
next_slot (rest.One s) = Some s
next_slot (rest.Two s later) = Some s
next_slot (rest.Many s) = Some s
next_slot (rest.Some s) = Some s
next_slot (rest.OneOrTwo s) = Some s
next_slot (rest.Maybe s) = Some s
next_slot (rest.Named p) = Some (slot.List p)
next_slot (rest.Typed i progress.Start) = Some (item_slot i)
next_slot (rest.Typed i progress.Waiting) = Some (item_slot i)
next_slot (rest.Typed i progress.Type) = Some (type_slot i)

-- how far items with types have come behind an item or a type
abbrev pub behind_item : Progress → Progress
behind_item progress.Start = progress.Waiting
behind_item progress.Waiting = progress.Waiting
behind_item progress.Type = progress.Start

-- what is to come behind it
abbrev pub behind : Rest → Rest
behind rest.Nothing = rest.Nothing
behind (rest.One s) = rest.Nothing
behind (rest.Two s later) = rest.One later
behind (rest.Many s) = rest.Many s
behind (rest.Some s) = rest.Many s
behind (rest.OneOrTwo s) = rest.Maybe s
behind (rest.Maybe s) = rest.Nothing
behind (rest.Named p) = rest.Nothing
behind (rest.Typed i progress.Start) = rest.Typed i progress.Waiting
behind (rest.Typed i progress.Waiting) = rest.Typed i progress.Waiting
behind (rest.Typed i progress.Type) = rest.Typed i progress.Start

abbrev pub may_end : Rest → Bool
may_end rest.Nothing = true
may_end (rest.Many s) = true
may_end (rest.Maybe s) = true
may_end (rest.Typed i progress.Start) = true
may_end (rest.Typed i progress.Waiting) = true
may_end _ = false

abbrev pub takes : Option Slot → Name → Bool
takes None text = false
takes (Some s) text = takes_word s text

abbrev pub ordinary : Rest → Name → Option Rest
ordinary r text = if takes (next_slot r) text then Some (behind r) else None

-- a name before a list, and a `-` before a type, are words of their own
abbrev pub rest_word : Rest → Name → Option Rest
rest_word (rest.Named p) text = if is_name text then Some (rest.One (slot.List p)) else None
rest_word (rest.Typed i progress.Waiting) text = if same_name (codes "-") text then Some (rest.Typed i progress.Type) else ordinary (rest.Typed i progress.Waiting) text
rest_word r text = ordinary r text

abbrev pub rest_list : Rest → Option Place
rest_list r = next_slot r >>= list_of

-- ---- the first word of a list

abbrev pub terms : Rest
terms = rest.Many (slot.Word class.Term)

abbrev pub names : Rest
names = rest.Many (slot.Word class.Name)

abbrev pub quantified : Place → Rest
quantified p = rest.Two (slot.List place.Variables) (slot.List p)

abbrev pub one_of : Place → Rest
one_of p = rest.One (slot.List p)

abbrev pub two_of : Place → Rest
two_of p = rest.Two (slot.List p) (slot.List p)

abbrev pub many_of : Place → Rest
many_of p = rest.Many (slot.List p)

abbrev pub rest_if : Bool → Rest → Option Rest
rest_if true r = Some r
rest_if false r = None

abbrev pub formula_rests : List (Name × Option Rest)
formula_rests = (codes "and", Some (many_of place.Formula)) ∷ (codes "or", Some (many_of place.Formula)) ∷ (codes "not", Some (one_of place.Formula)) ∷ (codes "imply", Some (two_of place.Formula))
    ∷ (codes "exists", Some (quantified place.Formula)) ∷ (codes "forall", Some (quantified place.Formula))
    ∷ (codes "=", Some (rest.Two (slot.Word class.Term) (slot.Word class.Term))) ∷ []

abbrev pub formula_head : Name → Option Rest
formula_head text = choose text formula_rests (rest_if (is_predicate_name text) terms)

abbrev pub goal_rests : List (Name × Option Rest)
goal_rests = (codes "and", Some (many_of place.PreGoal)) ∷ (codes "forall", Some (quantified place.PreGoal)) ∷ (codes "preference", Some (rest.Named place.Formula)) ∷ []

abbrev pub goal_head : Name → Option Rest
goal_head text = choose text goal_rests (formula_head text)

abbrev pub modal_rests : List (Name × Option Rest)
modal_rests = (codes "at", Some (rest.Two (slot.Word class.End) (slot.List place.Formula))) ∷ (codes "always", Some (one_of place.Formula)) ∷ (codes "sometime", Some (one_of place.Formula))
    ∷ (codes "at-most-once", Some (one_of place.Formula)) ∷ (codes "sometime-after", Some (two_of place.Formula)) ∷ (codes "sometime-before", Some (two_of place.Formula)) ∷ []

abbrev pub modal_head : Name → Option Rest
modal_head text = choose text modal_rests None

abbrev pub inner_rests : List (Name × Option Rest)
inner_rests = (codes "and", Some (many_of place.Inner)) ∷ (codes "forall", Some (quantified place.Inner)) ∷ []

abbrev pub inner_head : Name → Option Rest
inner_head text = choose text inner_rests (modal_head text)

abbrev pub constraint_rests : List (Name × Option Rest)
constraint_rests = (codes "preference", Some (rest.Named place.Inner)) ∷ (codes "and", Some (many_of place.Constraint)) ∷ (codes "forall", Some (quantified place.Constraint)) ∷ []

abbrev pub constraint_head : Name → Option Rest
constraint_head text = choose text constraint_rests (modal_head text)

abbrev pub num_slot : Slot
num_slot = slot.Either class.Numeric place.Num

abbrev pub num_rests : List (Name × Option Rest)
num_rests = (total_cost, Some rest.Nothing) ∷ (codes "is-violated", Some (rest.One (slot.Word class.Name))) ∷ (codes "-", Some (rest.OneOrTwo num_slot))
    ∷ (codes "+", Some (rest.Some num_slot)) ∷ (codes "*", Some (rest.Some num_slot)) ∷ []

abbrev pub num_head : Name → Option Rest
num_head text = choose text num_rests None

abbrev pub init_rests : List (Name × Option Rest)
init_rests = (codes "not", Some (one_of place.InitAtom)) ∷ (codes "=", Some (rest.Two (slot.List place.InitFunction) (slot.Word class.Number))) ∷ []

abbrev pub init_head : Name → Option Rest
init_head text = choose text init_rests (rest_if (is_predicate_name text) names)

-- a number, or the value of a function
abbrev pub amount_slot : Slot
amount_slot = slot.Either class.Number place.Atom

abbrev pub increase_rest : Bool → Option Rest
increase_rest true = Some (rest.Two (slot.List place.TotalCost) amount_slot)
increase_rest false = None

-- no increase stands below `forall` and `when`
abbrev pub effect_rests : Bool → List (Name × Option Rest)
effect_rests free = (codes "and", Some (many_of (place.Effect free))) ∷ (codes "forall", Some (quantified (place.Effect false)))
    ∷ (codes "when", Some (rest.Two (slot.List place.Formula) (slot.List (place.Effect false)))) ∷ (codes "not", Some (one_of place.Atom))
    ∷ (codes "increase", increase_rest free) ∷ []

abbrev pub effect_head : Bool → Name → Option Rest
effect_head free text = choose text (effect_rests free) (rest_if (is_predicate_name text) terms)

abbrev pub in_list : Option Rest → Option State
in_list r = r >>= λ next. Some (state.Rest next)

abbrev pub in_section : Keyword → Option Rest → Option State
in_section k r = r >>= λ next. Some (state.Section k next)

abbrev pub in_domain_section : DomainKeyword → Option Rest → Option State
in_domain_section k r = r >>= λ next. Some (state.DomainSection k next)

abbrev pub head_of : Option Place → Option State
head_of p = p >>= λ found. Some (state.Head found)

abbrev pub head_word : Place → Name → Option State
head_word place.Domain text = if same_name (codes "define") text then Some state.DomainDefined else None
head_word place.DomainTitle text = if same_name (codes "domain") text then Some (state.Rest (rest.One (slot.Word class.Name))) else None
head_word place.Problem text = if same_name (codes "define") text then Some state.Defined else None
head_word place.ProblemTitle text = if same_name (codes "problem") text then Some (state.Rest (rest.One (slot.Word class.Name))) else None
head_word place.Variables text = rest_word (rest.Typed items.Variables progress.Start) text >>= λ r. Some (state.Rest r)
head_word place.Either text = if same_name (codes "either") text then Some (state.Rest (rest.Some (slot.Word class.Name))) else None
head_word place.Formula text = formula_head text >>= λ r. Some (state.Rest r)
head_word place.PreGoal text = goal_head text >>= λ r. Some (state.Rest r)
head_word place.PreGoalOrEmpty text = goal_head text >>= λ r. Some (state.Rest r)
head_word place.Constraint text = constraint_head text >>= λ r. Some (state.Rest r)
head_word place.ConstraintOrEmpty text = constraint_head text >>= λ r. Some (state.Rest r)
head_word place.Inner text = inner_head text >>= λ r. Some (state.Rest r)
head_word place.Num text = num_head text >>= λ r. Some (state.Rest r)
head_word place.Init text = init_head text >>= λ r. Some (state.Rest r)
head_word place.InitAtom text = rest_if (is_predicate_name text) names >>= λ r. Some (state.Rest r)
head_word place.InitFunction text = rest_if (is_function_name text) names >>= λ r. Some (state.Rest r)
head_word place.Atom text = rest_if (is_predicate_name text) terms >>= λ r. Some (state.Rest r)
head_word (place.Effect free) text = effect_head free text >>= λ r. Some (state.Rest r)
head_word place.EffectOrEmpty text = effect_head true text >>= λ r. Some (state.Rest r)
head_word place.TotalCost text = rest_if (same_name total_cost text) rest.Nothing >>= λ r. Some (state.Rest r)
head_word place.PredicateHeader text = rest_if (is_predicate_name text) (rest.Typed items.Variables progress.Start) >>= λ r. Some (state.Rest r)
head_word place.FunctionHeader text = rest_if (is_function_name text) (rest.Typed items.Variables progress.Start) >>= λ r. Some (state.Rest r)

-- `()` stands at some places
abbrev pub may_be_empty : Place → Bool
may_be_empty place.Variables = true
may_be_empty place.PreGoalOrEmpty = true
may_be_empty place.ConstraintOrEmpty = true
may_be_empty place.EffectOrEmpty = true
may_be_empty _ = false

-- ---- sections of a problem

abbrev pub has_all : Seen → Bool
has_all seen = seen.domain && seen.init && seen.goal && seen.requirements && seen.objects && seen.constraints && seen.metric

abbrev pub has_needed : Seen → Bool
has_needed seen = seen.domain && seen.init && seen.goal

abbrev pub no_section : Seen
no_section = record { domain = false; requirements = false; objects = false; init = false; goal = false; constraints = false; metric = false }

abbrev pub with_section : Seen → Keyword → Seen
with_section seen keyword.Domain = record seen { domain = true }
with_section seen keyword.Requirements = record seen { requirements = true }
with_section seen keyword.Objects = record seen { objects = true }
with_section seen keyword.Init = record seen { init = true }
with_section seen keyword.Goal = record seen { goal = true }
with_section seen keyword.Constraints = record seen { constraints = true }
with_section seen keyword.Metric = record seen { metric = true }

abbrev pub once : Bool → Keyword → Rest → Option State
once seen k r = if seen then None else Some (state.Section k r)

abbrev pub section_forms : Seen → List (Name × Option State)
section_forms seen = (codes ":domain", once seen.domain keyword.Domain (rest.One (slot.Word class.Name)))
    ∷ (codes ":requirements", once seen.requirements keyword.Requirements (rest.Many (slot.Word class.Keyword)))
    ∷ (codes ":objects", once seen.objects keyword.Objects (rest.Typed items.Names progress.Start))
    ∷ (codes ":init", once seen.init keyword.Init (many_of place.Init))
    ∷ (codes ":goal", once seen.goal keyword.Goal (one_of place.PreGoalOrEmpty))
    ∷ (codes ":constraints", once seen.constraints keyword.Constraints (one_of place.ConstraintOrEmpty))
    ∷ (codes ":metric", once seen.metric keyword.Metric (rest.Two (slot.Word class.Direction) num_slot)) ∷ []

abbrev pub section_word : Seen → Name → Option State
section_word seen text = choose text (section_forms seen) None

-- ---- sections of a domain

abbrev pub no_domain_section : DomainSeen
no_domain_section = record { requirements = false; types = false; constants = false; predicates = false; functions = false; constraints = false }

abbrev pub with_domain_section : DomainSeen → DomainKeyword → DomainSeen
with_domain_section seen domain.Requirements = record seen { requirements = true }
with_domain_section seen domain.Types = record seen { types = true }
with_domain_section seen domain.Constants = record seen { constants = true }
with_domain_section seen domain.Predicates = record seen { predicates = true }
with_domain_section seen domain.Functions = record seen { functions = true }
with_domain_section seen domain.Constraints = record seen { constraints = true }

-- what stands behind a keyword
abbrev pub domain_rest : DomainKeyword → Rest
domain_rest domain.Requirements = rest.Many (slot.Word class.Keyword)
domain_rest domain.Types = rest.Typed items.Names progress.Start
domain_rest domain.Constants = rest.Typed items.Names progress.Start
domain_rest domain.Predicates = many_of place.PredicateHeader
domain_rest domain.Functions = rest.Typed items.Functions progress.Start
domain_rest domain.Constraints = one_of place.ConstraintOrEmpty

abbrev pub domain_once : Bool → DomainKeyword → Option State
domain_once seen k = if seen then None else Some (state.DomainSection k (domain_rest k))

-- actions stand any number of times
abbrev pub domain_forms : DomainSeen → List (Name × Option State)
domain_forms seen = (codes ":requirements", domain_once seen.requirements domain.Requirements)
    ∷ (codes ":types", domain_once seen.types domain.Types)
    ∷ (codes ":constants", domain_once seen.constants domain.Constants)
    ∷ (codes ":predicates", domain_once seen.predicates domain.Predicates)
    ∷ (codes ":functions", domain_once seen.functions domain.Functions)
    ∷ (codes ":constraints", domain_once seen.constraints domain.Constraints)
    ∷ (codes ":action", Some state.Action) ∷ []

abbrev pub domain_word : DomainSeen → Name → Option State
domain_word seen text = choose text (domain_forms seen) None

-- ---- the parts of an action

abbrev pub no_part : PartsSeen
no_part = record { parameters = false; precondition = false; effect = false }

-- the name of an action
abbrev pub action_name : Name → Option State
action_name text = if is_name text then Some (state.Parts no_part) else None

abbrev pub part_once : Bool → PartsSeen → Place → Option State
part_once was seen p = if was then None else Some (state.Part seen p)

abbrev pub part_forms : PartsSeen → List (Name × Option State)
part_forms seen =
    (codes ":parameters", part_once seen.parameters (record seen { parameters = true }) place.Variables)
    ∷ (codes ":precondition", part_once seen.precondition (record seen { precondition = true }) place.PreGoalOrEmpty)
    ∷ (codes ":effect", part_once seen.effect (record seen { effect = true }) place.EffectOrEmpty) ∷ []

abbrev pub part_word : PartsSeen → Name → Option State
part_word seen text = choose text (part_forms seen) None

-- ---- the table

abbrev pub on_word : State → Name → Option State
on_word (state.Parts seen) text = part_word seen text
on_word (state.Part seen p) text = None
on_word (state.Head p) text = head_word p text
on_word (state.Rest r) text = rest_word r text >>= λ next. Some (state.Rest next)
on_word state.Defined text = None
on_word (state.Sections seen) text = None
on_word (state.SectionHead seen) text = section_word seen text
on_word (state.Section k r) text = rest_word r text >>= λ next. Some (state.Section k next)
on_word state.DomainDefined text = None
on_word (state.DomainSections seen) text = None
on_word (state.DomainHead seen) text = domain_word seen text
on_word (state.DomainSection k r) text = rest_word r text >>= λ next. Some (state.DomainSection k next)
on_word state.Action text = action_name text

abbrev pub on_open : State → Option State
on_open (state.Parts seen) = None
on_open (state.Part seen p) = Some (state.Head p)
on_open (state.Head p) = None
on_open (state.Rest r) = rest_list r >>= λ p. Some (state.Head p)
on_open state.Defined = Some (state.Head place.ProblemTitle)
on_open (state.Sections seen) = if has_all seen then None else Some (state.SectionHead seen)
on_open (state.SectionHead seen) = None
on_open (state.Section k r) = rest_list r >>= λ p. Some (state.Head p)
on_open state.DomainDefined = Some (state.Head place.DomainTitle)
on_open (state.DomainSections seen) = Some (state.DomainHead seen)
on_open (state.DomainHead seen) = None
on_open (state.DomainSection k r) = rest_list r >>= λ p. Some (state.Head p)
on_open state.Action = None

abbrev pub is_final : State → Bool
is_final (state.Parts seen) = true
is_final (state.Part seen p) = false
is_final (state.Head p) = may_be_empty p
is_final (state.Rest r) = may_end r
is_final state.Defined = false
is_final (state.Sections seen) = has_needed seen
is_final (state.SectionHead seen) = false
is_final (state.Section k r) = may_end r
is_final state.DomainDefined = false
is_final (state.DomainSections seen) = true
is_final (state.DomainHead seen) = false
is_final (state.DomainSection k r) = may_end r
is_final state.Action = false

abbrev pub with_list : Seen → State → State
with_list seen (state.Section k r) = state.Sections (with_section seen k)
with_list seen _ = state.Sections seen

abbrev pub with_domain_list : DomainSeen → State → State
with_domain_list seen (state.DomainSection k r) = state.DomainSections (with_domain_section seen k)
with_domain_list seen _ = state.DomainSections seen

abbrev pub after : State → State → State
after (state.Parts seen) last = state.Parts seen
after (state.Part seen p) last = state.Parts seen
after (state.Head p) last = state.Head p
after (state.Rest r) last = state.Rest (behind r)
after state.Defined last = state.Sections no_section
after (state.Sections seen) last = with_list seen last
after (state.SectionHead seen) last = state.SectionHead seen
after (state.Section k r) last = state.Section k (behind r)
after state.DomainDefined last = state.DomainSections no_domain_section
after (state.DomainSections seen) last = with_domain_list seen last
after (state.DomainHead seen) last = state.DomainHead seen
after (state.DomainSection k r) last = state.DomainSection k (behind r)
after state.Action last = state.Action

abbrev pub grammar_table : Table State
grammar_table = record { on_word = on_word; on_open = on_open; is_final = is_final; after = after }

-- a text is one list, at the place of a half
abbrev pub start : Place → State
start p = state.Rest (one_of p)
