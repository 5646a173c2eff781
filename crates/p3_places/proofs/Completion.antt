-- How each state can be completed.
use Rattle.std.specs.Prelude.{Bool, true, false, not, if◌then◌else◌, List, [], ◌∷◌, ◌++◌, codes}
use Rattle.p3_task.specs.Names.{Name, total_cost}
use Rattle.p3_task.specs.PlanTexts.{Mark, Opens, Closes, Names}
use Rattle.p3_places.specs.Places.{type_slot, has_all}
use Rattle.p3_places.specs.declared.state.Class.{Class}
use Rattle.p3_places.specs.declared.state.Class.TheVariants as class
use Rattle.p3_places.specs.declared.state.Place.{Place}
use Rattle.p3_places.specs.declared.state.Place.TheVariants as place
use Rattle.p3_places.specs.declared.state.Slot.{Slot}
use Rattle.p3_places.specs.declared.state.Slot.TheVariants as slot
use Rattle.p3_places.specs.declared.state.Progress.TheVariants as progress
use Rattle.p3_places.specs.declared.state.Rest.{Rest}
use Rattle.p3_places.specs.declared.state.Rest.TheVariants as rest
use Rattle.p3_places.specs.declared.state.Seen.{Seen}
use Rattle.p3_places.specs.declared.state.State.{State}
use Rattle.p3_places.specs.declared.state.State.TheVariants as state

abbrev pub sample : Class → Name
sample class.Name = codes "a"
sample class.Variable = codes "?a"
sample class.Term = codes "a"
sample class.Number = codes "0"
sample class.Keyword = codes ":a"
sample class.Direction = codes "minimize"
sample class.End = codes "end"
sample class.Numeric = codes "0"
sample class.NumberType = codes "number"

abbrev pub word : Name → List Mark
word text = Names text ∷ []

abbrev pub in_parentheses : List Mark → List Mark
in_parentheses inner = Opens ∷ inner ++ Closes ∷ []

abbrev pub domain_section : List Mark
domain_section = in_parentheses (word (codes ":domain") ++ word (codes "a"))

abbrev pub init_section : List Mark
init_section = in_parentheses (word (codes ":init"))

abbrev pub goal_section : List Mark
goal_section = in_parentheses (word (codes ":goal") ++ in_parentheses [])

abbrev pub unless : Bool → List Mark → List Mark
unless true marks = []
unless false marks = marks

-- the sections that are still needed
abbrev pub finish_sections : Seen → List Mark
finish_sections seen = unless seen.domain domain_section ++ unless seen.init init_section ++ unless seen.goal goal_section

abbrev pub needed_sections : List Mark
needed_sections = domain_section ++ init_section ++ goal_section

abbrev pub finish_head : Place → List Mark
finish_head place.Domain = word (codes "define") ++ in_parentheses (word (codes "domain") ++ word (codes "a"))
finish_head place.DomainTitle = word (codes "domain") ++ word (codes "a")
finish_head place.Problem = word (codes "define") ++ in_parentheses (word (codes "problem") ++ word (codes "a")) ++ needed_sections
finish_head place.ProblemTitle = word (codes "problem") ++ word (codes "a")
finish_head place.Variables = []
finish_head place.Either = word (codes "either") ++ word (codes "a")
finish_head place.Formula = word (codes "and")
finish_head place.PreGoal = word (codes "and")
finish_head place.PreGoalOrEmpty = []
finish_head place.Constraint = word (codes "and")
finish_head place.ConstraintOrEmpty = []
finish_head place.Inner = word (codes "and")
finish_head place.Num = word total_cost
finish_head place.Init = word (codes "a")
finish_head place.InitAtom = word (codes "a")
finish_head place.InitFunction = word (codes "a")
finish_head place.Atom = word (codes "a")
finish_head (place.Effect free) = word (codes "and")
finish_head place.EffectOrEmpty = []
finish_head place.TotalCost = word total_cost
finish_head place.PredicateHeader = word (codes "a")
finish_head place.FunctionHeader = word (codes "a")

-- a shortest text of an element
abbrev pub shortest : Slot → List Mark
shortest (slot.Word c) = word (sample c)
shortest (slot.List p) = in_parentheses (finish_head p)
shortest (slot.Either c p) = word (sample c)

abbrev pub finish_rest : Rest → List Mark
finish_rest (rest.One s) = shortest s
finish_rest (rest.Two s later) = shortest s ++ shortest later
finish_rest (rest.Some s) = shortest s
finish_rest (rest.OneOrTwo s) = shortest s
finish_rest (rest.Named p) = shortest (slot.List p)
finish_rest (rest.Typed i progress.Type) = shortest (type_slot i)
finish_rest _ = []

abbrev pub the_seen : Bool → Bool → Bool → Bool → Bool → Bool → Bool → Seen
the_seen domain init goal requirements objects constraints metric =
    record { domain = domain; requirements = requirements; objects = objects; init = init; goal = goal; constraints = constraints; metric = metric }

-- the first section that is missing
abbrev pub missing : Seen → List Mark
missing seen =
    if not seen.domain then word (codes ":domain") ++ word (codes "a")
    else (if not seen.init then word (codes ":init")
    else (if not seen.goal then word (codes ":goal") ++ in_parentheses []
    else (if not seen.requirements then word (codes ":requirements")
    else (if not seen.objects then word (codes ":objects")
    else (if not seen.constraints then word (codes ":constraints") ++ in_parentheses []
    else word (codes ":metric") ++ word (codes "minimize") ++ word (codes "0"))))))

abbrev pub finish : State → List Mark
finish (state.Parts seen) = []
finish (state.Part seen p) = in_parentheses (finish_head p)
finish (state.Head p) = finish_head p
finish (state.Rest r) = finish_rest r
finish state.Defined = in_parentheses (word (codes "problem") ++ word (codes "a")) ++ needed_sections
finish (state.Sections seen) = finish_sections seen
finish (state.SectionHead seen) = missing seen
finish (state.Section k r) = finish_rest r
finish state.DomainDefined = in_parentheses (word (codes "domain") ++ word (codes "a"))
finish (state.DomainSections seen) = []
finish (state.DomainHead seen) = word (codes ":action") ++ word (codes "a")
finish (state.DomainSection k r) = finish_rest r
finish state.Action = word (codes "a")

-- only the head of a section where all stand already cannot be reached
abbrev pub is_live : State → Bool
is_live (state.SectionHead seen) = not (has_all seen)
is_live _ = true
