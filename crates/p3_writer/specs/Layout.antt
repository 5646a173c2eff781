-- How the task that a target is is laid out: one `(name)` a predicate, three lines an action, and the atoms that are set at the start behind the cost.
use Rattle.std.specs.Prelude.{ℕ, ◌==◌, ◌^◌, nat_lt, Bool, true, false, List, [], ◌∷◌, ◌++◌, map, flat_map, zip, codes, slice_index_or, if◌then◌else◌}
use Rattle.std.specs.Fmt.{decimal}
use Rattle.p3_base.specs.Words.{Name}
use Rattle.p3_formula.specs.Folds.{fold_form}
use Rattle.p3_formula.specs.declared.form.Change.{Change}
use Rattle.p3_formula.specs.declared.form.Form.{Form}
use Rattle.p3_formula.specs.declared.form.Form.TheVariants as form
use Rattle.p3_formula.specs.declared.form.Form.TheOpen as layer
use Rattle.p3_formula.specs.declared.target.Target.{Target}
use Rattle.p3_formula.specs.declared.target.TargetAction.{TargetAction}

-- `(name)`
abbrev pub atom_text : Name → List ℕ
atom_text name = codes "(" ++ name ++ codes ")"

-- `(not TEXT)`
abbrev pub negated_text : List ℕ → List ℕ
negated_text text = codes "(not " ++ text ++ codes ")"

-- each text with a space before it
abbrev pub spaced : List (List ℕ) → List ℕ
spaced texts = flat_map (λ text. 32 ∷ text) texts

abbrev pub headers_text : List Name → List ℕ
headers_text names = spaced (map atom_text names)

-- ---- forms

abbrev pub form_layer : List Name → layer.Form-F (List ℕ) → List ℕ
form_layer names layer.True = codes "(and)"
form_layer names layer.False = codes "(or)"
form_layer names (layer.Atom atom) = atom_text (slice_index_or names atom [])
form_layer names (layer.Not part) = negated_text part
form_layer names (layer.And parts) = codes "(and" ++ spaced parts ++ codes ")"
form_layer names (layer.Or parts) = codes "(or" ++ spaced parts ++ codes ")"

unfoldable pub form_text : List Name → Form → List ℕ
form_text names tree = fold_form (form_layer names) tree

-- the parts behind an opening parenthesis and a word
abbrev pub joined_text : List Name → List ℕ → List Form → List ℕ
joined_text names head parts = head ++ spaced (map (form_text names) parts) ++ codes ")"

-- ---- actions

abbrev pub literal_text : Bool → Name → List ℕ
literal_text true name = atom_text name
literal_text false name = negated_text (atom_text name)

-- `(when FORM TEXT)`, or the text alone where the condition is True
abbrev pub under_text : List Name → Form → List ℕ → List ℕ
under_text names form.True text = text
under_text names condition text = codes "(when " ++ form_text names condition ++ codes " " ++ text ++ codes ")"

abbrev pub change_text : List Name → Change → List ℕ
change_text names change = under_text names change.cond (literal_text change.add (slice_index_or names change.atom []))

abbrev pub changes_text : List Name → List Change → List ℕ
changes_text names changes = spaced (map (change_text names) changes)

-- the last effect, where the cost is not 0
abbrev pub cost_text : ℕ → List ℕ
cost_text cost = if cost == 0 then [] else codes " (increase (total-cost) " ++ decimal cost ++ codes ")"

abbrev pub effect_text : List Name → TargetAction → List ℕ
effect_text names action = codes "(and" ++ changes_text names action.effects ++ cost_text action.cost ++ codes ")"

abbrev pub action_head : Name → List ℕ
action_head name = codes "(:action " ++ name ++ codes " :parameters ()\n :precondition "

unfoldable pub action_text : List Name → TargetAction → List ℕ
action_text names action =
    action_head action.name ++ form_text names action.pre ++ codes "\n :effect " ++ effect_text names action ++ codes ")\n"

abbrev pub actions_text : List Name → List TargetAction → List ℕ
actions_text names actions = flat_map (action_text names) actions

-- its cost is a machine number
abbrev pub is_small : TargetAction → Bool
is_small action = nat_lt action.cost (2 ^ 64)

-- ---- halves

-- what stands before the first action of a domain
abbrev pub domain_head : List Name → List ℕ
domain_head names =
    codes "(define (domain compiled)\n(:requirements :adl :action-costs)\n(:predicates" ++ headers_text names
    ++ codes ")\n(:functions (total-cost) - number)\n"

abbrev pub domain_layout : Target → List ℕ
domain_layout X = domain_head X.predicates ++ actions_text X.predicates X.actions ++ codes ")\n"

-- an atom of the initial state, where it is set
abbrev pub set_atom : Bool → Name → List ℕ
set_atom true name = 32 ∷ atom_text name
set_atom false name = []

-- the atoms that are set, in the order of the predicates
abbrev pub set_atoms : List Bool → List Name → List ℕ
set_atoms bits names = flat_map (λ (entry : Bool × Name). set_atom entry.0 entry.1) (zip bits names)

-- the problem with this initial state and goal over these predicates
abbrev pub problem_text : List Name → List Bool → Form → List ℕ
problem_text names bits goal =
    codes "(define (problem compiled)\n(:domain compiled)\n(:init (= (total-cost) 0)" ++ set_atoms bits names
    ++ codes ")\n(:goal " ++ form_text names goal ++ codes ")\n(:metric minimize (total-cost)))\n"

abbrev pub problem_layout : Target → List ℕ
problem_layout X = problem_text X.predicates X.initial X.goal
