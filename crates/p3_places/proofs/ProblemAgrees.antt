-- The problem half has a tree exactly where the table takes it.
use Rattle.std.proofs.Common.{◌≡◌, ◌∙◌, refl, sym, ap, Bool, true, false, ◌&&◌, ◌||◌, if◌then◌else◌, List, [], ◌∷◌, map, Option, Some, None}
use Rattle.std.specs.Prelude.{is_some, codes}
use Rattle.std.specs.Option.{option_or}
use Rattle.p3_base.specs.Words.{is_predicate_name, is_function_name}
use Rattle.p3_base.specs.declared.refusal.Direction.TheVariants.{Minimize, Maximize}
use Rattle.p3_task.specs.Names.{Name, same_name}
use Rattle.p3_task.specs.Grammar.Words.{◌>>=◌, parts_place, name_place, function_place, predicate_place, numeral_place, choose, expressions, each_at}
use Rattle.p3_task.specs.Grammar.Lists.{object_place, one_type_place, objects_in, grouped, typed_item}
use Rattle.p3_task.specs.Grammar.Metrics.{num_place, direction_place, metric_in}
use Rattle.p3_task.specs.Grammar.Goals.{goal_or_empty_place}
use Rattle.p3_task.specs.Grammar.Constraints.{constraint_or_empty_place}
use Rattle.p3_task.specs.Grammar.Halves.{NamedSections, sections_named, problem_keywords, optional, once, body_at, part_at, requirements, no_constraints, initial_in, true_entry, false_entry, value_form, init_forms, init_in, init_place, problem_place}
use Rattle.p3_task.specs.declared.expression.Expression.{Expression, Group'}
use Rattle.p3_task.specs.declared.expression.Expression.TheVariants as expression
use Rattle.p3_task.specs.declared.effect.Numeral.{Numeral}
use Rattle.p3_task.specs.declared.task.Init.{Init}
use Rattle.p3_task.specs.declared.task.Init.TheVariants as init
use Rattle.p3_task.specs.declared.task.Problem.{Problem}
use Rattle.p3_task.specs.declared.term.Ref.{Ref}
use Rattle.p3_places.proofs.Runs.{run}
use Rattle.p3_places.specs.Places.{init_head, init_rests, num_slot, names, rest_if, no_section}
use Rattle.p3_places.proofs.Fits.{ends, run_parts, fits, fits_two}
use Rattle.p3_places.proofs.SectionFits.{body_fits, all_allowed}
use Rattle.p3_places.specs.declared.state.Class.TheVariants as class
use Rattle.p3_places.specs.declared.state.Place.TheVariants as place
use Rattle.p3_places.specs.declared.state.Slot.TheVariants as slot
use Rattle.p3_places.specs.declared.state.Items.TheVariants as items
use Rattle.p3_places.specs.declared.state.Keyword.TheVariants as keyword
use Rattle.p3_places.specs.declared.state.Rest.TheVariants as rest
use Rattle.p3_places.specs.declared.state.State.TheVariants as state
use Rattle.p3_places.proofs.FitLemmas.{ends_two, ends_many, choose_alike, some_bind, name_fits, each_fits, list_fits, AreItems, items_go, and_false, and_true}
use Rattle.p3_places.proofs.PlaceLemmas.{Same, bind_rest, the_word}
use Rattle.p3_places.proofs.GoalAgrees.{goal_or_empty_fits, constraint_or_empty_fits}
use Rattle.p3_places.proofs.MetricAgrees.{num_fits}
use Rattle.p3_places.proofs.HalfLemmas.{number_fits, object_fits, one_type_fits, only_fits, two_fit, entry_fits, requirements_fit, once_fits, optional_fits, then_fits, IsHalf, half_fits}
use Rattle.p3_places.proofs.SectionLemmas.{sections_run}

-- ---- small places

either_word : {A B : Type 0} (b c : Bool) (a : A) (x y : B) → is_some (option_or ((if b then Some a else None) >>= λ w. Some x) ((if c then Some a else None) >>= λ w. Some y)) ≡ (b || c)
either_word true c a x y = refl
either_word false true a x y = refl
either_word false false a x y = refl

direction_fits : (e : Expression) → is_some (direction_place e) ≡ fits (slot.Word class.Direction) e
direction_fits (expression.Word at text) = either_word (same_name (codes "minimize") text) (same_name (codes "maximize") text) (the_word text at) Minimize Maximize
direction_fits (Group' at shape row) = refl

-- ---- the initial state

names_fit : (parts : List Expression) → is_some (each_at object_place parts) ≡ ends (run_parts (state.Rest names) parts)
names_fit parts = each_fits object_place (slot.Word class.Name) object_fits parts ∙ sym (ends_many (slot.Word class.Name) parts)

-- `(name name*)`
predicate_parts : (entry : Ref → List Expression → Option Init) → ((word : Ref) (parts : List Expression) → is_some (entry word parts) ≡ ends (run_parts (state.Rest names) parts))
    → (parts : List Expression) → is_some (initial_in entry predicate_place parts) ≡ ends (run_parts (state.Head place.InitAtom) parts)
unfolding run
predicate_parts entry entries [] = refl
predicate_parts entry entries (Group' at shape row ∷ parts) = refl
predicate_parts entry entries (expression.Word at text ∷ parts) =
    entry_fits (is_predicate_name text) names (the_word text at) (λ word. entry word parts) parts (entries (the_word text at) parts) ∙ bind_rest (rest_if (is_predicate_name text) names) parts

function_parts : (entry : Ref → List Expression → Option Init) → ((word : Ref) (parts : List Expression) → is_some (entry word parts) ≡ ends (run_parts (state.Rest names) parts))
    → (parts : List Expression) → is_some (initial_in entry function_place parts) ≡ ends (run_parts (state.Head place.InitFunction) parts)
unfolding run
function_parts entry entries [] = refl
function_parts entry entries (Group' at shape row ∷ parts) = refl
function_parts entry entries (expression.Word at text ∷ parts) =
    entry_fits (is_function_name text) names (the_word text at) (λ word. entry word parts) parts (entries (the_word text at) parts) ∙ bind_rest (rest_if (is_function_name text) names) parts

false_atom : (e : Expression) → is_some (parts_place e >>= initial_in false_entry predicate_place) ≡ fits (slot.List place.InitAtom) e
false_atom (expression.Word at text) = refl
false_atom (Group' at shape row) =
    predicate_parts false_entry (λ word parts. some_bind (each_at object_place parts) (init.False word) ∙ names_fit parts) (expressions row) ∙ sym (list_fits place.InitAtom row)

-- the value of a function
value_of : Numeral → Ref → List Expression → Option Init
value_of number function others = each_at object_place others >>= λ args. Some (init.Value function args number)

with_number : (parts : Option (List Expression)) (number : Option Numeral) (b c : Bool) → ((n : Numeral) → is_some (parts >>= initial_in (value_of n) function_place) ≡ b) → is_some number ≡ c
    → is_some (parts >>= λ found. number >>= λ n. initial_in (value_of n) function_place found) ≡ (b && c)
with_number None None b c first later = sym (and_false b) ∙ ap (λ x. b && x) later
with_number None (Some n) b c first later = ap (λ x. x && c) (first n)
with_number (Some found) None b c first later = sym (and_false b) ∙ ap (λ x. b && x) later
with_number (Some found) (Some n) b c first later = first n ∙ sym (and_true b) ∙ ap (λ x. b && x) later

value_atom : (number : Numeral) (e : Expression) → is_some (parts_place e >>= initial_in (value_of number) function_place) ≡ fits (slot.List place.InitFunction) e
unfolding value_of
value_atom number (expression.Word at text) = refl
value_atom number (Group' at shape row) =
    function_parts (value_of number) (λ word parts. some_bind (each_at object_place parts) (λ args. init.Value word args number) ∙ names_fit parts) (expressions row) ∙ sym (list_fits place.InitFunction row)

value_parts : (parts : List Expression) → is_some (value_form parts) ≡ ends (run_parts (state.Rest (rest.Two (slot.List place.InitFunction) (slot.Word class.Number))) parts)
unfolding value_of
value_parts parts = by parts ∙ sym (ends_two (slot.List place.InitFunction) (slot.Word class.Number) parts)
  where
    by : (parts : List Expression) → is_some (value_form parts) ≡ fits_two (fits (slot.List place.InitFunction)) (fits (slot.Word class.Number)) parts
    by [] = refl
    by (part ∷ []) = refl
    by (part ∷ other ∷ []) =
        with_number (parts_place part) (numeral_place other) (fits (slot.List place.InitFunction) part) (fits (slot.Word class.Number) other) (λ n. value_atom n part) (number_fits other)
    by (part ∷ other ∷ third ∷ parts) = refl

init_choice : (at : _) (text : Name) (behind : List Expression) → Same behind (choose text init_forms (λ _. initial_in true_entry predicate_place (expression.Word at text ∷ behind)) behind) (init_head text)
init_choice at text behind =
    choose_alike (λ f r. Same behind (f behind) r) text init_forms init_rests (λ _. initial_in true_entry predicate_place (expression.Word at text ∷ behind)) (rest_if (is_predicate_name text) names)
    ((refl, only_fits (slot.List place.InitAtom) (λ e. parts_place e >>= initial_in false_entry predicate_place) false_atom behind, (refl, value_parts behind, tt)))
    (entry_fits (is_predicate_name text) names (the_word text at) (λ word. true_entry word behind) behind (some_bind (each_at object_place behind) (init.True (the_word text at)) ∙ names_fit behind))

init_parts : (parts : List Expression) → is_some (init_in parts) ≡ ends (run_parts (state.Head place.Init) parts)
unfolding run
init_parts [] = refl
init_parts (Group' at shape row ∷ parts) = refl
init_parts (expression.Word at text ∷ parts) = init_choice at text parts ∙ bind_rest (init_head text) parts

pub init_fits : (e : Expression) → is_some (init_place e) ≡ fits (slot.List place.Init) e
init_fits (expression.Word at text) = refl
init_fits (Group' at shape row) = init_parts (expressions row) ∙ sym (list_fits place.Init row)

-- ---- the sections

objects_are : AreItems name_place one_type_place items.Names
objects_are = record { item_fits = name_fits; type_fits = one_type_fits }

objects_fit : (parts : List Expression) → is_some (objects_in parts) ≡ body_fits keyword.Objects parts
objects_fit parts =
    some_bind (grouped name_place one_type_place parts) (map typed_item)
    ∙ items_go name_place one_type_place items.Names objects_are parts (record { typed = []; waiting = []; is_type_next = false })

metric_fits : (parts : List Expression) → is_some (metric_in parts) ≡ body_fits keyword.Metric parts
metric_fits = two_fit (slot.Word class.Direction) num_slot direction_place num_place (λ direction body. record { direction = direction; body = body }) direction_fits num_fits

contents_of : NamedSections → Option Problem
contents_of half = do
  domain ← once (codes ":domain") (body_at name_place) half.sections
  words ← optional (codes ":requirements") [] requirements half.sections
  objects ← optional (codes ":objects") [] (λ section. objects_in section.behind) half.sections
  entries ← once (codes ":init") (λ section. each_at init_place section.behind) half.sections
  goal ← once (codes ":goal") (part_at goal_or_empty_place) half.sections
  constraints ← optional (codes ":constraints") no_constraints (part_at constraint_or_empty_place) half.sections
  metric ← optional (codes ":metric") None (λ section. metric_in section.behind >>= λ found. Some (Some found)) half.sections
  Some (record { name = half.name; domain = domain; objects = objects; init = entries; goal = goal; constraints = constraints; metric = metric })

contents_fit : (half : NamedSections) → is_some (contents_of half) ≡ all_allowed no_section half.sections
unfolding contents_of
contents_fit half =
    let s = half.sections in
    then_fits (once (codes ":domain") (body_at name_place) s) _ _ _
    (once_fits (body_fits keyword.Domain) (body_at name_place) (λ section. only_fits (slot.Word class.Name) name_place name_fits section.behind) (sections_named (codes ":domain") s)) (λ domain.
    then_fits (optional (codes ":requirements") [] requirements s) _ _ _
    (optional_fits (body_fits keyword.Requirements) [] requirements requirements_fit (sections_named (codes ":requirements") s)) (λ words.
    then_fits (optional (codes ":objects") [] (λ section. objects_in section.behind) s) _ _ _
    (optional_fits (body_fits keyword.Objects) [] (λ section. objects_in section.behind) (λ section. objects_fit section.behind) (sections_named (codes ":objects") s)) (λ objects.
    then_fits (once (codes ":init") (λ section. each_at init_place section.behind) s) _ _ _
    (once_fits (body_fits keyword.Init) (λ section. each_at init_place section.behind) (λ section. each_fits init_place (slot.List place.Init) init_fits section.behind ∙ sym (ends_many (slot.List place.Init) section.behind)) (sections_named (codes ":init") s)) (λ entries.
    then_fits (once (codes ":goal") (part_at goal_or_empty_place) s) _ _ _
    (once_fits (body_fits keyword.Goal) (part_at goal_or_empty_place)
    (λ section. some_bind (body_at goal_or_empty_place section) (λ body. record { at = section.word.at; body = body }) ∙ only_fits (slot.List place.PreGoalOrEmpty) goal_or_empty_place goal_or_empty_fits section.behind) (sections_named (codes ":goal") s)) (λ goal.
    then_fits (optional (codes ":constraints") no_constraints (part_at constraint_or_empty_place) s) _ _ _
    (optional_fits (body_fits keyword.Constraints) no_constraints (part_at constraint_or_empty_place)
    (λ section. some_bind (body_at constraint_or_empty_place section) (λ body. record { at = section.word.at; body = body }) ∙ only_fits (slot.List place.ConstraintOrEmpty) constraint_or_empty_place constraint_or_empty_fits section.behind) (sections_named (codes ":constraints") s)) (λ constraints.
    some_bind (optional (codes ":metric") None (λ section. metric_in section.behind >>= λ found. Some (Some found)) s) _
    ∙ optional_fits (body_fits keyword.Metric) None (λ section. metric_in section.behind >>= λ found. Some (Some found)) (λ section. some_bind (metric_in section.behind) Some ∙ metric_fits section.behind) (sections_named (codes ":metric") s)))))))

-- ---- the half

problem_half : IsHalf (codes "problem") problem_keywords (all_allowed no_section) place.Problem place.ProblemTitle state.Defined (state.Sections no_section)
problem_half = record {
  head = λ text. refl;
  not_empty = refl;
  no_end = refl;
  titles = record { word = λ text. refl; list = refl; then_to = λ last. refl };
  title_head = λ text. refl;
  title_not_empty = refl;
  sections_go = λ es. sections_run es no_section;
}

-- A PROBLEM has a tree exactly where the table takes its expression.
pub problem_fits : (e : Expression) → is_some (problem_place e) ≡ fits (slot.List place.Problem) e
unfolding problem_place contents_of
problem_fits e =
    half_fits (codes "problem") problem_keywords (all_allowed no_section) place.Problem place.ProblemTitle state.Defined (state.Sections no_section) problem_half contents_of contents_fit e
