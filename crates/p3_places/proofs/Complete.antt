-- The table is complete.
use Rattle.std.proofs.Common.{◌≡◌, ◌∙◌, refl, sym, ap, subst, Bool, true, false, IsTrue, not, if◌then◌else◌, List, [], ◌∷◌, ◌++◌, Option, Some, None}
use Rattle.std.specs.List.{list_all}
use Rattle.p3_task.specs.Names.{Name, same_name, total_cost}
use Rattle.std.specs.Prelude.{codes}
use Rattle.p3_base.specs.Words.{is_name, is_predicate_name, is_function_name}
use Rattle.p3_task.specs.PlanTexts.{Mark, Closes, Names}
use Rattle.p3_task.specs.Grammar.Words.{◌>>=◌, choose}
use Rattle.p3_lexer.proofs.MarkLemmas.{is_lexed}
use Rattle.p3_places.proofs.Runs.{steps, ends_in_final, IsComplete}
use Rattle.p3_places.specs.Places.{grammar_table, on_word, on_open, is_final, after, is_word_of, takes_word, list_of, has_all, rest_word, rest_list, type_slot, behind, may_end, in_list, in_section, head_of, head_word, section_word, once, with_list, num_slot, start, section_forms, part_forms, part_once, formula_head, goal_head, constraint_head, inner_head, num_head, init_head, rest_if, names, terms, many_of, one_of, effect_head, in_domain_section, with_domain_list, domain_once, domain_word, domain_forms, no_part}
use Rattle.p3_places.proofs.Completion.{the_seen, sample, finish, finish_head, finish_rest, shortest, is_live, missing, unless, domain_section, init_section, goal_section}
use Rattle.p3_places.specs.declared.state.Class.{Class}
use Rattle.p3_places.specs.declared.state.Class.TheVariants as class
use Rattle.p3_places.specs.declared.state.Place.{Place}
use Rattle.p3_places.specs.declared.state.Place.TheVariants as place
use Rattle.p3_places.specs.declared.state.Slot.{Slot}
use Rattle.p3_places.specs.declared.state.Slot.TheVariants as slot
use Rattle.p3_places.specs.declared.state.Progress.TheVariants as progress
use Rattle.p3_places.specs.declared.state.Keyword.{Keyword}
use Rattle.p3_places.specs.declared.state.Keyword.TheVariants as keyword
use Rattle.p3_places.specs.declared.state.Items.TheVariants as items
use Rattle.p3_places.specs.declared.state.Rest.{Rest}
use Rattle.p3_places.specs.declared.state.Rest.TheVariants as rest
use Rattle.p3_places.specs.declared.state.Seen.{Seen}
use Rattle.p3_places.specs.declared.state.DomainKeyword.{DomainKeyword}
use Rattle.p3_places.specs.declared.state.DomainKeyword.TheVariants as domain
use Rattle.p3_places.specs.declared.state.DomainSeen.{DomainSeen}
use Rattle.p3_places.specs.declared.state.PartsSeen.{PartsSeen}
use Rattle.p3_places.specs.declared.state.State.{State}
use Rattle.p3_places.specs.declared.state.State.TheVariants as state
use Rattle.p3_places.proofs.MachineLemmas.{all_append, steps_append, finished}
use Rattle.p3_places.proofs.FitLemmas.{Awaits}

is_sample : (c : Class) → is_word_of c (sample c) ≡ true
is_sample class.Name = refl
is_sample class.Variable = refl
is_sample class.Term = refl
is_sample class.Number = refl
is_sample class.Keyword = refl
is_sample class.Direction = refl
is_sample class.End = refl
is_sample class.Numeric = refl
is_sample class.NumberType = refl

head_finishes : (p : Place) (outer : List State) → ends_in_final grammar_table outer (steps grammar_table (state.Head p ∷ outer) (finish_head p))
unfolding steps
head_finishes place.Problem outer = (refl, refl)
head_finishes place.ProblemTitle outer = (refl, refl)
head_finishes place.Variables outer = (refl, refl)
head_finishes place.Either outer = (refl, refl)
head_finishes place.Formula outer = (refl, refl)
head_finishes place.PreGoal outer = (refl, refl)
head_finishes place.PreGoalOrEmpty outer = (refl, refl)
head_finishes place.Constraint outer = (refl, refl)
head_finishes place.ConstraintOrEmpty outer = (refl, refl)
head_finishes place.Inner outer = (refl, refl)
head_finishes place.Num outer = (refl, refl)
head_finishes place.Init outer = (refl, refl)
head_finishes place.InitAtom outer = (refl, refl)
head_finishes place.InitFunction outer = (refl, refl)
head_finishes place.Domain outer = (refl, refl)
head_finishes place.DomainTitle outer = (refl, refl)
head_finishes place.Atom outer = (refl, refl)
head_finishes (place.Effect free) outer = (refl, refl)
head_finishes place.EffectOrEmpty outer = (refl, refl)
head_finishes place.TotalCost outer = (refl, refl)
head_finishes place.PredicateHeader outer = (refl, refl)
head_finishes place.FunctionHeader outer = (refl, refl)

-- ---- an element

takes_sample : (from to : State) (outer : List State) (c : Class) → on_word from (sample c) ≡ (if is_word_of c (sample c) then Some to else None)
    → steps grammar_table (from ∷ outer) (Names (sample c) ∷ []) ≡ Some (to ∷ outer)
unfolding steps
takes_sample from to outer c is =
    ap (λ o. (o >>= λ next. Some (next ∷ outer)) >>= λ s. steps grammar_table s []) (is ∙ ap (λ b. if b then Some to else None) (is_sample c))

closes_to : (from to last : State) (outer : List State) (final : Bool) → IsTrue final → after from last ≡ to
    → ((if final then Some (after from last ∷ outer) else None) >>= λ s. steps grammar_table s []) ≡ Some (to ∷ outer)
unfolding steps
closes_to from to last outer true is then_to = ap (λ t. Some (t ∷ outer)) then_to
closes_to from to last outer false is then_to = absurd cc

takes_shortest : (from to : State) (s : Slot) (outer : List State) → Awaits from s to → steps grammar_table (from ∷ outer) (shortest s) ≡ Some (to ∷ outer)
unfolding steps
takes_shortest from to (slot.Word c) outer awaits = takes_sample from to outer c (awaits.word (sample c))
takes_shortest from to (slot.Either c p) outer awaits = takes_sample from to outer c (awaits.word (sample c))
takes_shortest from to (slot.List p) outer awaits =
    let f = finished grammar_table (from ∷ outer) (steps grammar_table (state.Head p ∷ from ∷ outer) (finish_head p)) (head_finishes p (from ∷ outer)) in
    ap (λ o. (o >>= λ first. Some (first ∷ from ∷ outer)) >>= λ s. steps grammar_table s (finish_head p ++ Closes ∷ [])) awaits.list
    ∙ steps_append grammar_table (state.Head p ∷ from ∷ outer) (finish_head p) (Closes ∷ [])
    ∙ ap (λ o. o >>= λ s. steps grammar_table s (Closes ∷ [])) f.leads
    ∙ closes_to from to f.last outer (is_final f.last) f.final (awaits.then_to f.last)

-- ---- what is to come, in a list or in a section

pub record IsWrap (wrap : Rest → State) : Type 0 where
  pub words : (r : Rest) (text : Name) → on_word (wrap r) text ≡ rest_word r text >>= λ next. Some (wrap next)
  pub lists : (r : Rest) → on_open (wrap r) ≡ rest_list r >>= λ p. Some (state.Head p)
  pub later : (r : Rest) (last : State) → after (wrap r) last ≡ wrap (behind r)
  pub ends : (r : Rest) → is_final (wrap r) ≡ may_end r

pub rest_wraps : IsWrap state.Rest
rest_wraps = record { words = λ r text. refl; lists = λ r. refl; later = λ r last. refl; ends = λ r. refl }

pub section_wraps : (k : Keyword) → IsWrap (state.Section k)
section_wraps k = record { words = λ r text. refl; lists = λ r. refl; later = λ r last. refl; ends = λ r. refl }

pub domain_section_wraps : (k : DomainKeyword) → IsWrap (state.DomainSection k)
domain_section_wraps k = record { words = λ r text. refl; lists = λ r. refl; later = λ r last. refl; ends = λ r. refl }

wrapped_if : (wrap : Rest → State) (b : Bool) (r : Rest) → ((if b then Some r else None) >>= λ next. Some (wrap next)) ≡ (if b then Some (wrap r) else None)
wrapped_if wrap true r = refl
wrapped_if wrap false r = refl

awaits_by : (wrap : Rest → State) → IsWrap wrap → (r : Rest) (s : Slot) → ((text : Name) → rest_word r text ≡ (if takes_word s text then Some (behind r) else None))
    → (rest_list r ≡ list_of s) → Awaits (wrap r) s (wrap (behind r))
awaits_by wrap is r s words list = record {
  word = λ text. is.words r text ∙ ap (λ o. o >>= λ next. Some (wrap next)) (words text) ∙ wrapped_if wrap (takes_word s text) (behind r);
  list = is.lists r ∙ ap (λ o. o >>= λ p. Some (state.Head p)) list;
  then_to = λ last. is.later r last;
}

ends_at : (outer : List State) (found : Option (List State)) (last : State) → found ≡ Some (last ∷ outer) → is_final last ≡ true → ends_in_final grammar_table outer found
ends_at outer found last is final = subst (ends_in_final grammar_table outer) (sym is) (final, refl)

-- a name may stand before the list, and need not
named_list : (wrap : Rest → State) → IsWrap wrap → (p : Place) (outer : List State) → ends_in_final grammar_table outer (steps grammar_table (wrap (rest.Named p) ∷ outer) (shortest (slot.List p)))
unfolding steps
named_list wrap is p outer =
    let f = finished grammar_table (wrap (rest.Named p) ∷ outer) (steps grammar_table (state.Head p ∷ wrap (rest.Named p) ∷ outer) (finish_head p)) (head_finishes p (wrap (rest.Named p) ∷ outer)) in
    let leads = ap (λ o. (o >>= λ first. Some (first ∷ wrap (rest.Named p) ∷ outer)) >>= λ s. steps grammar_table s (finish_head p ++ Closes ∷ [])) (is.lists (rest.Named p))
    ∙ steps_append grammar_table (state.Head p ∷ wrap (rest.Named p) ∷ outer) (finish_head p) (Closes ∷ [])
    ∙ ap (λ o. o >>= λ s. steps grammar_table s (Closes ∷ [])) f.leads
    ∙ closes_to (wrap (rest.Named p)) (wrap rest.Nothing) f.last outer (is_final f.last) f.final (is.later (rest.Named p) f.last) in
    ends_at outer (steps grammar_table (wrap (rest.Named p) ∷ outer) (shortest (slot.List p))) (wrap rest.Nothing) leads (is.ends rest.Nothing)

rest_finishes : (wrap : Rest → State) → IsWrap wrap → (r : Rest) (outer : List State) → ends_in_final grammar_table outer (steps grammar_table (wrap r ∷ outer) (finish_rest r))
unfolding steps
rest_finishes wrap is rest.Nothing outer = (is.ends rest.Nothing, refl)
rest_finishes wrap is (rest.One s) outer =
    ends_at outer (steps grammar_table (wrap (rest.One s) ∷ outer) (shortest s)) (wrap rest.Nothing)
    (takes_shortest (wrap (rest.One s)) (wrap rest.Nothing) s outer (awaits_by wrap is (rest.One s) s (λ text. refl) refl)) (is.ends rest.Nothing)
rest_finishes wrap is (rest.Two s later) outer =
    ends_at outer (steps grammar_table (wrap (rest.Two s later) ∷ outer) (shortest s ++ shortest later)) (wrap rest.Nothing)
    (steps_append grammar_table (wrap (rest.Two s later) ∷ outer) (shortest s) (shortest later)
    ∙ ap (λ o. o >>= λ stack. steps grammar_table stack (shortest later)) (takes_shortest (wrap (rest.Two s later)) (wrap (rest.One later)) s outer (awaits_by wrap is (rest.Two s later) s (λ text. refl) refl))
    ∙ takes_shortest (wrap (rest.One later)) (wrap rest.Nothing) later outer (awaits_by wrap is (rest.One later) later (λ text. refl) refl)) (is.ends rest.Nothing)
rest_finishes wrap is (rest.Many s) outer = (is.ends (rest.Many s), refl)
rest_finishes wrap is (rest.Some s) outer =
    ends_at outer (steps grammar_table (wrap (rest.Some s) ∷ outer) (shortest s)) (wrap (rest.Many s))
    (takes_shortest (wrap (rest.Some s)) (wrap (rest.Many s)) s outer (awaits_by wrap is (rest.Some s) s (λ text. refl) refl)) (is.ends (rest.Many s))
rest_finishes wrap is (rest.OneOrTwo s) outer =
    ends_at outer (steps grammar_table (wrap (rest.OneOrTwo s) ∷ outer) (shortest s)) (wrap (rest.Maybe s))
    (takes_shortest (wrap (rest.OneOrTwo s)) (wrap (rest.Maybe s)) s outer (awaits_by wrap is (rest.OneOrTwo s) s (λ text. refl) refl)) (is.ends (rest.Maybe s))
rest_finishes wrap is (rest.Maybe s) outer = (is.ends (rest.Maybe s), refl)
rest_finishes wrap is (rest.Named p) outer = named_list wrap is p outer
rest_finishes wrap is (rest.Typed i progress.Start) outer = (is.ends (rest.Typed i progress.Start), refl)
rest_finishes wrap is (rest.Typed i progress.Waiting) outer = (is.ends (rest.Typed i progress.Waiting), refl)
rest_finishes wrap is (rest.Typed i progress.Type) outer =
    ends_at outer (steps grammar_table (wrap (rest.Typed i progress.Type) ∷ outer) (shortest (type_slot i))) (wrap (rest.Typed i progress.Start))
    (takes_shortest (wrap (rest.Typed i progress.Type)) (wrap (rest.Typed i progress.Start)) (type_slot i) outer (awaits_by wrap is (rest.Typed i progress.Type) (type_slot i) (λ text. refl) refl)) (is.ends (rest.Typed i progress.Start))

-- ---- sections

sections_by : (d i g r o c m : Bool) (outer : List State)
    → ends_in_final grammar_table outer (steps grammar_table (state.Sections (the_seen d i g r o c m) ∷ outer) (finish (state.Sections (the_seen d i g r o c m))))
unfolding steps
sections_by true true true r o c m outer = (refl, refl)
sections_by true true false r o c m outer = (refl, refl)
sections_by true false true r o c m outer = (refl, refl)
sections_by true false false r o c m outer = (refl, refl)
sections_by false true true r o c m outer = (refl, refl)
sections_by false true false r o c m outer = (refl, refl)
sections_by false false true r o c m outer = (refl, refl)
sections_by false false false r o c m outer = (refl, refl)

section_by : (d i g r o c m : Bool) (outer : List State) → IsTrue (is_live (state.SectionHead (the_seen d i g r o c m)))
    → ends_in_final grammar_table outer (steps grammar_table (state.SectionHead (the_seen d i g r o c m) ∷ outer) (missing (the_seen d i g r o c m)))
unfolding steps
section_by false i g r o c m outer live = (refl, refl)
section_by true false g r o c m outer live = (refl, refl)
section_by true true false r o c m outer live = (refl, refl)
section_by true true true false o c m outer live = (refl, refl)
section_by true true true true false c m outer live = (refl, refl)
section_by true true true true true false m outer live = (refl, refl)
section_by true true true true true true false outer live = (refl, refl)
section_by true true true true true true true outer live = absurd cc

pub part_awaits : (seen : PartsSeen) (p : Place) → Awaits (state.Part seen p) (slot.List p) (state.Parts seen)
part_awaits seen p = record { word = λ text. refl; list = refl; then_to = λ last. refl }

state_finishes : (s : State) (outer : List State) → IsTrue (is_live s) → ends_in_final grammar_table outer (steps grammar_table (s ∷ outer) (finish s))
unfolding steps
state_finishes (state.Parts seen) outer live = (refl, refl)
state_finishes (state.Part seen p) outer live =
    ends_at outer (steps grammar_table (state.Part seen p ∷ outer) (shortest (slot.List p))) (state.Parts seen)
    (takes_shortest (state.Part seen p) (state.Parts seen) (slot.List p) outer (part_awaits seen p)) refl
state_finishes (state.Head p) outer live = head_finishes p outer
state_finishes (state.Rest r) outer live = rest_finishes state.Rest rest_wraps r outer
state_finishes state.Defined outer live = (refl, refl)
state_finishes (state.Sections seen) outer live = sections_by seen.domain seen.init seen.goal seen.requirements seen.objects seen.constraints seen.metric outer
state_finishes (state.SectionHead seen) outer live = section_by seen.domain seen.init seen.goal seen.requirements seen.objects seen.constraints seen.metric outer live
state_finishes (state.Section k r) outer live = rest_finishes (state.Section k) (section_wraps k) r outer
state_finishes state.DomainDefined outer live = (refl, refl)
state_finishes (state.DomainSections seen) outer live = (refl, refl)
state_finishes (state.DomainHead seen) outer live = (refl, refl)
state_finishes (state.DomainSection k r) outer live = rest_finishes (state.DomainSection k) (domain_section_wraps k) r outer
state_finishes state.Action outer live = (refl, refl)

-- ---- the marks that complete a state are those of texts

abbrev Words : List Mark → Type 0
Words marks = list_all is_lexed marks ≡ true

sample_words : (c : Class) → Words (Names (sample c) ∷ [])
sample_words class.Name = refl
sample_words class.Variable = refl
sample_words class.Term = refl
sample_words class.Number = refl
sample_words class.Keyword = refl
sample_words class.Direction = refl
sample_words class.End = refl
sample_words class.Numeric = refl
sample_words class.NumberType = refl

head_words : (p : Place) → Words (finish_head p)
head_words place.Domain = refl
head_words place.DomainTitle = refl
head_words place.Problem = refl
head_words place.ProblemTitle = refl
head_words place.Variables = refl
head_words place.Either = refl
head_words place.Formula = refl
head_words place.PreGoal = refl
head_words place.PreGoalOrEmpty = refl
head_words place.Constraint = refl
head_words place.ConstraintOrEmpty = refl
head_words place.Inner = refl
head_words place.Num = refl
head_words place.Init = refl
head_words place.InitAtom = refl
head_words place.InitFunction = refl
head_words place.Atom = refl
head_words (place.Effect free) = refl
head_words place.EffectOrEmpty = refl
head_words place.TotalCost = refl
head_words place.PredicateHeader = refl
head_words place.FunctionHeader = refl

shortest_words : (s : Slot) → Words (shortest s)
shortest_words (slot.Word c) = sample_words c
shortest_words (slot.List p) = all_append is_lexed (finish_head p) (Closes ∷ []) (head_words p) refl
shortest_words (slot.Either c p) = sample_words c

rest_words : (r : Rest) → Words (finish_rest r)
rest_words rest.Nothing = refl
rest_words (rest.One s) = shortest_words s
rest_words (rest.Two s later) = all_append is_lexed (shortest s) (shortest later) (shortest_words s) (shortest_words later)
rest_words (rest.Many s) = refl
rest_words (rest.Some s) = shortest_words s
rest_words (rest.OneOrTwo s) = shortest_words s
rest_words (rest.Maybe s) = refl
rest_words (rest.Named p) = shortest_words (slot.List p)
rest_words (rest.Typed i progress.Start) = refl
rest_words (rest.Typed i progress.Waiting) = refl
rest_words (rest.Typed i progress.Type) = shortest_words (type_slot i)

sections_words : (d i g : Bool) → Words (unless d domain_section ++ unless i init_section ++ unless g goal_section)
sections_words true true true = refl
sections_words true true false = refl
sections_words true false true = refl
sections_words true false false = refl
sections_words false true true = refl
sections_words false true false = refl
sections_words false false true = refl
sections_words false false false = refl

section_words : (d i g r o c m : Bool) → Words (missing (the_seen d i g r o c m))
section_words false i g r o c m = refl
section_words true false g r o c m = refl
section_words true true false r o c m = refl
section_words true true true false o c m = refl
section_words true true true true false c m = refl
section_words true true true true true false m = refl
section_words true true true true true true m = refl

finish_words : (s : State) → Words (finish s)
finish_words (state.Parts seen) = refl
finish_words (state.Part seen p) = shortest_words (slot.List p)
finish_words (state.Head p) = head_words p
finish_words (state.Rest r) = rest_words r
finish_words state.Defined = refl
finish_words (state.Sections seen) = sections_words seen.domain seen.init seen.goal
finish_words (state.SectionHead seen) = section_words seen.domain seen.init seen.goal seen.requirements seen.objects seen.constraints seen.metric
finish_words (state.Section k r) = rest_words r
finish_words state.DomainDefined = refl
finish_words (state.DomainSections seen) = refl
finish_words (state.DomainHead seen) = refl
finish_words (state.DomainSection k r) = rest_words r
finish_words state.Action = refl

-- ---- live states lead to live states

abbrev Lives : Option State → Type 0
Lives o = (next : State) → o ≡ Some next → IsTrue (is_live next)

abbrev is_some_live : Option State → Bool
is_some_live None = true
is_some_live (Some s) = is_live s

lives : (o : Option State) → IsTrue (is_some_live o) → Lives o
lives None live next is = absurd cc
lives (Some s) live next is = subst (λ s. IsTrue (is_live s)) (cc) live

list_lives : (r : Option Rest) → IsTrue (is_some_live (in_list r))
list_lives None = refl
list_lives (Some r) = refl

in_section_lives : (k : Keyword) (r : Option Rest) → IsTrue (is_some_live (in_section k r))
in_section_lives k None = refl
in_section_lives k (Some r) = refl

in_domain_section_lives : (k : DomainKeyword) (r : Option Rest) → IsTrue (is_some_live (in_domain_section k r))
in_domain_section_lives k None = refl
in_domain_section_lives k (Some r) = refl

head_lives : (p : Option Place) → IsTrue (is_some_live (head_of p))
head_lives None = refl
head_lives (Some p) = refl

if_lives : (b : Bool) (s : State) → IsTrue (is_live s) → IsTrue (is_some_live (if b then Some s else None))
if_lives true s live = live
if_lives false s live = refl

once_lives : (seen : Bool) (k : Keyword) (r : Rest) → IsTrue (is_some_live (once seen k r))
once_lives true k r = refl
once_lives false k r = refl

head_word_lives : (p : Place) (text : Name) → IsTrue (is_some_live (head_word p text))
head_word_lives place.Problem text = if_lives (same_name (codes "define") text) state.Defined refl
head_word_lives place.ProblemTitle text = if_lives (same_name (codes "problem") text) (state.Rest (rest.One (slot.Word class.Name))) refl
head_word_lives place.Variables text = list_lives (rest_word (rest.Typed items.Variables progress.Start) text)
head_word_lives place.Either text = if_lives (same_name (codes "either") text) (state.Rest (rest.Some (slot.Word class.Name))) refl
head_word_lives place.Formula text = list_lives (formula_head text)
head_word_lives place.PreGoal text = list_lives (goal_head text)
head_word_lives place.PreGoalOrEmpty text = list_lives (goal_head text)
head_word_lives place.Constraint text = list_lives (constraint_head text)
head_word_lives place.ConstraintOrEmpty text = list_lives (constraint_head text)
head_word_lives place.Inner text = list_lives (inner_head text)
head_word_lives place.Num text = list_lives (num_head text)
head_word_lives place.Init text = list_lives (init_head text)
head_word_lives place.InitAtom text = list_lives (rest_if (is_predicate_name text) names)
head_word_lives place.InitFunction text = list_lives (rest_if (is_function_name text) names)
head_word_lives place.Domain text = if_lives (same_name (codes "define") text) state.DomainDefined refl
head_word_lives place.DomainTitle text = if_lives (same_name (codes "domain") text) (state.Rest (rest.One (slot.Word class.Name))) refl
head_word_lives place.Atom text = list_lives (rest_if (is_predicate_name text) terms)
head_word_lives (place.Effect free) text = list_lives (effect_head free text)
head_word_lives place.EffectOrEmpty text = list_lives (effect_head true text)
head_word_lives place.TotalCost text = list_lives (rest_if (same_name total_cost text) rest.Nothing)
head_word_lives place.PredicateHeader text = list_lives (rest_if (is_predicate_name text) (rest.Typed items.Variables progress.Start))
head_word_lives place.FunctionHeader text = list_lives (rest_if (is_function_name text) (rest.Typed items.Variables progress.Start))

-- each form of a choice
abbrev Each : List (Name × Option State) → Type 0
Each [] = Unit {0}
Each (form ∷ forms) = IsTrue (is_some_live form.1) × Each forms

if_either : (b : Bool) (o u : Option State) → IsTrue (is_some_live o) → IsTrue (is_some_live u) → IsTrue (is_some_live (if b then o else u))
if_either true o u first second = first
if_either false o u first second = second

choose_lives : (text : Name) (forms : List (Name × Option State)) (other : Option State) → Each forms → IsTrue (is_some_live other) → IsTrue (is_some_live (choose text forms other))
choose_lives text [] other each last = last
choose_lives text (form ∷ forms) other each last = if_either (same_name form.0 text) form.1 (choose text forms other) each.0 (choose_lives text forms other each.1 last)

section_lives : (seen : Seen) (text : Name) → IsTrue (is_some_live (section_word seen text))
section_lives seen text = choose_lives text (section_forms seen) None (
  once_lives seen.domain keyword.Domain (rest.One (slot.Word class.Name)),
  (
    once_lives seen.requirements keyword.Requirements (rest.Many (slot.Word class.Keyword)),
    (
      once_lives seen.objects keyword.Objects (rest.Typed items.Names progress.Start),
      (
        once_lives seen.init keyword.Init (many_of place.Init),
        (
          once_lives seen.goal keyword.Goal (one_of place.PreGoalOrEmpty),
          (
            once_lives seen.constraints keyword.Constraints (one_of place.ConstraintOrEmpty),
            (once_lives seen.metric keyword.Metric (rest.Two (slot.Word class.Direction) num_slot), tt),
          ),
        ),
      ),
    ),
  ),
) refl

domain_once_lives : (was : Bool) (k : DomainKeyword) → IsTrue (is_some_live (domain_once was k))
domain_once_lives true k = refl
domain_once_lives false k = refl

domain_section_lives : (seen : DomainSeen) (text : Name) → IsTrue (is_some_live (domain_word seen text))
domain_section_lives seen text = choose_lives text (domain_forms seen) None (
  domain_once_lives seen.requirements domain.Requirements,
  (
    domain_once_lives seen.types domain.Types,
    (
      domain_once_lives seen.constants domain.Constants,
      (domain_once_lives seen.predicates domain.Predicates, (domain_once_lives seen.functions domain.Functions, (domain_once_lives seen.constraints domain.Constraints, (refl, tt)))),
    ),
  ),
) refl

part_lives : (was : Bool) (seen : PartsSeen) (p : Place) → IsTrue (is_some_live (part_once was seen p))
part_lives true seen p = refl
part_lives false seen p = refl

word_lives : (s : State) (text : Name) → IsTrue (is_some_live (on_word s text))
word_lives (state.Parts seen) text = choose_lives text (part_forms seen) None (
  part_lives seen.parameters (record seen { parameters = true }) place.Variables,
  (
    part_lives seen.precondition (record seen { precondition = true }) place.PreGoalOrEmpty,
    (part_lives seen.effect (record seen { effect = true }) place.EffectOrEmpty, tt),
  ),
) refl
word_lives (state.Part seen p) text = refl
word_lives (state.Head p) text = head_word_lives p text
word_lives (state.Rest r) text = list_lives (rest_word r text)
word_lives state.Defined text = refl
word_lives (state.Sections seen) text = refl
word_lives (state.SectionHead seen) text = section_lives seen text
word_lives (state.Section k r) text = in_section_lives k (rest_word r text)
word_lives state.DomainDefined text = refl
word_lives (state.DomainSections seen) text = refl
word_lives (state.DomainHead seen) text = domain_section_lives seen text
word_lives (state.DomainSection k r) text = in_domain_section_lives k (rest_word r text)
word_lives state.Action text = if_lives (is_name text) (state.Parts no_part) refl

sections_open : (seen : Seen) (all : Bool) → has_all seen ≡ all → IsTrue (is_some_live (if all then None else Some (state.SectionHead seen)))
sections_open seen true is = refl
sections_open seen false is = ap not is

open_lives : (s : State) → IsTrue (is_some_live (on_open s))
open_lives (state.Parts seen) = refl
open_lives (state.Part seen p) = refl
open_lives (state.Head p) = refl
open_lives (state.Rest r) = head_lives (rest_list r)
open_lives state.Defined = refl
open_lives (state.Sections seen) = sections_open seen (has_all seen) refl
open_lives (state.SectionHead seen) = refl
open_lives (state.Section k r) = head_lives (rest_list r)
open_lives state.DomainDefined = refl
open_lives (state.DomainSections seen) = refl
open_lives (state.DomainHead seen) = refl
open_lives (state.DomainSection k r) = head_lives (rest_list r)
open_lives state.Action = refl

with_list_lives : (seen : Seen) (last : State) → IsTrue (is_live (with_list seen last))
with_list_lives seen (state.Parts other) = refl
with_list_lives seen (state.Part other p) = refl
with_list_lives seen (state.Head p) = refl
with_list_lives seen (state.Rest r) = refl
with_list_lives seen state.Defined = refl
with_list_lives seen (state.Sections other) = refl
with_list_lives seen (state.SectionHead other) = refl
with_list_lives seen (state.Section k r) = refl
with_list_lives seen state.DomainDefined = refl
with_list_lives seen (state.DomainSections other) = refl
with_list_lives seen (state.DomainHead other) = refl
with_list_lives seen (state.DomainSection k r) = refl
with_list_lives seen state.Action = refl

with_domain_list_lives : (seen : DomainSeen) (last : State) → IsTrue (is_live (with_domain_list seen last))
with_domain_list_lives seen (state.Parts other) = refl
with_domain_list_lives seen (state.Part other p) = refl
with_domain_list_lives seen (state.Head p) = refl
with_domain_list_lives seen (state.Rest r) = refl
with_domain_list_lives seen state.Defined = refl
with_domain_list_lives seen (state.Sections other) = refl
with_domain_list_lives seen (state.SectionHead other) = refl
with_domain_list_lives seen (state.Section k r) = refl
with_domain_list_lives seen state.DomainDefined = refl
with_domain_list_lives seen (state.DomainSections other) = refl
with_domain_list_lives seen (state.DomainHead other) = refl
with_domain_list_lives seen (state.DomainSection k r) = refl
with_domain_list_lives seen state.Action = refl

after_lives : (above last : State) → IsTrue (is_live above) → IsTrue (is_live (after above last))
after_lives (state.Parts seen) last live = refl
after_lives (state.Part seen p) last live = refl
after_lives (state.Head p) last live = refl
after_lives (state.Rest r) last live = refl
after_lives state.Defined last live = refl
after_lives (state.Sections seen) last live = with_list_lives seen last
after_lives (state.SectionHead seen) last live = live
after_lives (state.Section k r) last live = refl
after_lives state.DomainDefined last live = refl
after_lives (state.DomainSections seen) last live = with_domain_list_lives seen last
after_lives (state.DomainHead seen) last live = refl
after_lives (state.DomainSection k r) last live = refl
after_lives state.Action last live = refl

-- EACH live state of the table can be completed.
pub grammar_complete : IsComplete grammar_table
grammar_complete = record {
  is_live = is_live;
  finish = finish;
  finish_words = finish_words;
  finishes = state_finishes;
  word_live = λ s next text live is. lives (on_word s text) (word_lives s text) next is;
  open_live = λ s next live is. lives (on_open s) (open_lives s) next is;
  after_live = λ above last live _. after_lives above last live;
}

pub start_live : (p : Place) → IsTrue (grammar_complete.is_live (start p))
unfolding grammar_complete
start_live p = refl
