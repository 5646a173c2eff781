-- The sections of a problem, one after another.
use Rattle.std.proofs.Common.{◌≡◌, ◌∙◌, refl, sym, ap, subst, ℕ, Bool, true, false, ◌&&◌, ◌||◌, if◌then◌else◌, List, [], ◌∷◌, map, Option, Some, None}
use Rattle.std.specs.Prelude.{codes}
use Rattle.std.specs.List.{list_all}
use Rattle.std.proofs.lemmas.Slice.Eq.{bytes_eq-Decides}
use Rattle.p3_task.specs.Names.{Name, same_name, has_name}
use Rattle.p3_task.specs.Grammar.Words.{◌>>=◌, choose, expressions, each_at, headed}
use Rattle.p3_task.specs.Grammar.Halves.{Section, section_place, section_of, sections_named, problem_keywords}
use Rattle.p3_task.specs.declared.expression.Expression.{Expression, Group', Row_of-Expression}
use Rattle.p3_task.specs.declared.expression.Expression.TheVariants as expression
use Rattle.p3_places.proofs.Runs.{run, run_row}
use Rattle.p3_places.specs.Places.{grammar_table, on_open, is_final, after, rest_word, rest_list, behind, may_end, once, section_word, section_forms, has_all, with_section}
use Rattle.p3_places.proofs.Fits.{ends, run_parts}
use Rattle.p3_places.proofs.Completion.{the_seen}
use Rattle.p3_places.proofs.SectionFits.{rest_of, body_fits, allowed, all_allowed, are_known, fit_among, sections_fit}
use Rattle.p3_places.specs.declared.state.Keyword.{Keyword}
use Rattle.p3_places.specs.declared.state.Keyword.TheVariants as keyword
use Rattle.p3_places.specs.declared.state.Place.{Place}
use Rattle.p3_places.specs.declared.state.Rest.{Rest}
use Rattle.p3_places.specs.declared.state.Seen.{Seen}
use Rattle.p3_places.specs.declared.state.State.{State}
use Rattle.p3_places.specs.declared.state.State.TheVariants as state
use Rattle.p3_places.proofs.FitLemmas.{run_row_parts, and_false, and_true}
use Rattle.p3_places.proofs.Complete.{IsWrap, rest_wraps, section_wraps}

-- ---- a section goes on as a list does

-- what a part makes of what is to come
group_rest : {shape : _} → Rest → Option Place → Row_of-Expression shape → Option Rest
group_rest r None row = None
group_rest r (Some p) row = run_row grammar_table (state.Head p) row >>= λ last. if is_final last then Some (behind r) else None

part_rest : Rest → Expression → Option Rest
part_rest r (expression.Word at text) = rest_word r text
part_rest r (Group' at shape row) = group_rest r (rest_list r) row

rest_parts : Rest → List Expression → Option Rest
rest_parts r [] = Some r
rest_parts r (part ∷ parts) = part_rest r part >>= λ next. rest_parts next parts

group_wraps : {shape : _} (wrap : Rest → State) (from : State) (r : Rest) (found : Option Place) (row : Row_of-Expression shape) → ((last : State) → after from last ≡ wrap (behind r))
    → ((found >>= λ p. Some (state.Head p)) >>= λ first. run_row grammar_table first row >>= λ last. if is_final last then Some (after from last) else None)
    ≡ group_rest r found row >>= λ next. Some (wrap next)
unfolding group_rest
group_wraps wrap from r None row same = refl
group_wraps wrap from r (Some p) row same = by (run_row grammar_table (state.Head p) row)
  where
    final_by : (last : State) (b : Bool) → (if b then Some (after from last) else None) ≡ (if b then Some (behind r) else None) >>= λ next. Some (wrap next)
    final_by last true = ap Some (same last)
    final_by last false = refl

    by : (found : Option State) → (found >>= λ last. if is_final last then Some (after from last) else None) ≡ (found >>= λ last. if is_final last then Some (behind r) else None) >>= λ next. Some (wrap next)
    by None = refl
    by (Some last) = final_by last (is_final last)

wrapped_part : (wrap : Rest → State) → IsWrap wrap → (r : Rest) (part : Expression) → run grammar_table (wrap r) part ≡ part_rest r part >>= λ next. Some (wrap next)
unfolding run part_rest
wrapped_part wrap is r (expression.Word at text) = is.words r text
wrapped_part wrap is r (Group' at shape row) =
    ap (λ o. o >>= λ first. run_row grammar_table first row >>= λ last. if is_final last then Some (after (wrap r) last) else None) (is.lists r)
    ∙ group_wraps wrap (wrap r) r (rest_list r) row (λ last. is.later r last)

more_by : (wrap : Rest → State) (found : Option Rest) (parts : List Expression) → ((r : Rest) → run_parts (wrap r) parts ≡ rest_parts r parts >>= λ next. Some (wrap next))
    → ((found >>= λ next. Some (wrap next)) >>= λ next. run_parts next parts) ≡ (found >>= λ next. rest_parts next parts) >>= λ next. Some (wrap next)
more_by wrap None parts later = refl
more_by wrap (Some r) parts later = later r

wrapped_parts : (wrap : Rest → State) → IsWrap wrap → (parts : List Expression) (r : Rest) → run_parts (wrap r) parts ≡ rest_parts r parts >>= λ next. Some (wrap next)
unfolding rest_parts
wrapped_parts wrap is [] r = refl
wrapped_parts wrap is (part ∷ parts) r = ap (λ o. o >>= λ next. run_parts next parts) (wrapped_part wrap is r part) ∙ more_by wrap (part_rest r part) parts (wrapped_parts wrap is parts)

then_by : (found : Option Rest) (wrap : Rest → State) (k : Rest → Option State) (u : State → Option State) → ((r : Rest) → u (wrap r) ≡ k r) → ((found >>= λ r. Some (wrap r)) >>= u) ≡ (found >>= k)
then_by None wrap k u same = refl
then_by (Some r) wrap k u same = same r

if_to : (b : Bool) (s t : State) → s ≡ t → (if b then Some s else None) ≡ (if b then Some t else None)
if_to true s t same = ap Some same
if_to false s t same = refl

if_ends_then : (found : Option Rest) (to : State) (later : List Expression)
    → ends ((found >>= λ r. if may_end r then Some to else None) >>= λ next. run_parts next later) ≡ ends (found >>= λ r. Some (state.Rest r)) && ends (run_parts to later)
if_ends_then None to later = refl
if_ends_then (Some r) to later = by (may_end r)
  where
    by : (b : Bool) → ends ((if b then Some to else None) >>= λ next. run_parts next later) ≡ b && ends (run_parts to later)
    by true = refl
    by false = refl

-- A SECTION leads its half on where its parts fit.
pub section_leads : (wrap : Rest → State) → IsWrap wrap → (above to : State) → ((r : Rest) → after above (wrap r) ≡ to) → (r : Rest) (parts later : List Expression)
    → ends ((run_parts (wrap r) parts >>= λ last. if is_final last then Some (after above last) else None) >>= λ next. run_parts next later)
    ≡ ends (run_parts (state.Rest r) parts) && ends (run_parts to later)
section_leads wrap is above to then_to r parts later =
    ap (λ o. ends ((o >>= λ last. if is_final last then Some (after above last) else None) >>= λ next. run_parts next later)) (wrapped_parts wrap is parts r)
    ∙ ap (λ o. ends (o >>= λ next. run_parts next later))
    (then_by (rest_parts r parts) wrap (λ r. if may_end r then Some to else None) (λ last. if is_final last then Some (after above last) else None)
    (λ r. ap (λ b. if b then Some (after above (wrap r)) else None) (is.ends r) ∙ if_to (may_end r) (after above (wrap r)) to (then_to r)))
    ∙ if_ends_then (rest_parts r parts) to later
    ∙ ap (λ o. ends o && ends (run_parts to later)) (sym (wrapped_parts state.Rest rest_wraps parts r))

-- ---- one section

-- what a section in this state makes of the sections
leads_on : Seen → List Expression → List Expression → Option State → Bool
leads_on seen parts later found = ends (((found >>= λ s. run_parts s parts) >>= λ last. if is_final last then Some (after (state.Sections seen) last) else None) >>= λ next. run_parts next later)

once_leads : (seen : Seen) (was : Bool) (k : Keyword) (parts later : List Expression)
    → leads_on seen parts later (once was k (rest_of k)) ≡ (if was then false else body_fits k parts && ends (run_parts (state.Sections (with_section seen k)) later))
unfolding leads_on
once_leads seen true k parts later = refl
once_leads seen false k parts later = section_leads (state.Section k) (section_wraps k) (state.Sections seen) (state.Sections (with_section seen k)) (λ r. refl) (rest_of k) parts later

-- ---- one of all

abbrev pub chain : List Bool → Bool → Bool
chain [] last = last
chain (b ∷ bs) last = b && chain bs last

pub chain_false : (bs : List Bool) → chain bs false ≡ false
chain_false [] = refl
chain_false (b ∷ bs) = ap (λ x. b && x) (chain_false bs) ∙ and_false b

pull : (bs : List Bool) (x u rest : Bool) → (x && chain bs (u && rest)) ≡ chain bs ((x && u) && rest)
pull bs true u rest = refl
pull bs false u rest = sym (chain_false bs)

-- a section more of a keyword
allowed_more : (needed : Bool) (fits : List Expression → Bool) (section : Section) (sections : List Section) → allowed needed false fits (section ∷ sections) ≡ fits section.behind && allowed needed true fits sections
allowed_more needed fits section [] = by (fits section.behind)
  where
    by : (b : Bool) → b ≡ b && true
    by true = refl
    by false = refl
allowed_more needed fits section (other ∷ sections) = sym (and_false (fits section.behind))

pub keyed : (was needed : Bool) (fits : List Expression → Bool) (section : Section) (sections : List Section) (bs : List Bool) (rest : Bool)
    → (if was then false else fits section.behind && chain bs (allowed needed true fits sections && rest)) ≡ chain bs (allowed needed was fits (section ∷ sections) && rest)
keyed true needed fits section sections bs rest = sym (chain_false bs)
keyed false needed fits section sections bs rest =
    pull bs (fits section.behind) (allowed needed true fits sections) rest ∙ ap (λ b. chain bs (b && rest)) (sym (allowed_more needed fits section sections))

pub keyed_last : (was needed : Bool) (fits : List Expression → Bool) (section : Section) (sections : List Section) (bs : List Bool)
    → (if was then false else fits section.behind && chain bs (allowed needed true fits sections)) ≡ chain bs (allowed needed was fits (section ∷ sections))
keyed_last was needed fits section sections bs =
    ap (λ b. if was then false else fits section.behind && chain bs b) (sym (and_true (allowed needed true fits sections)))
    ∙ keyed was needed fits section sections bs true ∙ ap (chain bs) (and_true (allowed needed was fits (section ∷ sections)))

abbrev domains : Seen → List Section → Bool
domains seen sections = allowed true seen.domain (body_fits keyword.Domain) (sections_named (codes ":domain") sections)

abbrev requirements : Seen → List Section → Bool
requirements seen sections = allowed false seen.requirements (body_fits keyword.Requirements) (sections_named (codes ":requirements") sections)

abbrev objects : Seen → List Section → Bool
objects seen sections = allowed false seen.objects (body_fits keyword.Objects) (sections_named (codes ":objects") sections)

abbrev inits : Seen → List Section → Bool
inits seen sections = allowed true seen.init (body_fits keyword.Init) (sections_named (codes ":init") sections)

abbrev goals : Seen → List Section → Bool
goals seen sections = allowed true seen.goal (body_fits keyword.Goal) (sections_named (codes ":goal") sections)

abbrev constraints : Seen → List Section → Bool
constraints seen sections = allowed false seen.constraints (body_fits keyword.Constraints) (sections_named (codes ":constraints") sections)

abbrev metrics : Seen → List Section → Bool
metrics seen sections = allowed false seen.metric (body_fits keyword.Metric) (sections_named (codes ":metric") sections)

abbrev pub the_section : Name → ℕ → List Expression → Section
the_section text at parts = record { word = record { name = text; at = at }; behind = parts }

-- the later sections fit where the table takes them
abbrev Later : List Expression → List Section → Type 0
Later later sections = (seen : Seen) → ends (run_parts (state.Sections seen) later) ≡ sections_fit seen (Some sections)

abbrev Fitting : Seen → ℕ → List Expression → List Expression → List Section → Name → Option State → Type 0
Fitting seen at parts later sections text found = leads_on seen parts later found ≡ sections_fit seen (Some (the_section text at parts ∷ sections))

on_later : (seen : Seen) (k : Keyword) (parts later : List Expression) (sections : List Section) → Later later sections → (was : Bool)
    → (if was then false else body_fits k parts && ends (run_parts (state.Sections (with_section seen k)) later))
    ≡ (if was then false else body_fits k parts && sections_fit (with_section seen k) (Some sections))
on_later seen k parts later sections same was = ap (λ b. if was then false else body_fits k parts && b) (same (with_section seen k))

domain_fits : (seen : Seen) (at : ℕ) (parts later : List Expression) (sections : List Section) → Later later sections
    → Fitting seen at parts later sections (codes ":domain") (once seen.domain keyword.Domain (rest_of keyword.Domain))
domain_fits seen at parts later sections same =
    once_leads seen seen.domain keyword.Domain parts later ∙ on_later seen keyword.Domain parts later sections same seen.domain
    ∙ keyed seen.domain true (body_fits keyword.Domain) (the_section (codes ":domain") at parts) (sections_named (codes ":domain") sections)
    (are_known problem_keywords sections ∷ [])
    (requirements seen sections && (objects seen sections && (inits seen sections && (goals seen sections && (constraints seen sections && metrics seen sections)))))

requirements_fits : (seen : Seen) (at : ℕ) (parts later : List Expression) (sections : List Section) → Later later sections
    → Fitting seen at parts later sections (codes ":requirements") (once seen.requirements keyword.Requirements (rest_of keyword.Requirements))
requirements_fits seen at parts later sections same =
    once_leads seen seen.requirements keyword.Requirements parts later ∙ on_later seen keyword.Requirements parts later sections same seen.requirements
    ∙ keyed seen.requirements false (body_fits keyword.Requirements) (the_section (codes ":requirements") at parts) (sections_named (codes ":requirements") sections)
    (are_known problem_keywords sections ∷ domains seen sections ∷ [])
    (objects seen sections && (inits seen sections && (goals seen sections && (constraints seen sections && metrics seen sections))))

objects_fits : (seen : Seen) (at : ℕ) (parts later : List Expression) (sections : List Section) → Later later sections
    → Fitting seen at parts later sections (codes ":objects") (once seen.objects keyword.Objects (rest_of keyword.Objects))
objects_fits seen at parts later sections same =
    once_leads seen seen.objects keyword.Objects parts later ∙ on_later seen keyword.Objects parts later sections same seen.objects
    ∙ keyed seen.objects false (body_fits keyword.Objects) (the_section (codes ":objects") at parts) (sections_named (codes ":objects") sections)
    (are_known problem_keywords sections ∷ domains seen sections ∷ requirements seen sections ∷ [])
    (inits seen sections && (goals seen sections && (constraints seen sections && metrics seen sections)))

init_fits : (seen : Seen) (at : ℕ) (parts later : List Expression) (sections : List Section) → Later later sections
    → Fitting seen at parts later sections (codes ":init") (once seen.init keyword.Init (rest_of keyword.Init))
init_fits seen at parts later sections same =
    once_leads seen seen.init keyword.Init parts later ∙ on_later seen keyword.Init parts later sections same seen.init
    ∙ keyed seen.init true (body_fits keyword.Init) (the_section (codes ":init") at parts) (sections_named (codes ":init") sections)
    (are_known problem_keywords sections ∷ domains seen sections ∷ requirements seen sections ∷ objects seen sections ∷ [])
    (goals seen sections && (constraints seen sections && metrics seen sections))

goal_fits : (seen : Seen) (at : ℕ) (parts later : List Expression) (sections : List Section) → Later later sections
    → Fitting seen at parts later sections (codes ":goal") (once seen.goal keyword.Goal (rest_of keyword.Goal))
goal_fits seen at parts later sections same =
    once_leads seen seen.goal keyword.Goal parts later ∙ on_later seen keyword.Goal parts later sections same seen.goal
    ∙ keyed seen.goal true (body_fits keyword.Goal) (the_section (codes ":goal") at parts) (sections_named (codes ":goal") sections)
    (are_known problem_keywords sections ∷ domains seen sections ∷ requirements seen sections ∷ objects seen sections ∷ inits seen sections ∷ [])
    (constraints seen sections && metrics seen sections)

constraints_fits : (seen : Seen) (at : ℕ) (parts later : List Expression) (sections : List Section) → Later later sections
    → Fitting seen at parts later sections (codes ":constraints") (once seen.constraints keyword.Constraints (rest_of keyword.Constraints))
constraints_fits seen at parts later sections same =
    once_leads seen seen.constraints keyword.Constraints parts later ∙ on_later seen keyword.Constraints parts later sections same seen.constraints
    ∙ keyed seen.constraints false (body_fits keyword.Constraints) (the_section (codes ":constraints") at parts) (sections_named (codes ":constraints") sections)
    (are_known problem_keywords sections ∷ domains seen sections ∷ requirements seen sections ∷ objects seen sections ∷ inits seen sections ∷ goals seen sections ∷ [])
    (metrics seen sections)

metric_fits : (seen : Seen) (at : ℕ) (parts later : List Expression) (sections : List Section) → Later later sections
    → Fitting seen at parts later sections (codes ":metric") (once seen.metric keyword.Metric (rest_of keyword.Metric))
metric_fits seen at parts later sections same =
    once_leads seen seen.metric keyword.Metric parts later ∙ on_later seen keyword.Metric parts later sections same seen.metric
    ∙ keyed_last seen.metric false (body_fits keyword.Metric) (the_section (codes ":metric") at parts) (sections_named (codes ":metric") sections)
    (are_known problem_keywords sections ∷ domains seen sections ∷ requirements seen sections ∷ objects seen sections ∷ inits seen sections ∷ goals seen sections ∷ constraints seen sections ∷ [])

-- ---- the choice of a section

pub decide : (text key : Name) (o u : Option State) (R : Name → Option State → Type 0) → R key o → ((same_name key text ≡ false) → R text u) → R text (if same_name key text then o else u)
decide text key o u R here later = by (same_name key text) refl
  where
    by : (b : Bool) → same_name key text ≡ b → R text (if b then o else u)
    by true is = subst (λ t. R t o) ((bytes_eq-Decides key text).0 is) here
    by false is = later is

pub or_false : (a b : Bool) → a ≡ false → b ≡ false → (a || b) ≡ false
or_false true b is_first is_later = absurd cc
or_false false b is_first is_later = is_later

-- what each form of a choice has
abbrev pub EachForm : (Name → Option State → Type 0) → List (Name × Option State) → Type 0
EachForm R [] = Unit {0}
EachForm R (form ∷ forms) = R form.0 form.1 × EachForm R forms

pub decide_all : (text : Name) (R : Name → Option State → Type 0) (forms : List (Name × Option State)) (other : Option State) → EachForm R forms
    → ((has_name (map (λ (form : Name × Option State). form.0) forms) text ≡ false) → R text other) → R text (choose text forms other)
decide_all text R [] other each last = last refl
decide_all text R (form ∷ forms) other each last =
    decide text form.0 form.1 (choose text forms other) R each.0
    (λ not_first. decide_all text R forms other each.1 (λ none. last (or_false (same_name form.0 text) (has_name (map (λ (form : Name × Option State). form.0) forms) text) not_first none)))

-- a keyword that is not known
pub unknown : (keywords : List Name) (fit : List Section → Bool) (section : Section) (sections : List Section) → has_name keywords section.word.name ≡ false
    → false ≡ fit_among keywords fit (Some (section ∷ sections))
unknown keywords fit section sections is_none =
    sym (ap (λ b. (b && list_all (λ (other : Section). has_name keywords other.word.name) sections) && fit (section ∷ sections)) is_none)

section_fits : (seen : Seen) (at : ℕ) (text : Name) (parts later : List Expression) (sections : List Section) → Later later sections
    → Fitting seen at parts later sections text (section_word seen text)
unfolding leads_on
section_fits seen at text parts later sections same =
    decide_all text (Fitting seen at parts later sections) (section_forms seen) None (
      domain_fits seen at parts later sections same,
      (
        requirements_fits seen at parts later sections same,
        (
          objects_fits seen at parts later sections same,
          (
            init_fits seen at parts later sections same,
            (
              goal_fits seen at parts later sections same,
              (
                constraints_fits seen at parts later sections same,
                (metric_fits seen at parts later sections same, tt),
              ),
            ),
          ),
        ),
      ),
    )
    (unknown problem_keywords (all_allowed seen) (the_section text at parts) sections)

-- ---- all sections

if_none : (b : Bool) (o u : Option State) → o ≡ None → u ≡ None → (if b then o else u) ≡ None
if_none true o u first second = first
if_none false o u first second = second

-- where all sections stand, no keyword may come
none_by : (d i g r o c m : Bool) (text : Name) → has_all (the_seen d i g r o c m) ≡ true → section_word (the_seen d i g r o c m) text ≡ None
none_by false i g r o c m text is = absurd cc
none_by true false g r o c m text is = absurd cc
none_by true true false r o c m text is = absurd cc
none_by true true true false o c m text is = absurd cc
none_by true true true true false c m text is = absurd cc
none_by true true true true true false m text is = absurd cc
none_by true true true true true true false text is = absurd cc
none_by true true true true true true true text is =
    if_none (same_name (codes ":domain") text) None _ refl (if_none (same_name (codes ":requirements") text) None _ refl (if_none (same_name (codes ":objects") text) None _ refl
    (if_none (same_name (codes ":init") text) None _ refl (if_none (same_name (codes ":goal") text) None _ refl (if_none (same_name (codes ":constraints") text) None _ refl
    (if_none (same_name (codes ":metric") text) None None refl refl))))))

no_keyword : (seen : Seen) (text : Name) → has_all seen ≡ true → section_word seen text ≡ None
no_keyword seen text is = none_by seen.domain seen.init seen.goal seen.requirements seen.objects seen.constraints seen.metric text is

-- what the elements of a section make of the later sections
head_leads : Seen → List Expression → List Expression → Bool
head_leads seen [] later = false
head_leads seen (expression.Word at text ∷ parts) later = leads_on seen parts later (section_word seen text)
head_leads seen (Group' at shape row ∷ parts) later = false

abbrev in_row : Seen → List Expression → State → Option State
in_row seen parts first = run_parts first parts >>= λ last. if is_final last then Some (after (state.Sections seen) last) else None

opened_by : (seen : Seen) (parts later : List Expression) (all : Bool) → has_all seen ≡ all
    → ends (((if all then None else Some (state.SectionHead seen)) >>= in_row seen parts) >>= λ next. run_parts next later) ≡ head_leads seen parts later
unfolding head_leads leads_on run
opened_by seen [] later true is = refl
opened_by seen [] later false is = refl
opened_by seen (Group' at shape row ∷ parts) later true is = refl
opened_by seen (Group' at shape row ∷ parts) later false is = refl
opened_by seen (expression.Word at text ∷ parts) later true is =
    sym (ap (λ found. ends (((found >>= λ s. run_parts s parts) >>= λ last. if is_final last then Some (after (state.Sections seen) last) else None) >>= λ next. run_parts next later)) (no_keyword seen text is))
opened_by seen (expression.Word at text ∷ parts) later false is = refl

section_row : {shape : _} (seen : Seen) (row : Row_of-Expression shape) (later : List Expression)
    → ends ((on_open (state.Sections seen) >>= λ first. run_row grammar_table first row >>= λ last. if is_final last then Some (after (state.Sections seen) last) else None) >>= λ next. run_parts next later)
    ≡ head_leads seen (expressions row) later
section_row seen row later =
    ap (λ (f : State → Option State). ends ((on_open (state.Sections seen) >>= f) >>= λ next. run_parts next later))
    (λ i first. run_row_parts first row i >>= λ last. if is_final last then Some (after (state.Sections seen) last) else None)
    ∙ opened_by seen (expressions row) later (has_all seen) refl

-- nothing leads on where the later sections do not
abbrev EachStops : Seen → List Expression → List Expression → List (Name × Option State) → Type 0
EachStops seen parts later [] = Unit {0}
EachStops seen parts later (form ∷ forms) = (leads_on seen parts later form.1 ≡ false) × EachStops seen parts later forms

if_stops : (seen : Seen) (parts later : List Expression) (b : Bool) (o u : Option State) → leads_on seen parts later o ≡ false → leads_on seen parts later u ≡ false
    → leads_on seen parts later (if b then o else u) ≡ false
if_stops seen parts later true o u first second = first
if_stops seen parts later false o u first second = second

choose_stops : (seen : Seen) (parts later : List Expression) (text : Name) (forms : List (Name × Option State)) → EachStops seen parts later forms → leads_on seen parts later (choose text forms None) ≡ false
unfolding leads_on
choose_stops seen parts later text [] stops = refl
choose_stops seen parts later text (form ∷ forms) stops = if_stops seen parts later (same_name form.0 text) form.1 (choose text forms None) stops.0 (choose_stops seen parts later text forms stops.1)

pub once_false : (was b : Bool) → (if was then false else b && false) ≡ false
once_false true b = refl
once_false false b = and_false b

once_stops : (seen : Seen) (was : Bool) (k : Keyword) (parts later : List Expression) → ((other : Seen) → ends (run_parts (state.Sections other) later) ≡ false) → leads_on seen parts later (once was k (rest_of k)) ≡ false
once_stops seen was k parts later stops =
    once_leads seen was k parts later ∙ ap (λ b. if was then false else body_fits k parts && b) (stops (with_section seen k)) ∙ once_false was (body_fits k parts)

section_stops : (seen : Seen) (text : Name) (parts later : List Expression) → ((other : Seen) → ends (run_parts (state.Sections other) later) ≡ false) → leads_on seen parts later (section_word seen text) ≡ false
section_stops seen text parts later stops = choose_stops seen parts later text (section_forms seen) (
  once_stops seen seen.domain keyword.Domain parts later stops,
  (
    once_stops seen seen.requirements keyword.Requirements parts later stops,
    (
      once_stops seen seen.objects keyword.Objects parts later stops,
      (
        once_stops seen seen.init keyword.Init parts later stops,
        (
          once_stops seen seen.goal keyword.Goal parts later stops,
          (
            once_stops seen seen.constraints keyword.Constraints parts later stops,
            (once_stops seen seen.metric keyword.Metric parts later stops, tt),
          ),
        ),
      ),
    ),
  ),
)

-- no section is left
pub needed_none : (was : Bool) (fits : List Expression → Bool) → allowed true was fits [] ≡ was
needed_none true fits = refl
needed_none false fits = refl

pub free_none : (was : Bool) (fits : List Expression → Bool) → allowed false was fits [] ≡ true
free_none true fits = refl
free_none false fits = refl

and_assoc : (a b c : Bool) → ((a && b) && c) ≡ (a && (b && c))
and_assoc true b c = refl
and_assoc false b c = refl

join : (d r o i g c m : Bool) → r ≡ true → o ≡ true → c ≡ true → m ≡ true → (d && i && g) ≡ (d && (r && (o && (i && (g && (c && m))))))
join d false o i g c m is_r is_o is_c is_m = absurd cc
join d true false i g c m is_r is_o is_c is_m = absurd cc
join d true true i g false m is_r is_o is_c is_m = absurd cc
join d true true i g true false is_r is_o is_c is_m = absurd cc
join d true true i g true true is_r is_o is_c is_m = and_assoc d i g ∙ ap (λ b. d && (i && b)) (sym (and_true g))

no_section_left : (seen : Seen) → ends (run_parts (state.Sections seen) []) ≡ sections_fit seen (Some [])
no_section_left seen =
    join seen.domain (requirements seen []) (objects seen []) seen.init seen.goal (constraints seen []) (metrics seen [])
    (free_none seen.requirements (body_fits keyword.Requirements)) (free_none seen.objects (body_fits keyword.Objects)) (free_none seen.constraints (body_fits keyword.Constraints)) (free_none seen.metric (body_fits keyword.Metric))
    ∙ ap (λ b. b && (requirements seen [] && (objects seen [] && (seen.init && (seen.goal && (constraints seen [] && metrics seen [])))))) (sym (needed_none seen.domain (body_fits keyword.Domain)))
    ∙ ap (λ b. domains seen [] && (requirements seen [] && (objects seen [] && (b && (seen.goal && (constraints seen [] && metrics seen [])))))) (sym (needed_none seen.init (body_fits keyword.Init)))
    ∙ ap (λ b. domains seen [] && (requirements seen [] && (objects seen [] && (inits seen [] && (b && (constraints seen [] && metrics seen [])))))) (sym (needed_none seen.goal (body_fits keyword.Goal)))

first_section : (seen : Seen) (parts later : List Expression) (others : Option (List Section)) → ((other : Seen) → ends (run_parts (state.Sections other) later) ≡ sections_fit other others)
    → head_leads seen parts later ≡ sections_fit seen ((headed (λ (part : Expression). part) parts >>= λ list. Some (section_of list)) >>= λ s. others >>= λ rest. Some (s ∷ rest))
unfolding head_leads
first_section seen [] later others same = refl
first_section seen (Group' at shape row ∷ parts) later others same = refl
first_section seen (expression.Word at text ∷ parts) later None same = section_stops seen text parts later same
first_section seen (expression.Word at text ∷ parts) later (Some sections) same = section_fits seen at text parts later sections same

-- THE SECTIONS stand where the table takes them.
pub sections_run : (es : List Expression) (seen : Seen) → ends (run_parts (state.Sections seen) es) ≡ sections_fit seen (each_at section_place es)
unfolding run
sections_run [] seen = no_section_left seen
sections_run (expression.Word at text ∷ es) seen = refl
sections_run (Group' at shape row ∷ es) seen =
    section_row seen row es ∙ first_section seen (expressions row) es (each_at section_place es) (sections_run es)
