-- The sections of a domain, one after another.
use Rattle.std.proofs.Common.{◌≡◌, ◌∙◌, refl, sym, ap, ℕ, Bool, true, false, ◌&&◌, if◌then◌else◌, List, [], ◌∷◌, Option, Some, None}
use Rattle.std.specs.Prelude.{codes}
use Rattle.p3_base.specs.Words.{is_name}
use Rattle.p3_task.specs.Names.{Name, same_name}
use Rattle.p3_task.specs.Grammar.Words.{◌>>=◌, expressions, each_at, headed}
use Rattle.p3_task.specs.Grammar.Halves.{Section, section_place, section_of, sections_named, domain_keywords}
use Rattle.p3_task.specs.declared.expression.Expression.{Expression, Group', Row_of-Expression}
use Rattle.p3_task.specs.declared.expression.Expression.TheVariants as expression
use Rattle.p3_places.proofs.Runs.{run, run_row}
use Rattle.p3_places.specs.Places.{grammar_table, is_final, after, domain_once, domain_word, domain_forms, domain_rest, with_domain_section, part_once, part_word, no_part}
use Rattle.p3_places.proofs.Fits.{ends, run_parts}
use Rattle.p3_places.proofs.SectionFits.{are_known}
use Rattle.p3_places.proofs.DomainFits.{domain_body_fits, requirements, types, constants, predicates, functions, constraints, actions, action_fits, domain_allowed, domain_sections_fit}
use Rattle.p3_places.specs.declared.state.DomainKeyword.{DomainKeyword}
use Rattle.p3_places.specs.declared.state.DomainKeyword.TheVariants as domain
use Rattle.p3_places.specs.declared.state.DomainSeen.{DomainSeen}
use Rattle.p3_places.specs.declared.state.PartsSeen.{PartsSeen}
use Rattle.p3_places.specs.declared.state.Place.{Place}
use Rattle.p3_places.specs.declared.state.Place.TheVariants as place
use Rattle.p3_places.specs.declared.state.State.{State}
use Rattle.p3_places.specs.declared.state.State.TheVariants as state
use Rattle.p3_places.proofs.FitLemmas.{run_row_parts, and_false}
use Rattle.p3_places.proofs.Complete.{domain_section_wraps}
use Rattle.p3_places.proofs.SectionLemmas.{section_leads, chain, chain_false, keyed, the_section, decide_all, unknown, once_false, free_none}

-- ---- the states within an action

abbrev InAction : State → Type 0
InAction state.Action = Unit {0}
InAction (state.Parts seen) = Unit {0}
InAction (state.Part seen p) = Unit {0}
InAction _ = ⊥

abbrev StaysIn : Option State → Type 0
StaysIn None = Unit {0}
StaysIn (Some s) = InAction s

name_stays : (b : Bool) → StaysIn (if b then Some (state.Parts no_part) else None)
name_stays true = tt
name_stays false = tt

once_stays : (was : Bool) (seen : PartsSeen) (p : Place) → StaysIn (part_once was seen p)
once_stays true seen p = tt
once_stays false seen p = tt

either_stays : (b : Bool) (o u : Option State) → StaysIn o → StaysIn u → StaysIn (if b then o else u)
either_stays true o u first second = first
either_stays false o u first second = second

word_stays : (seen : PartsSeen) (text : Name) → StaysIn (part_word seen text)
word_stays seen text =
    either_stays (same_name (codes ":parameters") text) (part_once seen.parameters (record seen { parameters = true }) place.Variables) _ (once_stays seen.parameters (record seen { parameters = true }) place.Variables)
    (either_stays (same_name (codes ":precondition") text) (part_once seen.precondition (record seen { precondition = true }) place.PreGoalOrEmpty) _ (once_stays seen.precondition (record seen { precondition = true }) place.PreGoalOrEmpty)
    (either_stays (same_name (codes ":effect") text) (part_once seen.effect (record seen { effect = true }) place.EffectOrEmpty) None (once_stays seen.effect (record seen { effect = true }) place.EffectOrEmpty) tt))

closed_stays : (seen : PartsSeen) (o : Option State) → StaysIn (o >>= λ last. if is_final last then Some (state.Parts seen) else None)
closed_stays seen None = tt
closed_stays seen (Some last) = by (is_final last)
  where
    by : (b : Bool) → StaysIn (if b then Some (state.Parts seen) else None)
    by true = tt
    by false = tt

part_stays : (s : State) (e : Expression) → InAction s → StaysIn (run grammar_table s e)
unfolding run
part_stays state.Action (expression.Word at text) inside = name_stays (is_name text)
part_stays state.Action (Group' at shape row) inside = tt
part_stays (state.Parts seen) (expression.Word at text) inside = word_stays seen text
part_stays (state.Parts seen) (Group' at shape row) inside = tt
part_stays (state.Part seen p) (expression.Word at text) inside = tt
part_stays (state.Part seen p) (Group' at shape row) inside = closed_stays seen (run_row grammar_table (state.Head p) row)
part_stays (state.Head p) e inside = elim inside [ ]
part_stays (state.Rest r) e inside = elim inside [ ]
part_stays state.Defined e inside = elim inside [ ]
part_stays (state.Sections seen) e inside = elim inside [ ]
part_stays (state.SectionHead seen) e inside = elim inside [ ]
part_stays (state.Section k r) e inside = elim inside [ ]
part_stays state.DomainDefined e inside = elim inside [ ]
part_stays (state.DomainSections seen) e inside = elim inside [ ]
part_stays (state.DomainHead seen) e inside = elim inside [ ]
part_stays (state.DomainSection k r) e inside = elim inside [ ]

then_stays : (o : Option State) (f : State → Option State) → StaysIn o → ((s : State) → InAction s → StaysIn (f s)) → StaysIn (o >>= f)
then_stays None f stays later = tt
then_stays (Some s) f stays later = later s stays

parts_stay : (parts : List Expression) (s : State) → InAction s → StaysIn (run_parts s parts)
parts_stay [] s inside = inside
parts_stay (part ∷ parts) s inside = then_stays (run grammar_table s part) (λ next. run_parts next parts) (part_stays s part inside) (λ next stays. parts_stay parts next stays)

-- an action leads the domain on with the sections as they were
action_ends : (seen : DomainSeen) (later : List Expression) (o : Option State) → StaysIn o
    → ends ((o >>= λ last. if is_final last then Some (after (state.DomainSections seen) last) else None) >>= λ next. run_parts next later)
    ≡ ends o && ends (run_parts (state.DomainSections seen) later)
action_ends seen later None stays = refl
action_ends seen later (Some state.Action) stays = refl
action_ends seen later (Some (state.Parts other)) stays = refl
action_ends seen later (Some (state.Part other p)) stays = refl
action_ends seen later (Some (state.Head p)) stays = elim stays [ ]
action_ends seen later (Some (state.Rest r)) stays = elim stays [ ]
action_ends seen later (Some state.Defined) stays = elim stays [ ]
action_ends seen later (Some (state.Sections other)) stays = elim stays [ ]
action_ends seen later (Some (state.SectionHead other)) stays = elim stays [ ]
action_ends seen later (Some (state.Section k r)) stays = elim stays [ ]
action_ends seen later (Some state.DomainDefined) stays = elim stays [ ]
action_ends seen later (Some (state.DomainSections other)) stays = elim stays [ ]
action_ends seen later (Some (state.DomainHead other)) stays = elim stays [ ]
action_ends seen later (Some (state.DomainSection k r)) stays = elim stays [ ]

-- ---- one section

-- what a section in this state makes of the sections
leads_on : DomainSeen → List Expression → List Expression → Option State → Bool
leads_on seen parts later found = ends (((found >>= λ s. run_parts s parts) >>= λ last. if is_final last then Some (after (state.DomainSections seen) last) else None) >>= λ next. run_parts next later)

once_leads : (seen : DomainSeen) (was : Bool) (k : DomainKeyword) (parts later : List Expression)
    → leads_on seen parts later (domain_once was k) ≡ (if was then false else domain_body_fits k parts && ends (run_parts (state.DomainSections (with_domain_section seen k)) later))
unfolding leads_on
once_leads seen true k parts later = refl
once_leads seen false k parts later =
    section_leads (state.DomainSection k) (domain_section_wraps k) (state.DomainSections seen) (state.DomainSections (with_domain_section seen k)) (λ r. refl) (domain_rest k) parts later

action_leads : (seen : DomainSeen) (parts later : List Expression) → leads_on seen parts later (Some state.Action) ≡ ends (run_parts state.Action parts) && ends (run_parts (state.DomainSections seen) later)
unfolding leads_on
action_leads seen parts later = action_ends seen later (run_parts state.Action parts) (parts_stay parts state.Action tt)

-- the later sections fit where the table takes them
abbrev Later : List Expression → List Section → Type 0
Later later sections = (seen : DomainSeen) → ends (run_parts (state.DomainSections seen) later) ≡ domain_sections_fit seen (Some sections)

abbrev Fitting : DomainSeen → ℕ → List Expression → List Expression → List Section → Name → Option State → Type 0
Fitting seen at parts later sections text found = leads_on seen parts later found ≡ domain_sections_fit seen (Some (the_section text at parts ∷ sections))

leads_with : (seen : DomainSeen) (was : Bool) (k : DomainKeyword) (parts later : List Expression) (sections : List Section) → Later later sections
    → leads_on seen parts later (domain_once was k) ≡ (if was then false else domain_body_fits k parts && domain_sections_fit (with_domain_section seen k) (Some sections))
leads_with seen was k parts later sections same =
    once_leads seen was k parts later ∙ ap (λ b. if was then false else domain_body_fits k parts && b) (same (with_domain_section seen k))

requirements_fit : (seen : DomainSeen) (at : ℕ) (parts later : List Expression) (sections : List Section) → Later later sections
    → Fitting seen at parts later sections (codes ":requirements") (domain_once seen.requirements domain.Requirements)
requirements_fit seen at parts later sections same =
    leads_with seen seen.requirements domain.Requirements parts later sections same
    ∙ keyed seen.requirements false (domain_body_fits domain.Requirements) (the_section (codes ":requirements") at parts) (sections_named (codes ":requirements") sections)
    (are_known domain_keywords sections ∷ [])
    (types seen sections && (constants seen sections && (predicates seen sections && (functions seen sections && (constraints seen sections && actions sections)))))

types_fit : (seen : DomainSeen) (at : ℕ) (parts later : List Expression) (sections : List Section) → Later later sections
    → Fitting seen at parts later sections (codes ":types") (domain_once seen.types domain.Types)
types_fit seen at parts later sections same =
    leads_with seen seen.types domain.Types parts later sections same
    ∙ keyed seen.types false (domain_body_fits domain.Types) (the_section (codes ":types") at parts) (sections_named (codes ":types") sections)
    (are_known domain_keywords sections ∷ requirements seen sections ∷ [])
    (constants seen sections && (predicates seen sections && (functions seen sections && (constraints seen sections && actions sections))))

constants_fit : (seen : DomainSeen) (at : ℕ) (parts later : List Expression) (sections : List Section) → Later later sections
    → Fitting seen at parts later sections (codes ":constants") (domain_once seen.constants domain.Constants)
constants_fit seen at parts later sections same =
    leads_with seen seen.constants domain.Constants parts later sections same
    ∙ keyed seen.constants false (domain_body_fits domain.Constants) (the_section (codes ":constants") at parts) (sections_named (codes ":constants") sections)
    (are_known domain_keywords sections ∷ requirements seen sections ∷ types seen sections ∷ [])
    (predicates seen sections && (functions seen sections && (constraints seen sections && actions sections)))

predicates_fit : (seen : DomainSeen) (at : ℕ) (parts later : List Expression) (sections : List Section) → Later later sections
    → Fitting seen at parts later sections (codes ":predicates") (domain_once seen.predicates domain.Predicates)
predicates_fit seen at parts later sections same =
    leads_with seen seen.predicates domain.Predicates parts later sections same
    ∙ keyed seen.predicates false (domain_body_fits domain.Predicates) (the_section (codes ":predicates") at parts) (sections_named (codes ":predicates") sections)
    (are_known domain_keywords sections ∷ requirements seen sections ∷ types seen sections ∷ constants seen sections ∷ [])
    (functions seen sections && (constraints seen sections && actions sections))

functions_fit : (seen : DomainSeen) (at : ℕ) (parts later : List Expression) (sections : List Section) → Later later sections
    → Fitting seen at parts later sections (codes ":functions") (domain_once seen.functions domain.Functions)
functions_fit seen at parts later sections same =
    leads_with seen seen.functions domain.Functions parts later sections same
    ∙ keyed seen.functions false (domain_body_fits domain.Functions) (the_section (codes ":functions") at parts) (sections_named (codes ":functions") sections)
    (are_known domain_keywords sections ∷ requirements seen sections ∷ types seen sections ∷ constants seen sections ∷ predicates seen sections ∷ [])
    (constraints seen sections && actions sections)

constraints_fit : (seen : DomainSeen) (at : ℕ) (parts later : List Expression) (sections : List Section) → Later later sections
    → Fitting seen at parts later sections (codes ":constraints") (domain_once seen.constraints domain.Constraints)
constraints_fit seen at parts later sections same =
    leads_with seen seen.constraints domain.Constraints parts later sections same
    ∙ keyed seen.constraints false (domain_body_fits domain.Constraints) (the_section (codes ":constraints") at parts) (sections_named (codes ":constraints") sections)
    (are_known domain_keywords sections ∷ requirements seen sections ∷ types seen sections ∷ constants seen sections ∷ predicates seen sections ∷ functions seen sections ∷ [])
    (actions sections)

-- the last of a chain
pull_last : (bs : List Bool) (x u : Bool) → (x && chain bs u) ≡ chain bs (x && u)
pull_last bs true u = refl
pull_last bs false u = sym (chain_false bs)

action_fit : (seen : DomainSeen) (at : ℕ) (parts later : List Expression) (sections : List Section) → Later later sections
    → Fitting seen at parts later sections (codes ":action") (Some state.Action)
action_fit seen at parts later sections same =
    action_leads seen parts later ∙ ap (λ b. action_fits (the_section (codes ":action") at parts) && b) (same seen)
    ∙ pull_last (are_known domain_keywords sections ∷ requirements seen sections ∷ types seen sections ∷ constants seen sections ∷ predicates seen sections ∷ functions seen sections ∷ constraints seen sections ∷ [])
    (action_fits (the_section (codes ":action") at parts)) (actions sections)

section_fits : (seen : DomainSeen) (at : ℕ) (text : Name) (parts later : List Expression) (sections : List Section) → Later later sections
    → Fitting seen at parts later sections text (domain_word seen text)
unfolding leads_on
section_fits seen at text parts later sections same =
    decide_all text (Fitting seen at parts later sections) (domain_forms seen) None (
      requirements_fit seen at parts later sections same,
      (
        types_fit seen at parts later sections same,
        (
          constants_fit seen at parts later sections same,
          (
            predicates_fit seen at parts later sections same,
            (
              functions_fit seen at parts later sections same,
              (
                constraints_fit seen at parts later sections same,
                (action_fit seen at parts later sections same, tt),
              ),
            ),
          ),
        ),
      ),
    )
    (unknown domain_keywords (domain_allowed seen) (the_section text at parts) sections)

-- ---- all sections

-- what the elements of a section make of the later sections
head_leads : DomainSeen → List Expression → List Expression → Bool
head_leads seen [] later = false
head_leads seen (expression.Word at text ∷ parts) later = leads_on seen parts later (domain_word seen text)
head_leads seen (Group' at shape row ∷ parts) later = false

opened_by : (seen : DomainSeen) (parts later : List Expression)
    → ends ((run_parts (state.DomainHead seen) parts >>= λ last. if is_final last then Some (after (state.DomainSections seen) last) else None) >>= λ next. run_parts next later) ≡ head_leads seen parts later
unfolding head_leads leads_on run
opened_by seen [] later = refl
opened_by seen (expression.Word at text ∷ parts) later = refl
opened_by seen (Group' at shape row ∷ parts) later = refl

section_row : {shape : _} (seen : DomainSeen) (row : Row_of-Expression shape) (later : List Expression)
    → ends ((run_row grammar_table (state.DomainHead seen) row >>= λ last. if is_final last then Some (after (state.DomainSections seen) last) else None) >>= λ next. run_parts next later)
    ≡ head_leads seen (expressions row) later
section_row seen row later =
    ap (λ o. ends ((o >>= λ last. if is_final last then Some (after (state.DomainSections seen) last) else None) >>= λ next. run_parts next later)) (run_row_parts (state.DomainHead seen) row)
    ∙ opened_by seen (expressions row) later

-- nothing leads on where the later sections do not
abbrev Nowhere : List Expression → Type 0
Nowhere later = (other : DomainSeen) → ends (run_parts (state.DomainSections other) later) ≡ false

once_stops : (seen : DomainSeen) (was : Bool) (k : DomainKeyword) (parts later : List Expression) → Nowhere later → leads_on seen parts later (domain_once was k) ≡ false
once_stops seen was k parts later nowhere =
    once_leads seen was k parts later ∙ ap (λ b. if was then false else domain_body_fits k parts && b) (nowhere (with_domain_section seen k)) ∙ once_false was (domain_body_fits k parts)

action_stops : (seen : DomainSeen) (parts later : List Expression) → Nowhere later → leads_on seen parts later (Some state.Action) ≡ false
action_stops seen parts later nowhere =
    action_leads seen parts later ∙ ap (λ b. ends (run_parts state.Action parts) && b) (nowhere seen) ∙ and_false (ends (run_parts state.Action parts))

section_stops : (seen : DomainSeen) (text : Name) (parts later : List Expression) → Nowhere later → leads_on seen parts later (domain_word seen text) ≡ false
unfolding leads_on
section_stops seen text parts later nowhere =
    decide_all text (λ key found. leads_on seen parts later found ≡ false) (domain_forms seen) None (
      once_stops seen seen.requirements domain.Requirements parts later nowhere,
      (
        once_stops seen seen.types domain.Types parts later nowhere,
        (
          once_stops seen seen.constants domain.Constants parts later nowhere,
          (
            once_stops seen seen.predicates domain.Predicates parts later nowhere,
            (
              once_stops seen seen.functions domain.Functions parts later nowhere,
              (
                once_stops seen seen.constraints domain.Constraints parts later nowhere,
                (action_stops seen parts later nowhere, tt),
              ),
            ),
          ),
        ),
      ),
    )
    (λ not_known. refl)

all_true : (a b c d e f : Bool) → a ≡ true → b ≡ true → c ≡ true → d ≡ true → e ≡ true → f ≡ true → true ≡ (a && (b && (c && (d && (e && (f && true))))))
all_true true true true true true true is_a is_b is_c is_d is_e is_f = refl
all_true true true true true true false is_a is_b is_c is_d is_e is_f = absurd cc
all_true true true true true false f is_a is_b is_c is_d is_e is_f = absurd cc
all_true true true true false e f is_a is_b is_c is_d is_e is_f = absurd cc
all_true true true false d e f is_a is_b is_c is_d is_e is_f = absurd cc
all_true true false c d e f is_a is_b is_c is_d is_e is_f = absurd cc
all_true false b c d e f is_a is_b is_c is_d is_e is_f = absurd cc

no_section_left : (seen : DomainSeen) → true ≡ domain_sections_fit seen (Some [])
no_section_left seen =
    all_true (requirements seen []) (types seen []) (constants seen []) (predicates seen []) (functions seen []) (constraints seen [])
    (free_none seen.requirements (domain_body_fits domain.Requirements)) (free_none seen.types (domain_body_fits domain.Types)) (free_none seen.constants (domain_body_fits domain.Constants))
    (free_none seen.predicates (domain_body_fits domain.Predicates)) (free_none seen.functions (domain_body_fits domain.Functions)) (free_none seen.constraints (domain_body_fits domain.Constraints))

first_section : (seen : DomainSeen) (parts later : List Expression) (others : Option (List Section)) → ((other : DomainSeen) → ends (run_parts (state.DomainSections other) later) ≡ domain_sections_fit other others)
    → head_leads seen parts later ≡ domain_sections_fit seen ((headed (λ (part : Expression). part) parts >>= λ list. Some (section_of list)) >>= λ s. others >>= λ rest. Some (s ∷ rest))
unfolding head_leads
first_section seen [] later others same = refl
first_section seen (Group' at shape row ∷ parts) later others same = refl
first_section seen (expression.Word at text ∷ parts) later None same = section_stops seen text parts later same
first_section seen (expression.Word at text ∷ parts) later (Some sections) same = section_fits seen at text parts later sections same

-- THE SECTIONS of a domain stand where the table takes them.
pub domain_sections_run : (es : List Expression) (seen : DomainSeen) → ends (run_parts (state.DomainSections seen) es) ≡ domain_sections_fit seen (each_at section_place es)
unfolding run
domain_sections_run [] seen = no_section_left seen
domain_sections_run (expression.Word at text ∷ es) seen = refl
domain_sections_run (Group' at shape row ∷ es) seen =
    section_row seen row es ∙ first_section seen (expressions row) es (each_at section_place es) (domain_sections_run es)
