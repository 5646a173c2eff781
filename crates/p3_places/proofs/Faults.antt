-- The first fault of a walk is where the text is malformed.
use Rattle.std.proofs.Common.{◌≡◌, ◌∙◌, refl, sym, ap, subst, ℕ, Bool, true, false, IsTrue, IsSome, ◌≢◌, if◌then◌else◌, List, [], ◌∷◌, ◌++◌, map, Option, Some, None}
use Rattle.std.specs.Prelude.{is_some}
use Rattle.std.specs.List.{list_all}
use Rattle.std.specs.Option.{option_map}
use Rattle.std.proofs.lemmas.List.{map-append}
use Rattle.p3_base.specs.declared.refusal.Code.TheVariants.{Malformed}
use Rattle.p3_base.specs.declared.refusal.Refusal.{Refusal}
use Rattle.p3_base.specs.declared.refusal.Role.{Role}
use Rattle.p3_base.specs.declared.refusal.Role.TheVariants as role
use Rattle.p3_base.specs.declared.refusal.Side.{Side}
use Rattle.p3_base.specs.declared.refusal.Side.TheVariants.{Source, Written}
use Rattle.p3_task.specs.Sides.{InDomain, InProblem, role_of}
use Rattle.p3_task.specs.Tokens.{Token, tokens_of}
use Rattle.p3_task.specs.PlanTexts.{Mark, mark_of}
use Rattle.p3_task.specs.Refusals.Places.{refusal_at_token}
use Rattle.p3_task.specs.Refusals.Malformed.{Begins, IsMalformedAt}
use Rattle.p3_task.specs.Grammar.Words.{◌>>=◌, IsText}
use Rattle.p3_task.specs.Grammar.Words.{Place as Reads}
use Rattle.p3_task.specs.Grammar.Texts.{IsBalanced}
use Rattle.p3_task.specs.Grammar.Halves.{domain_place, problem_place}
use Rattle.p3_task.specs.declared.expression.Expression.{Expression}
use Rattle.p3_lexer.proofs.MarkLemmas.{is_lexed, laid, laid_from, text_lexed}
use Rattle.p3_places.specs.Machine.{Table, first_fault}
use Rattle.p3_places.specs.Places.{grammar_table, start}
use Rattle.p3_places.specs.Walks.{place_of, fault_of}
use Rattle.p3_places.specs.Searches.{FindsIn, Finds}
use Rattle.p3_places.specs.declared.state.Place.{Place}
use Rattle.p3_places.specs.declared.state.Place.TheVariants as place
use Rattle.p3_places.specs.declared.state.Slot.TheVariants as slot
use Rattle.p3_places.specs.declared.state.Rest.TheVariants as rest
use Rattle.p3_places.specs.declared.state.State.{State}
use Rattle.p3_places.specs.declared.state.State.TheVariants as state
use Rattle.p3_places.proofs.Runs.{steps, run, ends_in_final, IsComplete}
use Rattle.p3_places.proofs.Fits.{ends, fits}
use Rattle.p3_places.proofs.MachineLemmas.{steps_append, steps_live, LiveStack, completed, stopped, leads_nowhere, leads_where_no_fault, all_append, all_front}
use Rattle.p3_places.proofs.ExpressionWalks.{IsOneList, IsAccepting, ends_by, accepts_trees, spelled_leads, tree_by}
use Rattle.p3_places.proofs.FitLemmas.{run_fits, one_awaits}
use Rattle.p3_places.proofs.Complete.{grammar_complete, start_live}
use Rattle.p3_places.proofs.HalfLemmas.{text_fits}
use Rattle.p3_places.proofs.ProblemAgrees.{problem_fits}
use Rattle.p3_places.proofs.DomainAgrees.{domain_fits}

-- ---- the first fault of a complete table

module _ {S A : Type 0} (table : Table S) (complete : IsComplete table) (start : S) (place : Reads A) (accepting : IsAccepting table start place) where
  -- from live states some marks lead to the end of a text
  begins : (front : List Mark) (reached : List S) → LiveStack table complete reached → steps table (start ∷ []) front ≡ Some reached → list_all is_lexed front ≡ true → Begins place front
  begins front [] live leads lexed = elim live [ ]
  begins front (state ∷ outer) live leads lexed =
      let rest = completed table complete state outer live in
      let whole : steps table (start ∷ []) (front ++ rest.more) ≡ steps table (state ∷ outer) rest.more =
      steps_append table (start ∷ []) front rest.more ∙ ap (λ o. o >>= λ s. steps table s rest.more) leads in
      let is = laid_from (front ++ rest.more) (all_append is_lexed front rest.more lexed rest.words) 0 in
      let found = accepting.enough (laid (front ++ rest.more)) is.known (subst (ends_in_final table []) (sym (ap (steps table (start ∷ [])) is.same ∙ whole)) rest.ends) in
      record { text = laid (front ++ rest.more); e = found.e; tree = found.tree; balanced = found.balanced; is_text = found.is_text; later = rest.more; begins = is.same }

  -- THE FIRST FAULT of a walk is the first token after which no text of the place goes on.
  malformed_there : (text : List ℕ) (token : Token) → IsTrue (complete.is_live start) → first_fault table (start ∷ []) (tokens_of text).tokens ≡ Some token → IsMalformedAt place text token
  malformed_there text token live is =
      let at = stopped table (start ∷ []) (tokens_of text).tokens token is in
      let marks : map mark_of (tokens_of text).tokens ≡ map mark_of at.front ++ map mark_of (token ∷ at.later) = ap (map mark_of) at.parts ∙ map-append mark_of at.front (token ∷ at.later) in
      record {
        before = at.front;
        later = at.later;
        parts = at.parts;
        goes_on = begins (map mark_of at.front) at.reached (steps_live table complete (start ∷ []) at.reached (map mark_of at.front) (live, tt) at.leads) at.leads
            (all_front is_lexed (map mark_of at.front) (map mark_of (token ∷ at.later)) (sym (ap (list_all is_lexed) marks) ∙ text_lexed false 0 text));
        ends = λ on.
            let none : steps table (start ∷ []) (map mark_of (tokens_of on.text).tokens) ≡ None =
            ap (steps table (start ∷ [])) (on.begins ∙ ap (λ front. front ++ on.later) (map-append mark_of at.front (token ∷ [])))
            ∙ leads_nowhere table (start ∷ []) at.reached (map mark_of at.front) (mark_of token) on.later at.leads at.stops in
            subst (ends_in_final table []) none (accepting.leads (tokens_of on.text).tokens on.e on.tree on.balanced.spelled on.is_text);
      }

-- ---- the table of the grammar

one_list : (p : Place) → IsOneList grammar_table (start p) (state.Rest rest.Nothing)
one_list p = record { no_word = λ text. refl; no_end = refl; then_done = λ last. refl; no_more_words = λ text. refl; no_more_lists = refl }

same_ends : (o : Option State) → ends o ≡ ends_by grammar_table o
same_ends None = refl
same_ends (Some last) = refl

-- the grammar's place and the table's agree
abbrev Fits : {A : Type 0} → Reads A → Place → Type 0
Fits reads p = (e : Expression) → is_some (reads e) ≡ fits (slot.List p) e

accepting : {A : Type 0} (reads : Reads A) (p : Place) → Fits reads p → IsAccepting grammar_table (start p) reads
accepting reads p same = accepts_trees grammar_table (start p) (state.Rest rest.Nothing) reads (one_list p) (λ e. same e ∙ text_fits p e ∙ same_ends (run grammar_table (start p) e))

abbrev fault : Place → List ℕ → Option Token
fault p text = first_fault grammar_table (start p ∷ []) (tokens_of text).tokens

malformed : {A : Type 0} (reads : Reads A) (p : Place) → Fits reads p → (text : List ℕ) (token : Token) → fault p text ≡ Some token → IsMalformedAt reads text token
malformed reads p same text token is = malformed_there grammar_table grammar_complete (start p) reads (accepting reads p same) text token (start_live p) is

some_fits : (b : Bool) → IsSome ((if b then Some (state.Rest rest.Nothing) else None) >>= λ next. Some (next ∷ [])) → b ≡ true
some_fits true is = refl
some_fits false is = absurd cc

well_formed : {A : Type 0} (reads : Reads A) (p : Place) → Fits reads p → (text : List ℕ) → fault p text ≡ None → (e : Expression) → IsBalanced text e → (tree : A) × IsText reads e tree
well_formed reads p same text none e balanced =
    let leads = leads_where_no_fault grammar_table (start p ∷ []) (tokens_of text).tokens none in
    let whole : steps grammar_table (start p ∷ []) (map mark_of (tokens_of text).tokens) ≡ (if fits (slot.List p) e then Some (state.Rest rest.Nothing) else None) >>= λ next. Some (next ∷ []) =
    spelled_leads grammar_table (start p) (tokens_of text).tokens e balanced.spelled
    ∙ ap (λ (o : Option State). o >>= λ next. Some (next ∷ [])) (run_fits (start p) (state.Rest rest.Nothing) (slot.List p) (one_awaits (slot.List p)) e) in
    let t = tree_by (reads e) (same e ∙ some_fits (fits (slot.List p) e) (subst (λ o. IsSome o) whole leads)) in
    (t.tree, t.is)

-- ---- what is found

-- the token of a refusal
record Told (role : Role) (found : Option Token) (refusal : Refusal) : Type 0 where
  token : Token
  there : found ≡ Some token
  is : refusal ≡ refusal_at_token Malformed role token

told : (role : Role) (found : Option Token) (refusal : Refusal) → Some refusal ≡ option_map (refusal_at_token Malformed role) found → Told role found refusal
told role None refusal is = absurd cc
told role (Some token) refusal is = record { token = token; there = refl; is = cc }

nothing_told : (role : Role) (found : Option Token) → None ≡ option_map (refusal_at_token Malformed role) found → found ≡ None
nothing_told role None is = refl
nothing_told role (Some token) is = absurd cc

module _ {A : Type 0} (reads : Reads A) (p : Place) (same : Fits reads p) (role : Role) (text : List ℕ) where
  -- the token of a refusal is the malformed one
  found_malformed : (refusal : Refusal) → Some refusal ≡ fault_of role p text → (token : Token) × IsMalformedAt reads text token × (refusal ≡ refusal_at_token Malformed role token)
  found_malformed refusal is =
      let t = told role (fault p text) refusal is in
      (t.token, malformed reads p same text t.token t.there, t.is)

  found_nothing : None ≡ fault_of role p text → (e : Expression) → IsBalanced text e → (tree : A) × IsText reads e tree
  found_nothing is = well_formed reads p same text (nothing_told role (fault p text) is)

in_domain : (side : Side) (text : List ℕ) (found : Option Refusal) → found ≡ fault_of (role_of side InDomain) place.Domain text → FindsIn side InDomain text found
in_domain side text None is = found_nothing domain_place place.Domain domain_fits (role_of side InDomain) text is
in_domain side text (Some refusal) is =
    let t = found_malformed domain_place place.Domain domain_fits (role_of side InDomain) text refusal is in
    record { token = t.0; first = t.1; is = t.2 }

in_problem : (side : Side) (text : List ℕ) (found : Option Refusal) → found ≡ fault_of (role_of side InProblem) place.Problem text → FindsIn side InProblem text found
in_problem side text None is = found_nothing problem_place place.Problem problem_fits (role_of side InProblem) text is
in_problem side text (Some refusal) is =
    let t = found_malformed problem_place place.Problem problem_fits (role_of side InProblem) text refusal is in
    record { token = t.0; first = t.1; is = t.2 }

-- WHAT IS FOUND is the refusal of a malformed text.
pub finds : (of : Role) (text : List ℕ) (found : Option Refusal) → of ≢ role.Plan → found ≡ fault_of of (place_of of) text → Finds of text found
finds role.Domain text found task is = in_domain Source text found is
finds role.Problem text found task is = in_problem Source text found is
finds role.WrittenDomain text found task is = in_domain Written text found is
finds role.WrittenProblem text found task is = in_problem Written text found is
finds role.Plan text found task is = absurd (task refl)
