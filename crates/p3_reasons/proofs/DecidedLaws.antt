-- What is told by number decides what the named trees say.
use Rattle.std.proofs.Common.{◌≡◌, ◌∙◌, ℕ, Bool, true, List, [], ◌∷◌, map, slice_get, Some, refl, sym, ap}
use Rattle.std.specs.List.{list_all}
use Rattle.std.proofs.lemmas.Bool.{and_parts, and_from}
use Rattle.std.proofs.lemmas.List.Folds.{list_all-map}
use Rattle.p3_task.specs.Formulas.{holds}
use Rattle.p3_task.specs.Goals.{hard_holds}
use Rattle.p3_task.specs.Mentions.{formula_atoms}
use Rattle.p3_task.specs.States.{State, has_fact}
use Rattle.p3_task.specs.declared.state.Fact.{Fact}
use Rattle.p3_task.proofs.OnceLemmas.{in_map}
use Rattle.p3_numbers.specs.Conditions.{condition_of}
use Rattle.p3_numbers.specs.Goals.{goal_of}
use Rattle.p3_numbers.specs.Places.{environment_of}
use Rattle.p3_numbers.specs.declared.numbers.Numbers.{Numbers}
use Rattle.p3_numbers.proofs.ConditionLaws.{condition-means}
use Rattle.p3_numbers.proofs.GoalLaws.{hard-means}
use Rattle.p3_expansion.specs.Atoms.{GroundAtom, fact_of, is_named, are_named}
use Rattle.p3_expansion.proofs.NameLemmas.{NamesApart, names-apart, one-atom}
use Rattle.p3_expansion.proofs.NamedReads.{condition-named, hard-named}
use Rattle.p3_expansion.proofs.NextLemmas.{all-at, own-facts}
use Rattle.p3_reasons.specs.Decided.{TellsFacts, FormulasAreDecided, HardPartsAreDecided}
use Rattle.p3_reasons.specs.Decisions.{NamedLiteral, IsDecision, agree, is_so, are_so, named_literal, test_of, hard_facts}
use Rattle.p3_reasons.specs.Outcomes.{Test, literal_of, each_once, decision_of}
use Rattle.p3_reasons.specs.declared.decision.Literal.{Literal}
use Rattle.p3_reasons.proofs.MentionLemmas.{atoms-mean, hard-atoms-mean}
use Rattle.p3_reasons.proofs.OnceLemmas.{passes-once, once-distinct}
use Rattle.p3_reasons.proofs.SoundLemmas.{Part, Sound, agreeing, same-agree}
use Rattle.p3_reasons.proofs.SoundLaws.{part_of, sound, hard_part_of, hard-sound}

module _ (N : Numbers) (apart : NamesApart N) (s : State) (test : Test) (tells : TellsFacts N test s) (part : Part) (is_sound : Sound N part) (named : are_named N part.reads ≡ true) where
  abbrev literals : List NamedLiteral
  literals = map (named_literal N) (map (literal_of test) (each_once (part.come test).atoms))

  -- what passes each literal passes each atom, said as the test has it
  each-literal : (passes : NamedLiteral → Bool) → list_all passes literals ≡ list_all (λ atom. passes (record { fact = fact_of N atom; holds = test atom })) (part.come test).atoms
  each-literal passes =
      list_all-map passes (named_literal N) (map (literal_of test) (each_once (part.come test).atoms))
      ∙ list_all-map (λ literal. passes (named_literal N literal)) (literal_of test) (each_once (part.come test).atoms)
      ∙ passes-once (λ atom. passes (record { fact = fact_of N atom; holds = test atom })) (part.come test).atoms

  told : (some : List GroundAtom) → are_named N some ≡ true → list_all (agreeing test (test_of N s)) some ≡ true
  told [] all = refl
  told (atom ∷ some) all =
      let split = and_parts (is_named N atom) (are_named N some) all in
      and_from (agree (test atom) (test_of N s atom)) _ (same-agree (test atom) (test_of N s atom) (sym (tells atom split.0))) (told some split.1)

  atoms-told : list_all (agreeing test (test_of N s)) (part.come test).atoms ≡ true
  atoms-told = told (part.come test).atoms (is_sound.within test (is_named N) named)

  pub met-by-test : (part.come test).holds ≡ part.met s
  met-by-test = sym (is_sound.decided test (test_of N s) atoms-told) ∙ is_sound.truth s

  alike : (other : State) → are_so other literals ≡ true → part.met other ≡ part.met s
  alike other so =
      sym (is_sound.truth other) ∙ is_sound.decided test (test_of N other) (sym (each-literal (is_so other)) ∙ so) ∙ met-by-test

  once : (first second : ℕ) (one other : NamedLiteral) → slice_get literals first ≡ Some one → slice_get literals second ≡ Some other → one.fact ≡ other.fact → first ≡ second
  once first second one other here there same =
      let (a, a_at, a_is) = in_map (named_literal N) (map (literal_of test) (each_once (part.come test).atoms)) first one here in
      let (b, b_at, b_is) = in_map (named_literal N) (map (literal_of test) (each_once (part.come test).atoms)) second other there in
      let (x, x_at, x_is) = in_map (literal_of test) (each_once (part.come test).atoms) first a a_at in
      let (y, y_at, y_is) = in_map (literal_of test) (each_once (part.come test).atoms) second b b_at in
      let all : are_named N (each_once (part.come test).atoms) ≡ true = passes-once (is_named N) (part.come test).atoms ∙ is_sound.within test (is_named N) named in
      let facts : fact_of N x ≡ fact_of N y =
      ap (λ (literal : Literal). fact_of N literal.atom) x_is ∙ ap (λ (literal : NamedLiteral). literal.fact) a_is ∙ same ∙ sym (ap (λ (literal : NamedLiteral). literal.fact) b_is) ∙ sym (ap (λ (literal : Literal). fact_of N literal.atom) y_is)
      in
      let is : x ≡ y = one-atom N apart x y (all-at (is_named N) (each_once (part.come test).atoms) first x all x_at) (all-at (is_named N) (each_once (part.come test).atoms) second y all y_at) facts in
      (once-distinct (part.come test).atoms).one_number first second y (x_at ∙ ap Some is) y_at

  pub decision : (mentioned : List Fact) → map (fact_of N) part.reads ≡ mentioned → (holds : State → Bool) → ((state : State) → part.met state ≡ holds state)
      → IsDecision N (record { mentioned = mentioned; holds = holds }) s (decision_of test (part.come test))
  decision mentioned is holds means = record {
    truth = met-by-test ∙ means s;
    decide = record {
      so = each-literal (is_so s) ∙ atoms-told;
      mentioned =
          each-literal (λ (literal : NamedLiteral). has_fact mentioned literal.fact)
          ∙ is_sound.within test (λ atom. has_fact mentioned (fact_of N atom)) (sym (list_all-map (has_fact mentioned) (fact_of N) part.reads) ∙ ap (list_all (has_fact mentioned)) is ∙ own-facts mentioned mentioned (λ fact found. found));
      once = once;
      decide = λ other so. sym (means other) ∙ alike other so ∙ means s;
    };
  }

pub formulas-decided : FormulasAreDecided
formulas-decided T X numbered s test tells tree scope slots fills known =
    decision X.numbers (names-apart T X numbered) s test tells (part_of X.numbers slots (condition_of X.numbers tree scope)) (sound X.numbers (condition_of X.numbers tree scope) slots)
    (condition-named T X.numbers numbered.numbering tree scope slots fills known) (formula_atoms T (environment_of X.numbers scope slots) tree) (atoms-mean T X.numbers numbered.numbering tree scope slots fills known)
    (λ state. holds T state (environment_of X.numbers scope slots) tree) (λ state. condition-means T X.numbers numbered.numbering state tree scope slots fills known)

pub hard-parts-decided : HardPartsAreDecided
hard-parts-decided T X numbered s test tells tree scope slots fills known =
    decision X.numbers (names-apart T X numbered) s test tells (hard_part_of X.numbers slots (goal_of X.numbers tree scope)) (hard-sound X.numbers (goal_of X.numbers tree scope) slots)
    (hard-named T X.numbers numbered.numbering tree scope slots fills known) (hard_facts T (environment_of X.numbers scope slots) tree) (hard-atoms-mean T X.numbers numbered.numbering tree scope slots fills known)
    (λ state. hard_holds T state (environment_of X.numbers scope slots) tree) (λ state. hard-means T X.numbers numbered.numbering state tree scope slots fills known)
