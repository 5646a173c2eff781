-- The facts that are told by number are those of the states of a plan.
use Rattle.std.proofs.Common.{◌≡◌, ◌∙◌, ℕ, Bool, true, false, not, ◌&&◌, ◌||◌, if◌then◌else◌, List, [], ◌∷◌, ◌++◌, map, refl, sym, ap, subst}
use Rattle.std.specs.Prelude.{bytes_eq, flat_map}
use Rattle.std.specs.List.{list_any, list_all}
use Rattle.std.proofs.lemmas.Bool.{and_parts, and_from}
use Rattle.std.proofs.lemmas.Grind.{flat_map-append}
use Rattle.std.proofs.lemmas.List.{append-nil}
use Rattle.std.proofs.lemmas.List.Folds.{list_all-append}
use mathlib.Core.Former.{Count}
use Rattle.p3_task.specs.Effects.{next, adds, dels}
use Rattle.p3_task.specs.States.{State, has_fact, same_fact, start}
use Rattle.p3_task.specs.declared.state.Fact.{Fact}
use Rattle.p3_task.specs.declared.task.Task.{Task}
use Rattle.p3_task.proofs.StateLemmas.{has_fact-next}
use Rattle.p3_numbers.specs.Conditions.{met}
use Rattle.p3_numbers.specs.Effects.{added, deleted, changes_layer, effect_of}
use Rattle.p3_numbers.specs.Folds.{fold_effect, fold_effects}
use Rattle.p3_numbers.specs.Places.{environment_of}
use Rattle.p3_numbers.specs.Slots.{Slots, bound}
use Rattle.p3_numbers.specs.Starts.{fact_by}
use Rattle.p3_numbers.specs.declared.effect.NumberedEffect.{NumberedEffect, Row_of-NumberedEffect, end_of-NumberedEffect, more_of-NumberedEffect}
use Rattle.p3_numbers.specs.declared.effect.NumberedEffect.TheVariants.{Add, Del, All', Each', If', Cost}
use Rattle.p3_numbers.specs.declared.numbers.Numbers.{Numbers}
use Rattle.p3_numbers.specs.declared.task.NumberedFact.{NumberedFact}
use Rattle.p3_numbers.proofs.EffectLaws.{adds-mean, deletes-mean}
use Rattle.p3_numbers.proofs.KnownLaws.{task-known}
use Rattle.p3_numbers.proofs.StartLaws.{start-means}
use Rattle.p3_expansion.specs.Atoms.{GroundAtom, fact_of, atom_at, is_named, are_named}
use Rattle.p3_expansion.specs.Changes.{effect_atoms, effect_atoms_layer}
use Rattle.p3_expansion.specs.Meanings.{condition_atoms}
use Rattle.p3_expansion.specs.Statics.{atom_of}
use Rattle.p3_expansion.proofs.NameLemmas.{NamesApart, names-apart, same-atoms}
use Rattle.p3_expansion.proofs.NamedAtoms.{start-named}
use Rattle.p3_expansion.proofs.NamedReads.{effect-named}
use Rattle.p3_reasons.specs.Decided.{TellsFacts}
use Rattle.p3_reasons.specs.Effects.{taken, taken_layer, says, changed}
use Rattle.p3_reasons.specs.Outcomes.{Test, outcome}
use Rattle.p3_reasons.specs.Telling.{StartIsTold, NextIsTold}
use Rattle.p3_reasons.specs.declared.decision.Literal.{Literal}
use Rattle.p3_reasons.proofs.DecidedLaws.{met-by-test}
use Rattle.p3_reasons.proofs.SoundLaws.{part_of, sound}

module _ (N : Numbers) (apart : NamesApart N) where
  -- ---- atoms that are told

  start-found : (atom : GroundAtom) → is_named N atom ≡ true → (facts : List NumberedFact) → list_all (λ fact. is_named N (atom_of fact)) facts ≡ true → list_any (bytes_eq atom) (map atom_of facts) ≡ has_fact (map (fact_by N) facts) (fact_of N atom)
  start-found atom named [] all = refl
  start-found atom named (fact ∷ facts) all =
      let parts = and_parts (is_named N (atom_of fact)) _ all in
      λ i. sym (same-atoms N apart (atom_of fact) atom parts.0 named) i || start-found atom named facts parts.1 i

  module _ (add del : Fact → List Fact) where
    -- the facts of literals that are added, and of those that are deleted
    abbrev pick : Literal → List Fact
    pick literal = if literal.holds then add (fact_of N literal.atom) else del (fact_of N literal.atom)

    module _ (s : State) (test : Test) (tells : TellsFacts N test s) where
      abbrev meant : Slots → NumberedEffect → List Fact
      meant slots tree = fold_effect (changes_layer add del N s) tree slots

      -- the literals are those of the effect, and their atoms are named
      pub record Takes (literals : List Literal) (facts : List Fact) : Type 0 where
        pub picks : flat_map pick literals ≡ facts
        pub named : list_all (λ (literal : Literal). is_named N literal.atom) literals ≡ true

      takes-none : Takes [] []
      takes-none = record { picks = refl; named = refl }

      takes-both : (first second : List Literal) (one other : List Fact) → Takes first one → Takes second other → Takes (first ++ second) (one ++ other)
      takes-both first second one other front back = record {
        picks = flat_map-append pick first second ∙ (λ i. front.picks i ++ back.picks i);
        named = list_all-append (λ (literal : Literal). is_named N literal.atom) first second ∙ and_from (list_all (λ (literal : Literal). is_named N literal.atom) first) _ front.named back.named;
      }

      split : (first second : List GroundAtom) → are_named N (first ++ second) ≡ true → (are_named N first ≡ true) × (are_named N second ≡ true)
      split first second all = and_parts (are_named N first) (are_named N second) (sym (list_all-append (is_named N) first second) ∙ all)

      takes-under : (holds : Bool) (literals : List Literal) (facts : List Fact) → Takes literals facts → Takes (if holds then literals else []) (if holds then facts else [])
      takes-under true literals facts takes = takes
      takes-under false literals facts takes = takes-none

      takes-bodies : (body : NumberedEffect) (inners : List Slots) → ((inner : Slots) → are_named N (effect_atoms N inner body) ≡ true → Takes (taken N test inner body) (meant inner body))
          → are_named N (flat_map (λ inner. effect_atoms N inner body) inners) ≡ true → Takes (flat_map (λ inner. taken N test inner body) inners) (flat_map (λ inner. meant inner body) inners)
      takes-bodies body [] each all = takes-none
      takes-bodies body (inner ∷ inners) each all =
          let parts = split (effect_atoms N inner body) (flat_map (λ inner. effect_atoms N inner body) inners) all in
          takes-both (taken N test inner body) (flat_map (λ inner. taken N test inner body) inners) (meant inner body) (flat_map (λ inner. meant inner body) inners) (each inner parts.0) (takes-bodies body inners each parts.1)

      mutual
        unfolding taken effect_atoms

        takes : (tree : NumberedEffect) (slots : Slots) → are_named N (effect_atoms N slots tree) ≡ true → Takes (taken N test slots tree) (meant slots tree)
        takes (Add predicate args) slots all = record { picks = append-nil (add (fact_of N (atom_at slots predicate args))); named = all }
        takes (Del predicate args) slots all = record { picks = append-nil (del (fact_of N (atom_at slots predicate args))); named = all }
        takes (All' _ parts) slots all = takes-row parts slots all
        takes (Each' ranges _ (more_of-NumberedEffect body _)) slots all = takes-bodies body (bound N slots ranges) (takes body) all
        takes (If' condition _ (more_of-NumberedEffect body _)) slots all =
            let parts = split (condition_atoms N slots condition) (effect_atoms N slots body) all in
            let holds : (outcome N test slots condition).holds ≡ met N s slots condition = met-by-test N apart s test tells (part_of N slots condition) (sound N condition slots) parts.0 in
            subst (λ one. Takes (if (outcome N test slots condition).holds then taken N test slots body else []) (if one then meant slots body else [])) holds
            (takes-under (outcome N test slots condition).holds (taken N test slots body) (meant slots body) (takes body slots parts.1))
        takes (Cost amount) slots all = takes-none

        takes-row : {n : Count} (row : Row_of-NumberedEffect n) (slots : Slots) → are_named N (flat_map (λ part. part slots) (fold_effects (effect_atoms_layer N) row)) ≡ true
            → Takes (flat_map (λ part. part slots) (fold_effects (taken_layer N test) row)) (flat_map (λ part. part slots) (fold_effects (changes_layer add del N s) row))
        takes-row end_of-NumberedEffect slots all = takes-none
        takes-row (more_of-NumberedEffect part rest) slots all =
            let parts = split (effect_atoms N slots part) (flat_map (λ part. part slots) (fold_effects (effect_atoms_layer N) rest)) all in
            takes-both (taken N test slots part) (flat_map (λ part. part slots) (fold_effects (taken_layer N test) rest)) (meant slots part) (flat_map (λ part. part slots) (fold_effects (changes_layer add del N s) rest))
            (takes part slots parts.0) (takes-row rest slots parts.1)

  abbrev one : Fact → List Fact
  one fact = fact ∷ []

  abbrev none : Fact → List Fact
  none fact = []

  module _ (atom : GroundAtom) (named : is_named N atom ≡ true) where
    added-found : (literals : List Literal) → list_all (λ (literal : Literal). is_named N literal.atom) literals ≡ true → has_fact (flat_map (pick one none) literals) (fact_of N atom) ≡ list_any (says true atom) literals
    added-found [] all = refl
    added-found (literal ∷ literals) all =
        let parts = and_parts (is_named N literal.atom) _ all in
        by literal.holds (same-atoms N apart literal.atom atom parts.0 named) (added-found literals parts.1)
      where
        by : (holds : Bool) → same_fact (fact_of N literal.atom) (fact_of N atom) ≡ bytes_eq atom literal.atom → has_fact (flat_map (pick one none) literals) (fact_of N atom) ≡ list_any (says true atom) literals
            → has_fact ((if holds then one (fact_of N literal.atom) else []) ++ flat_map (pick one none) literals) (fact_of N atom) ≡ ((holds && bytes_eq atom literal.atom) || list_any (says true atom) literals)
        by true same rest = λ i. same i || rest i
        by false same rest = rest

    deleted-found : (literals : List Literal) → list_all (λ (literal : Literal). is_named N literal.atom) literals ≡ true → has_fact (flat_map (pick none one) literals) (fact_of N atom) ≡ list_any (says false atom) literals
    deleted-found [] all = refl
    deleted-found (literal ∷ literals) all =
        let parts = and_parts (is_named N literal.atom) _ all in
        by literal.holds (same-atoms N apart literal.atom atom parts.0 named) (deleted-found literals parts.1)
      where
        by : (holds : Bool) → same_fact (fact_of N literal.atom) (fact_of N atom) ≡ bytes_eq atom literal.atom → has_fact (flat_map (pick none one) literals) (fact_of N atom) ≡ list_any (says false atom) literals
            → has_fact ((if holds then [] else one (fact_of N literal.atom)) ++ flat_map (pick none one) literals) (fact_of N atom) ≡ ((not holds && bytes_eq atom literal.atom) || list_any (says false atom) literals)
        by true same rest = rest
        by false same rest = λ i. same i || rest i

    next-found : (added_one deleted_one before : Bool) → (if added_one then true else (if deleted_one then false else before)) ≡ (added_one || (before && not deleted_one))
    next-found true deleted_one before = refl
    next-found false true true = refl
    next-found false true false = refl
    next-found false false true = refl
    next-found false false false = refl

pub start-is-told : StartIsTold
start-is-told T X well numbered atom is =
    start-found X.numbers (names-apart T X numbered) atom is X.start (subst (λ facts. list_all (λ fact. is_named X.numbers (atom_of fact)) facts ≡ true) (sym numbered.start) (start-named T X.numbers (task-known T X.numbers well numbered.covers).initial))
    ∙ ap (λ state. has_fact state (fact_of X.numbers atom)) (ap (map (fact_by X.numbers)) numbered.start ∙ start-means T X.numbers (task-known T X.numbers well numbered.covers).initial)

pub next-is-told : NextIsTold
unfolding added deleted
next-is-told T X numbered s test tells tree scope slots fills known atom is =
    let N = X.numbers in
    let apart = names-apart T X numbered in
    let env = environment_of N scope slots in
    let literals = taken N test slots (effect_of N tree scope) in
    let all = effect-named T N numbered.numbering tree scope slots fills known in
    let plus = takes N apart (one N apart) (none N apart) s test tells (effect_of N tree scope) slots all in
    let minus = takes N apart (none N apart) (one N apart) s test tells (effect_of N tree scope) slots all in
    let gains : list_any (says true atom) literals ≡ has_fact (adds T s env tree) (fact_of N atom) =
    sym (added-found N apart atom is literals plus.named) ∙ ap (λ state. has_fact state (fact_of N atom)) (plus.picks ∙ adds-mean T N numbered.numbering s tree scope slots fills known)
    in
    let loses : list_any (says false atom) literals ≡ has_fact (dels T s env tree) (fact_of N atom) =
    sym (deleted-found N apart atom is literals minus.named) ∙ ap (λ state. has_fact state (fact_of N atom)) (minus.picks ∙ deletes-mean T N numbered.numbering s tree scope slots fills known)
    in
    next-found N apart atom is (list_any (says true atom) literals) (list_any (says false atom) literals) (test atom)
    ∙ (λ i. gains i || (tells atom is i && not (loses i))) ∙ sym (has_fact-next T s env tree (fact_of N atom))
