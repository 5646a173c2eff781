-- The atoms that a condition reads at objects are those that its formula mentions; and so for the hard parts of goals.
use Rattle.std.proofs.Common.{◌≡◌, ◌∙◌, true, List, [], ◌∷◌, ◌++◌, map, refl, ap}
use Rattle.std.specs.Prelude.{flat_map}
use Rattle.std.specs.List.{list_all}
use Rattle.std.proofs.lemmas.Bool.{and_parts}
use Rattle.std.proofs.lemmas.List.{map-append}
use Rattle.std.proofs.lemmas.List.Folds.{flat_map-map}
use mathlib.Core.Former.{Count}
use Rattle.p3_task.specs.Bindings.{bind}
use Rattle.p3_task.specs.Folds.{fold_formulas, fold_goals}
use Rattle.p3_task.specs.Mentions.{formula_atoms, formula_atoms_layer}
use Rattle.p3_task.specs.declared.formula.Formula.{Formula, Row_of-Formula, end_of-Formula, more_of-Formula}
use Rattle.p3_task.specs.declared.formula.Formula.TheVariants as formula
use Rattle.p3_task.specs.declared.goal.PreGoal.{PreGoal, Row_of-PreGoal, end_of-PreGoal, more_of-PreGoal}
use Rattle.p3_task.specs.declared.goal.PreGoal.TheVariants as goal
use Rattle.p3_task.specs.declared.state.Fact.{Fact}
use Rattle.p3_task.specs.declared.task.Task.{Task}
use Rattle.p3_numbers.specs.Conditions.{condition_of, condition_layer, is_known_formula, known_formula_layer}
use Rattle.p3_numbers.specs.Goals.{goal_of, goal_layer, is_known_goal, known_goal_layer}
use Rattle.p3_numbers.specs.Places.{Variables, are_known_types, ranges_of, words_of, IsNumbering, Fills, environment_of}
use Rattle.p3_numbers.specs.Slots.{Slots, bound}
use Rattle.p3_numbers.specs.declared.numbers.Numbers.{Numbers}
use Rattle.p3_numbers.proofs.BindingLemmas.{each_binding}
use Rattle.p3_numbers.proofs.JoinLemmas.{joined}
use Rattle.p3_numbers.proofs.PlaceLemmas.{fact_means}
use Rattle.p3_expansion.specs.Atoms.{GroundAtom, fact_of}
use Rattle.p3_expansion.specs.Hard.{hard_atoms}
use Rattle.p3_expansion.specs.Meanings.{condition_atoms}
use Rattle.p3_expansion.proofs.HardLemmas as hard_lemma
use Rattle.p3_expansion.proofs.MeaningLemmas as lemma
use Rattle.p3_reasons.specs.Decisions.{hard_facts, hard_facts_layer}

module _ (T : Task) (N : Numbers) (ties : IsNumbering T N) where
  abbrev facts : List GroundAtom → List Fact
  facts atoms = map (fact_of N) atoms

  mutual
    unfolding condition_of is_known_formula condition_atoms formula_atoms

    pub atoms-mean : (tree : Formula) (scope : Variables) (slots : Slots) → Fills N scope slots → is_known_formula N tree scope ≡ true → facts (condition_atoms N slots (condition_of N tree scope)) ≡ formula_atoms T (environment_of N scope slots) tree
    atoms-mean (formula.Atom pred args) scope slots fills known = λ i. fact_means N scope slots fills pred args known i ∷ []
    atoms-mean (formula.Equal left right) scope slots fills known = refl
    atoms-mean (formula.And' _ parts) scope slots fills known =
        let made = map (λ part. part scope) (fold_formulas (condition_layer N) parts) in
        ap facts (lemma.atoms-And N slots made) ∙ joined (fact_of N) (condition_atoms N slots) made
        ∙ ap (flat_map (λ found. found)) (parts-mean parts scope slots fills known) ∙ flat_map-map (λ found. found) (λ part. part (environment_of N scope slots)) (fold_formulas (formula_atoms_layer T) parts)
    atoms-mean (formula.Or' _ parts) scope slots fills known =
        let made = map (λ part. part scope) (fold_formulas (condition_layer N) parts) in
        ap facts (lemma.atoms-Or N slots made) ∙ joined (fact_of N) (condition_atoms N slots) made
        ∙ ap (flat_map (λ found. found)) (parts-mean parts scope slots fills known) ∙ flat_map-map (λ found. found) (λ part. part (environment_of N scope slots)) (fold_formulas (formula_atoms_layer T) parts)
    atoms-mean (formula.Not' _ (more_of-Formula part _)) scope slots fills known = ap facts (lemma.atoms-Not N slots (condition_of N part scope)) ∙ atoms-mean part scope slots fills known
    atoms-mean (formula.Imply' _ (more_of-Formula first _) _ (more_of-Formula second _)) scope slots fills known =
        let parts = and_parts (is_known_formula N first scope) (is_known_formula N second scope) known in
        ap facts (lemma.atoms-Imply N slots (condition_of N first scope) (condition_of N second scope))
        ∙ map-append (fact_of N) (condition_atoms N slots (condition_of N first scope)) (condition_atoms N slots (condition_of N second scope))
        ∙ (λ i. atoms-mean first scope slots fills parts.0 i ++ atoms-mean second scope slots fills parts.1 i)
    atoms-mean (formula.Exists' variables _ (more_of-Formula body _)) scope slots fills known =
        let inner = scope ++ words_of variables in
        let parts = and_parts (are_known_types N variables) (is_known_formula N body inner) known in
        let made = condition_of N body inner in
        ap facts (lemma.atoms-Exists N slots (ranges_of N variables) made) ∙ joined (fact_of N) (λ more. condition_atoms N more made) (bound N slots (ranges_of N variables))
        ∙ ap (flat_map (λ found. found)) (each_binding T N ties (λ more. facts (condition_atoms N more made)) (λ env. formula_atoms T env body) scope slots variables fills parts.0 (λ more fits. atoms-mean body inner more fits parts.1))
        ∙ flat_map-map (λ found. found) (λ env. formula_atoms T env body) (bind T (environment_of N scope slots) variables)
    atoms-mean (formula.Forall' variables _ (more_of-Formula body _)) scope slots fills known =
        let inner = scope ++ words_of variables in
        let parts = and_parts (are_known_types N variables) (is_known_formula N body inner) known in
        let made = condition_of N body inner in
        ap facts (lemma.atoms-Forall N slots (ranges_of N variables) made) ∙ joined (fact_of N) (λ more. condition_atoms N more made) (bound N slots (ranges_of N variables))
        ∙ ap (flat_map (λ found. found)) (each_binding T N ties (λ more. facts (condition_atoms N more made)) (λ env. formula_atoms T env body) scope slots variables fills parts.0 (λ more fits. atoms-mean body inner more fits parts.1))
        ∙ flat_map-map (λ found. found) (λ env. formula_atoms T env body) (bind T (environment_of N scope slots) variables)

    parts-mean : {n : Count} (parts : Row_of-Formula n) (scope : Variables) (slots : Slots) → Fills N scope slots → list_all (λ part. part scope) (fold_formulas (known_formula_layer N) parts) ≡ true
        → map (λ made. facts (condition_atoms N slots made)) (map (λ part. part scope) (fold_formulas (condition_layer N) parts)) ≡ map (λ part. part (environment_of N scope slots)) (fold_formulas (formula_atoms_layer T) parts)
    parts-mean end_of-Formula scope slots fills known = refl
    parts-mean (more_of-Formula part rest) scope slots fills known =
        let parts = and_parts (is_known_formula N part scope) (list_all (λ part. part scope) (fold_formulas (known_formula_layer N) rest)) known in
        λ i. atoms-mean part scope slots fills parts.0 i ∷ parts-mean rest scope slots fills parts.1 i

  mutual
    unfolding goal_of is_known_goal hard_atoms hard_facts

    pub hard-atoms-mean : (tree : PreGoal) (scope : Variables) (slots : Slots) → Fills N scope slots → is_known_goal N tree scope ≡ true → facts (hard_atoms N slots (goal_of N tree scope)) ≡ hard_facts T (environment_of N scope slots) tree
    hard-atoms-mean (goal.Plain body) scope slots fills known = atoms-mean body scope slots fills known
    hard-atoms-mean (goal.Both' _ parts) scope slots fills known =
        let made = map (λ part. part scope) (fold_goals (goal_layer N) parts) in
        ap facts (hard_lemma.atoms-Both N slots made) ∙ joined (fact_of N) (hard_atoms N slots) made
        ∙ ap (flat_map (λ found. found)) (hard-parts-mean parts scope slots fills known) ∙ flat_map-map (λ found. found) (λ part. part (environment_of N scope slots)) (fold_goals (hard_facts_layer T) parts)
    hard-atoms-mean (goal.Each' variables _ (more_of-PreGoal body _)) scope slots fills known =
        let inner = scope ++ words_of variables in
        let parts = and_parts (are_known_types N variables) (is_known_goal N body inner) known in
        let made = goal_of N body inner in
        ap facts (hard_lemma.atoms-Each N slots (ranges_of N variables) made) ∙ joined (fact_of N) (λ more. hard_atoms N more made) (bound N slots (ranges_of N variables))
        ∙ ap (flat_map (λ found. found)) (each_binding T N ties (λ more. facts (hard_atoms N more made)) (λ env. hard_facts T env body) scope slots variables fills parts.0 (λ more fits. hard-atoms-mean body inner more fits parts.1))
        ∙ flat_map-map (λ found. found) (λ env. hard_facts T env body) (bind T (environment_of N scope slots) variables)
    hard-atoms-mean (goal.Soft pref) scope slots fills known = refl

    hard-parts-mean : {n : Count} (parts : Row_of-PreGoal n) (scope : Variables) (slots : Slots) → Fills N scope slots → list_all (λ part. part scope) (fold_goals (known_goal_layer N) parts) ≡ true
        → map (λ made. facts (hard_atoms N slots made)) (map (λ part. part scope) (fold_goals (goal_layer N) parts)) ≡ map (λ part. part (environment_of N scope slots)) (fold_goals (hard_facts_layer T) parts)
    hard-parts-mean end_of-PreGoal scope slots fills known = refl
    hard-parts-mean (more_of-PreGoal part rest) scope slots fills known =
        let parts = and_parts (is_known_goal N part scope) (list_all (λ part. part scope) (fold_goals (known_goal_layer N) rest)) known in
        λ i. hard-atoms-mean part scope slots fills parts.0 i ∷ hard-parts-mean rest scope slots fills parts.1 i
