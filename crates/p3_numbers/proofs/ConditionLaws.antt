-- A condition holds where the formula does that it was made of.
use Rattle.std.proofs.Common.{◌≡◌, ◌∙◌, true, not, ◌∷◌, ◌++◌, map, refl, sym, ap}
use Rattle.std.specs.List.{list_any, list_all}
use Rattle.std.proofs.lemmas.List.Folds.{list_all-map}
use mathlib.Core.Former.{Count}
use Rattle.p3_base.specs.Connectives.{◌implies◌}
use Rattle.p3_task.specs.Folds.{fold_formulas}
use Rattle.p3_task.specs.Formulas.{holds, holds_layer}
use Rattle.std.proofs.lemmas.Bool.{and_parts}
use Rattle.p3_task.specs.Names.{same_name}
use Rattle.p3_task.specs.States.{State, has_fact}
use Rattle.p3_task.specs.Bindings.{bind}
use Rattle.p3_task.proofs.MeaningLemmas.{list_any-map}
use Rattle.p3_task.specs.declared.formula.Formula.{Formula, Row_of-Formula, end_of-Formula, more_of-Formula}
use Rattle.p3_task.specs.declared.formula.Formula.TheVariants.{Atom, Equal, And', Or', Not', Imply', Exists', Forall'}
use Rattle.p3_task.specs.declared.task.Task.{Task}
use Rattle.p3_numbers.specs.Slots.{Slots, value_of, bound}
use Rattle.p3_numbers.specs.Places.{Variables, numbered_term, ranges_of, words_of, is_known_term, are_known_types, IsNumbering, Fills, environment_of}
use Rattle.p3_numbers.specs.Conditions.{met, condition_of, condition_layer, is_known_formula, known_formula_layer}
use Rattle.p3_numbers.specs.declared.numbers.Numbers.{Numbers}
use Rattle.p3_numbers.proofs.PlaceLemmas.{same_numbers, term_means, fact_means}
use Rattle.p3_numbers.proofs.BindingLemmas.{each_binding}
use Rattle.p3_numbers.proofs.ConditionLemmas.{met-And, met-Or, met-Not, met-Imply, met-Exists, met-Forall}

module _ (T : Task) (N : Numbers) (ties : IsNumbering T N) (s : State) where
  mutual
    unfolding holds condition_of is_known_formula met

    pub condition-means : (tree : Formula) (scope : Variables) (slots : Slots) → Fills N scope slots → is_known_formula N tree scope ≡ true → met N s slots (condition_of N tree scope) ≡ holds T s (environment_of N scope slots) tree
    condition-means (Atom pred args) scope slots fills known = ap (has_fact s) (fact_means N scope slots fills pred args known)
    condition-means (Equal left right) scope slots fills known =
        let parts = and_parts (is_known_term N scope left) (is_known_term N scope right) known in
        let first = term_means N scope slots fills left parts.0 in
        let second = term_means N scope slots fills right parts.1 in
        same_numbers T N ties (value_of slots (numbered_term N scope left)) (value_of slots (numbered_term N scope right)) first.1 second.1 ∙ (λ i. same_name (first.0 i) (second.0 i))
    condition-means (And' _ parts) scope slots fills known =
        met-And N s slots (map (λ part. part scope) (fold_formulas (condition_layer N) parts))
        ∙ sym (list_all-map (λ part. part) (met N s slots) (map (λ part. part scope) (fold_formulas (condition_layer N) parts)))
        ∙ ap (list_all (λ part. part)) (parts-mean parts scope slots fills known) ∙ list_all-map (λ part. part) (λ part. part (environment_of N scope slots)) (fold_formulas (holds_layer T s) parts)
    condition-means (Or' _ parts) scope slots fills known =
        met-Or N s slots (map (λ part. part scope) (fold_formulas (condition_layer N) parts))
        ∙ sym (list_any-map (λ part. part) (met N s slots) (map (λ part. part scope) (fold_formulas (condition_layer N) parts)))
        ∙ ap (list_any (λ part. part)) (parts-mean parts scope slots fills known) ∙ list_any-map (λ part. part) (λ part. part (environment_of N scope slots)) (fold_formulas (holds_layer T s) parts)
    condition-means (Not' _ (more_of-Formula part _)) scope slots fills known = met-Not N s slots (condition_of N part scope) ∙ ap not (condition-means part scope slots fills known)
    condition-means (Imply' _ (more_of-Formula first _) _ (more_of-Formula second _)) scope slots fills known =
        let parts = and_parts (is_known_formula N first scope) (is_known_formula N second scope) known in
        met-Imply N s slots (condition_of N first scope) (condition_of N second scope) ∙ (λ i. condition-means first scope slots fills parts.0 i implies condition-means second scope slots fills parts.1 i)
    condition-means (Exists' variables _ (more_of-Formula body _)) scope slots fills known =
        let inner = scope ++ words_of variables in
        let parts = and_parts (are_known_types N variables) (is_known_formula N body inner) known in
        let made = condition_of N body inner in
        met-Exists N s slots (ranges_of N variables) made
        ∙ sym (list_any-map (λ part. part) (λ more. met N s more made) (bound N slots (ranges_of N variables)))
        ∙ ap (list_any (λ part. part)) (each_binding T N ties (λ more. met N s more made) (λ env. holds T s env body) scope slots variables fills parts.0 (λ more fits. condition-means body inner more fits parts.1))
        ∙ list_any-map (λ part. part) (λ env. holds T s env body) (bind T (environment_of N scope slots) variables)
    condition-means (Forall' variables _ (more_of-Formula body _)) scope slots fills known =
        let inner = scope ++ words_of variables in
        let parts = and_parts (are_known_types N variables) (is_known_formula N body inner) known in
        let made = condition_of N body inner in
        met-Forall N s slots (ranges_of N variables) made
        ∙ sym (list_all-map (λ part. part) (λ more. met N s more made) (bound N slots (ranges_of N variables)))
        ∙ ap (list_all (λ part. part)) (each_binding T N ties (λ more. met N s more made) (λ env. holds T s env body) scope slots variables fills parts.0 (λ more fits. condition-means body inner more fits parts.1))
        ∙ list_all-map (λ part. part) (λ env. holds T s env body) (bind T (environment_of N scope slots) variables)

    parts-mean : {n : Count} (parts : Row_of-Formula n) (scope : Variables) (slots : Slots) → Fills N scope slots → list_all (λ part. part scope) (fold_formulas (known_formula_layer N) parts) ≡ true
        → map (met N s slots) (map (λ part. part scope) (fold_formulas (condition_layer N) parts)) ≡ map (λ part. part (environment_of N scope slots)) (fold_formulas (holds_layer T s) parts)
    parts-mean end_of-Formula scope slots fills known = refl
    parts-mean (more_of-Formula part rest) scope slots fills known =
        let parts = and_parts (is_known_formula N part scope) (list_all (λ part. part scope) (fold_formulas (known_formula_layer N) rest)) known in
        λ i. condition-means part scope slots fills parts.0 i ∷ parts-mean rest scope slots fills parts.1 i
