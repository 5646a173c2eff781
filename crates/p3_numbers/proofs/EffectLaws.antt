-- A numbered effect does and costs what the effect does and costs that it was made of.
use Rattle.std.proofs.Common.{◌≡◌, ◌∙◌, ℕ, Bool, true, false, List, [], ◌∷◌, ◌++◌, map, Option, refl, sym, ap}
use Rattle.std.specs.Prelude.{flat_map, if◌then◌else◌}
use Rattle.std.specs.List.{list_all}
use Rattle.std.proofs.lemmas.Bool.{and_parts}
use Rattle.std.proofs.lemmas.List.Folds.{flat_map-map}
use mathlib.Core.Former.{Count}
use Rattle.p3_task.specs.Costs as cost
use Rattle.p3_task.specs.Costs.{total, amount_value, increases, effect_cost, given_value}
use Rattle.p3_task.specs.Effects as named
use Rattle.p3_task.specs.Effects.{adds, dels}
use Rattle.p3_task.specs.Folds.{fold_effect, fold_effects}
use Rattle.p3_task.specs.Formulas.{holds}
use Rattle.p3_task.specs.Literals as literal
use Rattle.p3_task.specs.Literals.{literals}
use Rattle.p3_task.specs.Names.{has_name}
use Rattle.p3_task.specs.States.{State, Environment}
use Rattle.p3_task.specs.Bindings.{bind}
use Rattle.p3_task.specs.declared.state.Fact.{Fact}
use Rattle.p3_task.specs.declared.formula.Formula.{Formula}
use Rattle.p3_task.specs.declared.effect.Amount.{Amount}
use Rattle.p3_task.specs.declared.effect.Amount.TheVariants as amount
use Rattle.p3_task.specs.declared.effect.Effect.{Effect, Row_of-Effect, end_of-Effect, more_of-Effect}
use Rattle.p3_task.specs.declared.effect.Effect.TheVariants.{Add, Del, All', Each', If', Cost}
use Rattle.p3_task.specs.declared.task.Task.{Task}
use Rattle.p3_numbers.specs.Slots.{Slots, bound}
use Rattle.p3_numbers.specs.Places.{Variables, ranges_of, words_of, are_known_terms, are_known_types, IsNumbering, Fills, environment_of}
use Rattle.p3_numbers.specs.Conditions.{met, condition_of, is_known_formula}
use Rattle.p3_numbers.specs.Effects.{added, deleted, NumberedLiteral, under, numbered_literals, numbered_increases, value_at, cost_at, amount_of, effect_layer, effect_of, is_known_amount, known_effect_layer, is_known_effect, LiteralMeaning, numbered_literal_meaning, literal_meaning}
use Rattle.p3_numbers.specs.declared.numbers.Numbers.{Numbers}
use Rattle.p3_numbers.specs.declared.condition.NumberedCondition.{NumberedCondition}
use Rattle.p3_numbers.specs.declared.effect.NumberedEffect.{NumberedEffect}
use Rattle.p3_numbers.proofs.PlaceLemmas.{found_name, terms_mean, fact_means}
use Rattle.p3_numbers.proofs.BindingLemmas.{each_binding}
use Rattle.p3_numbers.proofs.ConditionLaws.{condition-means}
use Rattle.p3_numbers.proofs.EffectLemmas.{changes, changes-All, changes-Each, changes-If, numbered_literals-All, numbered_literals-Each, numbered_literals-If, numbered_increases-All}
use Rattle.p3_numbers.proofs.JoinLemmas.{joined}

module _ (T : Task) (N : Numbers) (ties : IsNumbering T N) where
  -- ---- adds and deletes

  module _ (first second : Fact → List Fact) (s : State) where
    abbrev changed : Slots → NumberedEffect → List Fact
    changed slots tree = changes first second N s slots slots tree

    abbrev named_changes : Environment → Effect → List Fact
    named_changes env tree = fold_effect (named.literals_layer first second T s) tree env

    mutual
      unfolding effect_of is_known_effect

      changes-mean : (tree : Effect) (scope : Variables) (slots : Slots) → Fills N scope slots → is_known_effect N tree scope ≡ true → changed slots (effect_of N tree scope) ≡ named_changes (environment_of N scope slots) tree
      changes-mean (Add pred args) scope slots fills known = ap first (fact_means N scope slots fills pred args known)
      changes-mean (Del pred args) scope slots fills known = ap second (fact_means N scope slots fills pred args known)
      changes-mean (All' _ parts) scope slots fills known =
          let made = map (λ part. part scope) (fold_effects (effect_layer N) parts) in
          changes-All first second N s slots made
          ∙ sym (flat_map-map (λ found. found) (changed slots) made)
          ∙ ap (flat_map (λ found. found)) (all-changes-mean parts scope slots fills known) ∙ flat_map-map (λ found. found) (λ part. part (environment_of N scope slots)) (fold_effects (named.literals_layer first second T s) parts)
      changes-mean (Each' variables _ (more_of-Effect body _)) scope slots fills known =
          let inner = scope ++ words_of variables in
          let parts = and_parts (are_known_types N variables) (is_known_effect N body inner) known in
          let made = effect_of N body inner in
          changes-Each first second N s slots (ranges_of N variables) made
          ∙ sym (flat_map-map (λ found. found) (λ more. changed more made) (bound N slots (ranges_of N variables)))
          ∙ ap (flat_map (λ found. found)) (each_binding T N ties (λ more. changed more made) (λ env. named_changes env body) scope slots variables fills parts.0 (λ more fits. changes-mean body inner more fits parts.1))
          ∙ flat_map-map (λ found. found) (λ env. named_changes env body) (bind T (environment_of N scope slots) variables)
      changes-mean (If' formula _ (more_of-Effect body _)) scope slots fills known =
          let parts = and_parts (is_known_formula N formula scope) (is_known_effect N body scope) known in
          changes-If first second N s slots (condition_of N formula scope) (effect_of N body scope)
          ∙ (λ i. if condition-means T N ties s formula scope slots fills parts.0 i then changes-mean body scope slots fills parts.1 i else [])
      changes-mean (Cost at increase) scope slots fills known = refl

      all-changes-mean : {n : Count} (parts : Row_of-Effect n) (scope : Variables) (slots : Slots) → Fills N scope slots → list_all (λ part. part scope) (fold_effects (known_effect_layer N) parts) ≡ true
          → map (changed slots) (map (λ part. part scope) (fold_effects (effect_layer N) parts)) ≡ map (λ part. part (environment_of N scope slots)) (fold_effects (named.literals_layer first second T s) parts)
      all-changes-mean end_of-Effect scope slots fills known = refl
      all-changes-mean (more_of-Effect part rest) scope slots fills known =
          let parts = and_parts (is_known_effect N part scope) (list_all (λ part. part scope) (fold_effects (known_effect_layer N) rest)) known in
          λ i. changes-mean part scope slots fills parts.0 i ∷ all-changes-mean rest scope slots fills parts.1 i

  module _ (s : State) where
    pub adds-mean : (tree : Effect) (scope : Variables) (slots : Slots) → Fills N scope slots → is_known_effect N tree scope ≡ true → added N s slots (effect_of N tree scope) ≡ adds T s (environment_of N scope slots) tree
    unfolding added adds
    adds-mean = changes-mean (λ fact. fact ∷ []) (λ fact. []) s

    pub deletes-mean : (tree : Effect) (scope : Variables) (slots : Slots) → Fills N scope slots → is_known_effect N tree scope ≡ true → deleted N s slots (effect_of N tree scope) ≡ dels T s (environment_of N scope slots) tree
    unfolding deleted dels
    deletes-mean = changes-mean (λ fact. []) (λ fact. fact ∷ []) s

  -- ---- literals

  abbrev seen : Slots → NumberedEffect → List LiteralMeaning
  seen slots tree = map (numbered_literal_meaning N) (numbered_literals N slots tree)

  -- a condition more above each of them
  abbrev when : (State → Bool) → LiteralMeaning → LiteralMeaning
  when test meaning = record meaning { conditions = test ∷ meaning.conditions }

  seen-under : (condition : NumberedCondition) (slots : Slots) (found : List NumberedLiteral) → map (numbered_literal_meaning N) (map (under condition slots) found) ≡ map (when (λ s. met N s slots condition)) (map (numbered_literal_meaning N) found)
  seen-under condition slots [] = refl
  seen-under condition slots (entry ∷ found) = ap (λ rest. numbered_literal_meaning N (under condition slots entry) ∷ rest) (seen-under condition slots found)

  named-under : (formula : Formula) (env : Environment) (found : List literal.Literal) → map (literal_meaning T) (map (literal.under formula env) found) ≡ map (when (λ s. holds T s env formula)) (map (literal_meaning T) found)
  named-under formula env [] = refl
  named-under formula env (entry ∷ found) = ap (λ rest. literal_meaning T (literal.under formula env entry) ∷ rest) (named-under formula env found)

  mutual
    unfolding literals effect_of is_known_effect numbered_literals

    pub literals-mean : (tree : Effect) (scope : Variables) (slots : Slots) → Fills N scope slots → is_known_effect N tree scope ≡ true → seen slots (effect_of N tree scope) ≡ map (literal_meaning T) (literals T (environment_of N scope slots) tree)
    literals-mean (Add pred args) scope slots fills known = λ i. record { add = true; fact = fact_means N scope slots fills pred args known i; conditions = [] } ∷ []
    literals-mean (Del pred args) scope slots fills known = λ i. record { add = false; fact = fact_means N scope slots fills pred args known i; conditions = [] } ∷ []
    literals-mean (All' _ parts) scope slots fills known =
        let made = map (λ part. part scope) (fold_effects (effect_layer N) parts) in
        ap (map (numbered_literal_meaning N)) (numbered_literals-All N slots made)
        ∙ joined (numbered_literal_meaning N) (numbered_literals N slots) made
        ∙ ap (flat_map (λ found. found)) (all-literals-mean parts scope slots fills known) ∙ sym (joined (literal_meaning T) (λ part. part (environment_of N scope slots)) (fold_effects (literal.literals_layer T) parts))
    literals-mean (Each' variables _ (more_of-Effect body _)) scope slots fills known =
        let inner = scope ++ words_of variables in
        let parts = and_parts (are_known_types N variables) (is_known_effect N body inner) known in
        let made = effect_of N body inner in
        ap (map (numbered_literal_meaning N)) (numbered_literals-Each N slots (ranges_of N variables) made)
        ∙ joined (numbered_literal_meaning N) (λ more. numbered_literals N more made) (bound N slots (ranges_of N variables))
        ∙ ap (flat_map (λ found. found)) (each_binding T N ties (λ more. seen more made) (λ env. map (literal_meaning T) (literals T env body)) scope slots variables fills parts.0 (λ more fits. literals-mean body inner more fits parts.1))
        ∙ sym (joined (literal_meaning T) (λ env. literals T env body) (bind T (environment_of N scope slots) variables))
    literals-mean (If' formula _ (more_of-Effect body _)) scope slots fills known =
        let parts = and_parts (is_known_formula N formula scope) (is_known_effect N body scope) known in
        let condition = condition_of N formula scope in
        ap (map (numbered_literal_meaning N)) (numbered_literals-If N slots condition (effect_of N body scope))
        ∙ seen-under condition slots (numbered_literals N slots (effect_of N body scope))
        ∙ (λ i. map (when (λ s. condition-means T N ties s formula scope slots fills parts.0 i)) (literals-mean body scope slots fills parts.1 i))
        ∙ sym (named-under formula (environment_of N scope slots) (literals T (environment_of N scope slots) body))
    literals-mean (Cost at increase) scope slots fills known = refl

    all-literals-mean : {n : Count} (parts : Row_of-Effect n) (scope : Variables) (slots : Slots) → Fills N scope slots → list_all (λ part. part scope) (fold_effects (known_effect_layer N) parts) ≡ true
        → map (seen slots) (map (λ part. part scope) (fold_effects (effect_layer N) parts)) ≡ map (λ part. map (literal_meaning T) (part (environment_of N scope slots))) (fold_effects (literal.literals_layer T) parts)
    all-literals-mean end_of-Effect scope slots fills known = refl
    all-literals-mean (more_of-Effect part rest) scope slots fills known =
        let parts = and_parts (is_known_effect N part scope) (list_all (λ part. part scope) (fold_effects (known_effect_layer N) rest)) known in
        λ i. literals-mean part scope slots fills parts.0 i ∷ all-literals-mean rest scope slots fills parts.1 i

  -- ---- costs

  value-means : (increase : Amount) (scope : Variables) (slots : Slots) → Fills N scope slots → is_known_amount N increase scope ≡ true → value_at T N slots (amount_of N increase scope) ≡ amount_value T (environment_of N scope slots) increase
  value-means (amount.Number numeral) scope slots fills known = refl
  value-means (amount.Value function args) scope slots fills known =
      let parts = and_parts (has_name N.functions function.name) (are_known_terms N scope args) known in
      λ i. given_value T (found_name N.functions function.name parts.0 i) (terms_mean N scope slots fills args parts.1 i)

  abbrev costs : Slots → NumberedEffect → List (Option ℕ)
  costs slots tree = map (value_at T N slots) (numbered_increases tree)

  mutual
    unfolding increases effect_of is_known_effect numbered_increases

    costs-mean : (tree : Effect) (scope : Variables) (slots : Slots) → Fills N scope slots → is_known_effect N tree scope ≡ true → costs slots (effect_of N tree scope) ≡ map (amount_value T (environment_of N scope slots)) (increases tree)
    costs-mean (Add pred args) scope slots fills known = refl
    costs-mean (Del pred args) scope slots fills known = refl
    costs-mean (All' _ parts) scope slots fills known =
        let made = map (λ part. part scope) (fold_effects (effect_layer N) parts) in
        ap (map (value_at T N slots)) (numbered_increases-All made)
        ∙ joined (value_at T N slots) numbered_increases made
        ∙ ap (flat_map (λ found. found)) (all-costs-mean parts scope slots fills known) ∙ sym (joined (amount_value T (environment_of N scope slots)) (λ part. part) (fold_effects cost.increases_layer parts))
    costs-mean (Each' variables _ (more_of-Effect body _)) scope slots fills known = refl
    costs-mean (If' formula _ (more_of-Effect body _)) scope slots fills known = refl
    costs-mean (Cost at increase) scope slots fills known = ap (λ value. value ∷ []) (value-means increase scope slots fills known)

    all-costs-mean : {n : Count} (parts : Row_of-Effect n) (scope : Variables) (slots : Slots) → Fills N scope slots → list_all (λ part. part scope) (fold_effects (known_effect_layer N) parts) ≡ true
        → map (costs slots) (map (λ part. part scope) (fold_effects (effect_layer N) parts)) ≡ map (map (amount_value T (environment_of N scope slots))) (fold_effects cost.increases_layer parts)
    all-costs-mean end_of-Effect scope slots fills known = refl
    all-costs-mean (more_of-Effect part rest) scope slots fills known =
        let parts = and_parts (is_known_effect N part scope) (list_all (λ part. part scope) (fold_effects (known_effect_layer N) rest)) known in
        λ i. costs-mean part scope slots fills parts.0 i ∷ all-costs-mean rest scope slots fills parts.1 i

  pub cost-means : (tree : Effect) (scope : Variables) (slots : Slots) → Fills N scope slots → is_known_effect N tree scope ≡ true → cost_at T N slots (effect_of N tree scope) ≡ effect_cost T (environment_of N scope slots) tree
  unfolding effect_cost cost_at
  cost-means tree scope slots fills known = ap total (costs-mean tree scope slots fills known)
