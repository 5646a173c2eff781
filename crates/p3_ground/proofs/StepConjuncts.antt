-- Where a precondition may begin, the atoms that `and` alone joins in it are possible.
use Rattle.std.proofs.Common.{◌≡◌, ◌∙◌, ℕ, ◌+◌, ◌<◌, nat_lt, Bool, true, not, ◌&&◌, ◌||◌, List, [], ◌∷◌, ◌++◌, map, length, Option, Some, None, is_some, false, refl, sym, ap, subst, arith}
use Rattle.std.specs.Prelude.{flat_map, if◌then◌else◌}
use Rattle.std.specs.List.{list_all}
use Rattle.std.proofs.Math.Bool.{and-true}
use Rattle.std.proofs.lemmas.Bool.{and_parts, and_from, lt-ltb}
use Rattle.std.proofs.lemmas.Bool.Decides.{nat_tests}
use Rattle.std.proofs.lemmas.List.{map-append}
use Rattle.std.proofs.lemmas.List.Folds.{flat_map-map, list_all-append, list_all-map}
use mathlib.Core.Former.{Count}
use Rattle.p3_task.specs.Conjuncts.{NamedAtom, formula_conjuncts, formula_conjuncts_layer, goal_conjuncts, goal_conjuncts_layer}
use Rattle.p3_task.specs.Folds.{fold_formulas, fold_goals}
use Rattle.p3_task.specs.Names.{Name, same_name, has_name}
use Rattle.p3_task.specs.States as states
use Rattle.p3_task.specs.States.{Environment}
use Rattle.p3_task.specs.Static as named
use Rattle.p3_task.specs.declared.formula.Formula.{Formula, Row_of-Formula, end_of-Formula, more_of-Formula}
use Rattle.p3_task.specs.declared.formula.Formula.TheVariants as formula
use Rattle.p3_task.specs.declared.goal.PreGoal.{PreGoal, Row_of-PreGoal, end_of-PreGoal, more_of-PreGoal}
use Rattle.p3_task.specs.declared.goal.PreGoal.TheVariants as goal
use Rattle.p3_task.specs.declared.state.Fact.{Fact}
use Rattle.p3_task.specs.declared.task.Task.{Task}
use Rattle.p3_task.specs.declared.term.Term.{Term}
use Rattle.p3_task.specs.declared.term.Term.TheVariants.{Var, Const}
use Rattle.p3_numbers.specs.Conditions.{condition_of, condition_layer, is_known_formula, known_formula_layer}
use Rattle.p3_numbers.specs.Folds.{fold_condition, fold_goal}
use Rattle.p3_numbers.specs.Goals.{goal_of, goal_layer, is_known_goal, known_goal_layer}
use Rattle.p3_numbers.specs.Places.{Variables, Fills, environment_of, words_of, number_in, slot_of, place_after, slot_or_first, numbered_term, numbered_terms, is_known_term, are_known_terms}
use Rattle.p3_numbers.specs.Slots.{Slots, name_at}
use Rattle.p3_numbers.specs.Tasks.{numbered_action}
use Rattle.p3_numbers.specs.declared.condition.NumberedCondition.{NumberedCondition}
use Rattle.p3_numbers.specs.declared.condition.NumberedCondition.TheVariants as condition
use Rattle.p3_numbers.specs.declared.goal.NumberedGoal.{NumberedGoal}
use Rattle.p3_numbers.specs.declared.goal.NumberedGoal.TheVariants as numbered_goal
use Rattle.p3_numbers.specs.declared.numbers.Numbers.{Numbers}
use Rattle.p3_numbers.specs.declared.task.NumberedTask.{NumberedTask}
use Rattle.p3_numbers.proofs.PlaceLemmas.{fact_means}
use Rattle.p3_expansion.specs.Atoms.{GroundAtom, fact_of, atom_at, is_named, are_named}
use Rattle.p3_expansion.specs.Statics.{is_decided, TellStatics}
use Rattle.p3_expansion.specs.declared.statics.Statics.{Statics}
use Rattle.p3_expansion.proofs.HardLemmas.{hidden_goals}
use Rattle.p3_expansion.proofs.MeaningLemmas.{hidden_conditions}
use Rattle.p3_expansion.proofs.NamedAtoms.{atom-named}
use Rattle.p3_expansion.proofs.StaticLemmas.{tell-statics, start-told}
use Rattle.p3_steps.specs.Possible as possible
use Rattle.p3_steps.specs.Possible.{is_chosen, are_chosen, joined_atoms, joined_atoms_layer, goal_joined_atoms, goal_joined_layer, may_begin}
use Rattle.p3_steps.proofs.PossibleLaws.{begins-possible}
use Rattle.p3_task.specs.Mentions.{conjuncts_by}
use Rattle.p3_ground.specs.Sparse.{is_possible}
use Rattle.p3_ground.specs.StepParts.{IsKnownWhole, OfSteps, WantsWhatIsPossible}
use Rattle.p3_ground.proofs.StepParts.{step-env, step-known}

-- ---- terms whose objects are chosen

place-within : (scope : Variables) (variable : Name) (passed total : ℕ) (found : Option ℕ) (place : ℕ) → passed + length scope ≡ total → ((k : ℕ) → found ≡ Some k → k < total) → place_after scope variable passed found ≡ Some place → place < total
place-within [] variable passed total found place e below is = below place is
place-within (other ∷ scope) variable passed total found place e below is =
    place-within scope variable (passed + 1) total (if same_name other variable then Some passed else found) place (omega (arith, e)) (by (same_name other variable)) is
  where
    by : (here : Bool) → (k : ℕ) → (if here then Some passed else found) ≡ Some k → k < total
    by true k same = let at : passed ≡ k = cc in omega (arith, at, e)
    by false k same = below k same

module _ (N : Numbers) (scope : Variables) (slots : Slots) (lengths : length scope ≡ length slots) where
  term-chosen : (term : Term) → is_known_term N scope term ≡ true → is_chosen slots (numbered_term N scope term) ≡ true
  term-chosen (Const object) known = refl
  term-chosen (Var variable) known = by (slot_of scope variable.name) refl known
    where
      by : (slot : Option ℕ) → slot_of scope variable.name ≡ slot → is_some slot ≡ true → is_chosen slots (slot_or_first slot) ≡ true
      by None is known = absurd (cc)
      by (Some place) is known = lt-ltb place (length slots) (place-within scope variable.name 0 (length slots) None place (omega (arith, lengths)) (λ k e. absurd (cc)) is)

  terms-chosen : (terms : List Term) → are_known_terms N scope terms ≡ true → are_chosen slots (numbered_terms N scope terms) ≡ true
  terms-chosen [] known = refl
  terms-chosen (term ∷ terms) known =
      let parts = and_parts (is_known_term N scope term) (are_known_terms N scope terms) known in
      and_from (is_chosen slots (numbered_term N scope term)) _ (term-chosen term parts.0) (terms-chosen terms parts.1)

-- ---- what `and` alone joins

-- the atoms say the facts, and have names
record Joined (N : Numbers) (atoms : List GroundAtom) (facts : List Fact) : Type 0 where
  same : map (fact_of N) atoms ≡ facts
  named : are_named N atoms ≡ true

abbrev conjunct : Environment → NamedAtom → Fact
conjunct env atom = states.fact_of env atom.pred atom.args

joined-And : (slots : Slots) (parts : List NumberedCondition) → joined_atoms slots (condition.And parts) ≡ flat_map (joined_atoms slots) parts
unfolding joined_atoms
joined-And slots parts = ap (flat_map (λ part. part)) (hidden_conditions (joined_atoms_layer slots) parts) ∙ flat_map-map (λ part. part) (fold_condition (joined_atoms_layer slots)) parts

joined-Both : (slots : Slots) (parts : List NumberedGoal) → goal_joined_atoms slots (numbered_goal.Both parts) ≡ flat_map (goal_joined_atoms slots) parts
unfolding goal_joined_atoms
joined-Both slots parts = ap (flat_map (λ part. part)) (hidden_goals (goal_joined_layer slots) parts) ∙ flat_map-map (λ part. part) (fold_goal (goal_joined_layer slots)) parts

module _ (N : Numbers) where
  nothing : Joined N [] []
  nothing = record { same = refl; named = refl }

  together : (atoms others : List GroundAtom) (facts more : List Fact) → Joined N atoms facts → Joined N others more → Joined N (atoms ++ others) (facts ++ more)
  together atoms others facts more first second = record {
    same = map-append (fact_of N) atoms others ∙ (λ i. first.same i ++ second.same i);
    named = list_all-append (is_named N) atoms others ∙ and_from (are_named N atoms) (are_named N others) first.named second.named;
  }

  mutual
    unfolding condition_of is_known_formula joined_atoms formula_conjuncts

    joined-mean : (tree : Formula) (scope : Variables) (slots : Slots) → Fills N scope slots → is_known_formula N tree scope ≡ true → Joined N (joined_atoms slots (condition_of N tree scope)) (map (conjunct (environment_of N scope slots)) (formula_conjuncts tree))
    joined-mean (formula.Atom pred args) scope slots fills known =
        let own = numbered_terms N scope args in
        let number = number_in N.predicates pred.name in
        let parts = and_parts (has_name N.predicates pred.name) (are_known_terms N scope args) known in
        subst (λ chosen. Joined N (if chosen then atom_at slots number own ∷ [] else []) (states.fact_of (environment_of N scope slots) pred args ∷ [])) (sym (terms-chosen N scope slots fills.lengths args parts.1)) (record {
          same = λ i. fact_means N scope slots fills pred args known i ∷ [];
          named = and_from (is_named N (atom_at slots number own)) true (atom-named N scope slots fills pred args known) refl;
        })
    joined-mean (formula.Equal left right) scope slots fills known = nothing
    joined-mean (formula.And' shape parts) scope slots fills known =
        let made = map (λ part. part scope) (fold_formulas (condition_layer N) parts) in
        subst (λ atoms. Joined N atoms (map (conjunct (environment_of N scope slots)) (flat_map (λ part. part) (fold_formulas formula_conjuncts_layer parts)))) (sym (joined-And slots made)) (all-joined parts scope slots fills known)
    joined-mean (formula.Or' shape parts) scope slots fills known = nothing
    joined-mean (formula.Not' shape part) scope slots fills known = nothing
    joined-mean (formula.Imply' shape first other second) scope slots fills known = nothing
    joined-mean (formula.Exists' variables shape body) scope slots fills known = nothing
    joined-mean (formula.Forall' variables shape body) scope slots fills known = nothing

    all-joined : {n : Count} (parts : Row_of-Formula n) (scope : Variables) (slots : Slots) → Fills N scope slots → list_all (λ part. part scope) (fold_formulas (known_formula_layer N) parts) ≡ true
        → Joined N (flat_map (joined_atoms slots) (map (λ part. part scope) (fold_formulas (condition_layer N) parts))) (map (conjunct (environment_of N scope slots)) (flat_map (λ part. part) (fold_formulas formula_conjuncts_layer parts)))
    all-joined end_of-Formula scope slots fills known = nothing
    all-joined (more_of-Formula part rest) scope slots fills known =
        let parts = and_parts (is_known_formula N part scope) (list_all (λ part. part scope) (fold_formulas (known_formula_layer N) rest)) known in
        let env = environment_of N scope slots in
        let others = flat_map (λ part. part) (fold_formulas formula_conjuncts_layer rest) in
        let made = flat_map (joined_atoms slots) (map (λ part. part scope) (fold_formulas (condition_layer N) rest)) in
        subst (λ facts. Joined N (joined_atoms slots (condition_of N part scope) ++ made) facts) (sym (map-append (conjunct env) (formula_conjuncts part) others))
        (together (joined_atoms slots (condition_of N part scope)) made (map (conjunct env) (formula_conjuncts part)) (map (conjunct env) others) (joined-mean part scope slots fills parts.0) (all-joined rest scope slots fills parts.1))

  mutual
    unfolding goal_of is_known_goal goal_joined_atoms goal_conjuncts

    goal-joined : (tree : PreGoal) (scope : Variables) (slots : Slots) → Fills N scope slots → is_known_goal N tree scope ≡ true → Joined N (goal_joined_atoms slots (goal_of N tree scope)) (map (conjunct (environment_of N scope slots)) (goal_conjuncts tree))
    goal-joined (goal.Plain body) scope slots fills known = joined-mean body scope slots fills known
    goal-joined (goal.Both' shape parts) scope slots fills known =
        let made = map (λ part. part scope) (fold_goals (goal_layer N) parts) in
        subst (λ atoms. Joined N atoms (map (conjunct (environment_of N scope slots)) (flat_map (λ part. part) (fold_goals goal_conjuncts_layer parts)))) (sym (joined-Both slots made)) (goals-joined parts scope slots fills known)
    goal-joined (goal.Each' variables shape body) scope slots fills known = nothing
    goal-joined (goal.Soft pref) scope slots fills known = nothing

    goals-joined : {n : Count} (parts : Row_of-PreGoal n) (scope : Variables) (slots : Slots) → Fills N scope slots → list_all (λ part. part scope) (fold_goals (known_goal_layer N) parts) ≡ true
        → Joined N (flat_map (goal_joined_atoms slots) (map (λ part. part scope) (fold_goals (goal_layer N) parts))) (map (conjunct (environment_of N scope slots)) (flat_map (λ part. part) (fold_goals goal_conjuncts_layer parts)))
    goals-joined end_of-PreGoal scope slots fills known = nothing
    goals-joined (more_of-PreGoal part rest) scope slots fills known =
        let parts = and_parts (is_known_goal N part scope) (list_all (λ part. part scope) (fold_goals (known_goal_layer N) rest)) known in
        let env = environment_of N scope slots in
        let others = flat_map (λ part. part) (fold_goals goal_conjuncts_layer rest) in
        let made = flat_map (goal_joined_atoms slots) (map (λ part. part scope) (fold_goals (goal_layer N) rest)) in
        subst (λ facts. Joined N (goal_joined_atoms slots (goal_of N part scope) ++ made) facts) (sym (map-append (conjunct env) (goal_conjuncts part) others))
        (together (goal_joined_atoms slots (goal_of N part scope)) made (map (conjunct env) (goal_conjuncts part)) (map (conjunct env) others) (goal-joined part scope slots fills parts.0) (goals-joined rest scope slots fills parts.1))

-- ---- what is possible by number is so by name

module _ (T : Task) (X : NumberedTask) (S : Statics) (whole : IsKnownWhole T X S) where
  told : TellStatics T X.numbers S
  told = tell-statics T X S whole.well whole.numbered whole.statics

  from-test : (a b : ℕ) → nat_lt a b ≡ true → a < b
  from-test a b test = grind (arith, nat_tests)

  possible-alike : (atom : GroundAtom) → is_named X.numbers atom ≡ true → is_possible T (fact_of X.numbers atom) ≡ possible.is_possible X.numbers S atom
  possible-alike [] is = absurd (cc)
  possible-alike (predicate ∷ objects) is =
      let parts = and_parts (nat_lt predicate (length X.numbers.predicates)) (list_all (λ object. nat_lt object (length X.numbers.objects)) objects) is in
      let at_start = (start-told T X S whole.well whole.numbered whole.statics ((predicate ∷ objects) ∷ []) (and_from (is_named X.numbers (predicate ∷ objects)) true is refl)).bit 0 (predicate ∷ objects) refl in
      let decided : is_decided X.numbers S (predicate ∷ objects) ≡ named.is_static T (name_at X.numbers.predicates predicate) =
      (λ i. told.static predicate (from-test predicate (length X.numbers.predicates) parts.0) i && parts.1 i) ∙ and-true (named.is_static T (name_at X.numbers.predicates predicate))
      in
      λ i. not (sym decided i) || sym at_start i

  all-alike : (atoms : List GroundAtom) → are_named X.numbers atoms ≡ true → list_all (λ atom. is_possible T (fact_of X.numbers atom)) atoms ≡ list_all (possible.is_possible X.numbers S) atoms
  all-alike [] is = refl
  all-alike (atom ∷ atoms) is = let parts = and_parts (is_named X.numbers atom) (are_named X.numbers atoms) is in λ i. possible-alike atom parts.0 i && all-alike atoms parts.1 i

pub wants-what-is-possible : OfSteps WantsWhatIsPossible
wants-what-is-possible T X S action slots step whole is may =
    let scope = words_of action.params in
    let joined = goal-joined X.numbers action.pre.body scope slots is.fills (step-known T X whole.well whole.numbered action slots step is).0 in
    let atoms = goal_joined_atoms slots (numbered_action X.numbers action).pre in
    ap (λ found. list_all (is_possible T) (conjuncts_by step found)) is.named
    ∙ ap (λ env. list_all (is_possible T) (map (conjunct env) (goal_conjuncts action.pre.body))) (step-env T X whole.well whole.numbered action slots step is)
    ∙ ap (list_all (is_possible T)) (sym joined.same) ∙ list_all-map (is_possible T) (fact_of X.numbers) atoms ∙ all-alike T X S whole atoms joined.named ∙ begins-possible X.numbers S slots (numbered_action X.numbers action).pre may
