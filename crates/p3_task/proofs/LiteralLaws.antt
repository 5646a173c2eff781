-- What an effect adds and deletes is what its literals do that take place.
use Rattle.std.proofs.Common.{◌≡◌, ◌∙◌, Bool, true, false, not, ◌&&◌, ◌||◌, List, [], ◌∷◌, map, refl, sym, ap, cond}
use Rattle.std.specs.Prelude.{flat_map}
use Rattle.std.specs.List.{list_any}
use Rattle.std.proofs.lemmas.List.Folds.{list_any-append}
use mathlib.Core.Former.{Count}
use Rattle.p3_task.specs.Folds.{fold_effect, fold_effects}
use Rattle.p3_task.specs.States.{State, Environment, same_fact, has_fact, fact_of}
use Rattle.p3_task.specs.Bindings.{bind}
use Rattle.p3_task.specs.Formulas.{holds}
use Rattle.p3_task.specs.Effects as effects
use Rattle.p3_task.specs.Effects.{adds, dels}
use Rattle.p3_task.specs.Literals.{Literal, under, literals, literals_layer, takes_place, sets, clears}
use Rattle.p3_task.specs.declared.state.Fact.{Fact}
use Rattle.p3_task.specs.declared.formula.Formula.{Formula}
use Rattle.p3_task.specs.declared.effect.Effect.{Effect, Row_of-Effect, end_of-Effect, more_of-Effect}
use Rattle.p3_task.specs.declared.effect.Effect.TheOpen.{Effect-F}
use Rattle.p3_task.specs.declared.effect.Effect.TheVariants.{Add, Del, All', Each', If', Cost}
use Rattle.p3_task.specs.declared.task.Task.{Task}

any-each : {A B : Type 0} (test : B → Bool) (f : A → List B) (xs : List A) → list_any test (flat_map f xs) ≡ list_any (λ x. list_any test (f x)) xs
any-each test f [] = refl
any-each test f (x ∷ xs) = list_any-append test (f x) (flat_map f xs) ∙ ap (λ rest. list_any test (f x) || rest) (any-each test f xs)

any-same : {A : Type 0} (f g : A → Bool) → ((x : A) → f x ≡ g x) → (xs : List A) → list_any f xs ≡ list_any g xs
any-same f g same [] = refl
any-same f g same (x ∷ xs) = λ i. same x i || any-same f g same xs i

none : (picked : Bool) (other : Bool) → (picked && false && other) ≡ false
none true other = refl
none false other = refl

-- of adds and deletes those are picked that pass
module _ (pick : Bool → Bool) (T : Task) (s : State) (fact : Fact) where
  abbrev when : Bool → Fact → List Fact
  when add other = cond (pick add) (other ∷ []) []

  abbrev facts : Effect-F (Environment → List Fact) → Environment → List Fact
  facts = effects.literals_layer (when true) (when false) T s

  abbrev takes : Literal → Bool
  takes literal = pick literal.add && takes_place T s literal && same_fact literal.fact fact

  here : (add : Bool) (other : Fact) → has_fact (when add other) fact ≡ (pick add && true && same_fact other fact || false)
  here add other = by (pick add)
    where
      by : (b : Bool) → has_fact (cond b (other ∷ []) []) fact ≡ (b && true && same_fact other fact || false)
      by true = refl
      by false = refl

  if-met : (met : Bool) (found : List Fact) → has_fact (cond met found []) fact ≡ (met && has_fact found fact)
  if-met true found = refl
  if-met false found = refl

  takes-under : (condition : Formula) (env : Environment) (found : List Literal) → list_any takes (map (under condition env) found) ≡ (holds T s env condition && list_any takes found)
  takes-under condition env [] = by (holds T s env condition)
    where
      by : (met : Bool) → false ≡ (met && false)
      by true = refl
      by false = refl
  takes-under condition env (literal ∷ found) = ap (λ rest. takes (under condition env literal) || rest) (takes-under condition env found) ∙ by (holds T s env condition)
    where
      by : (met : Bool) → ((pick literal.add && (met && takes_place T s literal) && same_fact literal.fact fact) || (met && list_any takes found)) ≡ (met && (takes literal || list_any takes found))
      by true = refl
      by false = λ i. none (pick literal.add) (same_fact literal.fact fact) i || false

  mutual
    unfolding literals

    pub facts-literals : (effect : Effect) (env : Environment) → has_fact (fold_effect facts effect env) fact ≡ list_any takes (literals T env effect)
    facts-literals (Add pred args) env = here true (fact_of env pred args)
    facts-literals (Del pred args) env = here false (fact_of env pred args)
    facts-literals (All' _ parts) env = facts-all parts env
    facts-literals (Each' variables _ (more_of-Effect body _)) env =
        any-each (λ other. same_fact other fact) (fold_effect facts body) (bind T env variables)
        ∙ any-same (λ inner. has_fact (fold_effect facts body inner) fact) (λ inner. list_any takes (literals T inner body)) (λ inner. facts-literals body inner) (bind T env variables)
        ∙ sym (any-each takes (fold_effect (literals_layer T) body) (bind T env variables))
    facts-literals (If' condition _ (more_of-Effect body _)) env =
        if-met (holds T s env condition) (fold_effect facts body env) ∙ ap (λ rest. holds T s env condition && rest) (facts-literals body env) ∙ sym (takes-under condition env (literals T env body))
    facts-literals (Cost at amount) env = refl

    facts-all : {n : Count} (parts : Row_of-Effect n) (env : Environment) → has_fact (flat_map (λ part. part env) (fold_effects facts parts)) fact ≡ list_any takes (flat_map (λ part. part env) (fold_effects (literals_layer T) parts))
    facts-all end_of-Effect env = refl
    facts-all (more_of-Effect part rest) env =
        list_any-append (λ other. same_fact other fact) (fold_effect facts part env) (flat_map (λ part. part env) (fold_effects facts rest))
        ∙ (λ i. facts-literals part env i || facts-all rest env i)
        ∙ sym (list_any-append takes (fold_effect (literals_layer T) part env) (flat_map (λ part. part env) (fold_effects (literals_layer T) rest)))

module _ (T : Task) (s : State) (fact : Fact) (effect : Effect) (env : Environment) where
  pub adds-literals : has_fact (adds T s env effect) fact ≡ list_any (sets T s fact) (literals T env effect)
  unfolding adds
  adds-literals = facts-literals (λ add. add) T s fact effect env

  pub dels-literals : has_fact (dels T s env effect) fact ≡ list_any (clears T s fact) (literals T env effect)
  unfolding dels
  dels-literals = facts-literals not T s fact effect env
