-- Facts and states: when two facts are the same, and which facts the next state has.
use Rattle.std.proofs.Common.{◌≡◌, ◌∙◌, refl, ap, Bool, true, false, not, ◌&&◌, ◌||◌, List, [], ◌∷◌, ◌++◌, cond}
use Rattle.std.specs.Prelude.{filter}
use Rattle.std.specs.Bool.{Decides}
use Rattle.std.specs.Cmp.Lexicographic.{pointwise_decides}
use Rattle.std.proofs.lemmas.Bool.Decides.{Decides-and, Decides-like}
use Rattle.std.proofs.lemmas.List.Folds.{list_any-append}
use Rattle.std.proofs.lemmas.Slice.Eq.{bytes_eq-Decides}
use Rattle.p3_task.specs.Names.{Name, same_name, same_names}
use Rattle.p3_task.specs.States.{State, Environment, same_fact, has_fact}
use Rattle.p3_task.specs.Effects.{adds, dels, next}
use Rattle.p3_task.specs.declared.state.Fact.{Fact}
use Rattle.p3_task.specs.declared.effect.Effect.{Effect}
use Rattle.p3_task.specs.declared.task.Task.{Task}

pub same_names-Decides : (first second : List Name) → Decides (same_names first second) (first ≡ second)
same_names-Decides = pointwise_decides bytes_eq-Decides

pub same_fact-Decides : (first second : Fact) → Decides (same_fact first second) (first ≡ second)
same_fact-Decides first second = Decides-like (same_fact first second) (λ (e, f) i. record { name = e i; args = f i }) (λ e. (ap (λ fact. fact.name) e, ap (λ fact. fact.args) e))
    (Decides-and (same_name first.name second.name) (same_names first.args second.args) (bytes_eq-Decides first.name second.name) (same_names-Decides first.args second.args))

-- the first fact is kept or not, and the rest has what it has
kept_or_not : (kept here : Bool) (fact other : Fact) (rest : State) → same_fact fact other ≡ here → has_fact (cond kept (fact ∷ rest) rest) other ≡ ((kept && here) || has_fact rest other)
kept_or_not true here fact other rest e = ap (λ found. found || has_fact rest other) e
kept_or_not false here fact other rest e = refl

two_ways : (kept here there gone : Bool) → (here ≡ true → kept ≡ not gone) → ((kept && here) || (there && not gone)) ≡ ((here || there) && not gone)
two_ways kept true there gone e = kept_so kept there gone (e refl)
  where
    kept_so : (kept there gone : Bool) → kept ≡ not gone → ((kept && true) || (there && not gone)) ≡ ((true || there) && not gone)
    kept_so true there true e = absurd (cc)
    kept_so true there false e = refl
    kept_so false true true e = refl
    kept_so false false true e = refl
    kept_so false there false e = absurd (cc)
two_ways true false there gone e = refl
two_ways false false there gone e = refl

pub has_fact-filter : (gone s : State) (other : Fact) → has_fact (filter (λ fact. not (has_fact gone fact)) s) other ≡ (has_fact s other && not (has_fact gone other))
has_fact-filter gone [] other = refl
has_fact-filter gone (fact ∷ s) other =
    kept_or_not (not (has_fact gone fact)) (same_fact fact other) fact other (filter (λ f. not (has_fact gone f)) s) refl
    ∙ ap (λ rest. (not (has_fact gone fact) && same_fact fact other) || rest) (has_fact-filter gone s other)
    ∙ two_ways (not (has_fact gone fact)) (same_fact fact other) (has_fact s other) (has_fact gone other) (λ e. ap (λ f. not (has_fact gone f)) ((same_fact-Decides fact other).0 e))

pub has_fact-changed : (added gone s : State) (other : Fact) → has_fact (added ++ filter (λ fact. not (has_fact gone fact)) s) other ≡ (has_fact added other || (has_fact s other && not (has_fact gone other)))
has_fact-changed added gone s other = list_any-append (λ fact. same_fact fact other) added (filter (λ fact. not (has_fact gone fact)) s) ∙ ap (λ rest. has_fact added other || rest) (has_fact-filter gone s other)

pub has_fact-next : (T : Task) (s : State) (env : Environment) (e : Effect) (fact : Fact) → has_fact (next T s env e) fact ≡ (has_fact (adds T s env e) fact || (has_fact s fact && not (has_fact (dels T s env e) fact)))
unfolding next
has_fact-next T s env e fact = has_fact-changed (adds T s env e) (dels T s env e) s fact
