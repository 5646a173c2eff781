-- The innermost of the lists that are open stands last in the code.
use Rattle.std.proofs.Common.{◌≡◌, ◌∙◌, refl, sym, ap, subst, ℕ, ◌+◌, Bool, true, false, List, [], ◌∷◌, ◌++◌, length, reverse, set, get_or, Some, arith}
use Rattle.std.proofs.lemmas.List.{length-append, reverse-append, reverse-reverse, set_at}
use Rattle.std.proofs.Math.Seq.{get_or-append_seam}
use Rattle.p3_task.specs.Grammar.Words.{◌>>=◌}
use Rattle.p3_places.specs.Walks.{only_if}
use Rattle.p3_places.specs.declared.state.State.{State}

-- what stands at the last place, and the lists around
pub record Innermost (items : List State) (place : ℕ) (default : State) : Type 0 where
  pub outer : List State
  pub is : reverse items ≡ get_or items place default ∷ outer
  pub changed : (state : State) → reverse (set items place state) ≡ state ∷ outer

back : (outer : List State) (state : State) → reverse (reverse outer ++ state ∷ []) ≡ state ∷ outer
back outer state = reverse-append (reverse outer) (state ∷ []) ∙ ap (λ states. state ∷ states) (reverse-reverse outer)

innermost_by : (stack : List State) (place : ℕ) (default : State) → place + 1 ≡ length (reverse stack) → Innermost (reverse stack) place default
innermost_by [] place default last = absurd (omega (arith, last))
innermost_by (state ∷ outer) place default last =
    let parts : reverse (state ∷ outer) ≡ reverse outer ++ state ∷ [] = reverse-append (state ∷ []) outer in
    let many : length (reverse outer) ≡ place = omega (arith, last, ap length parts, length-append (reverse outer) (state ∷ [])) in
    subst (λ items. Innermost items place default) (sym parts) (record {
      outer = outer;
      is = back outer state ∙ ap (λ first. first ∷ outer) (sym (ap (λ n. get_or (reverse outer ++ state ∷ []) n default) (sym many) ∙ get_or-append_seam (reverse outer) state [] default));
      changed = λ next. ap reverse (set_at (reverse outer) state [] next place many) ∙ back outer next;
    })

pub innermost : (items : List State) (place : ℕ) (default : State) → place + 1 ≡ length items → Innermost items place default
innermost items place default last =
    subst (λ l. Innermost l place default) (reverse-reverse items) (innermost_by (reverse items) place default (last ∙ ap length (sym (reverse-reverse items))))

-- what the innermost list comes to, if anything, is what all of them come to
pub only_on_top : (goes : Bool) (state : State) (outer : List State) → only_if goes (state ∷ outer) ≡ (only_if goes state >>= λ next. Some (next ∷ outer))
only_on_top true state outer = refl
only_on_top false state outer = refl
