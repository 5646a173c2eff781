-- Entries of the initial state, one more.
use Rattle.std.proofs.Common.{◌≡◌, ◌∙◌, ℕ, ◌+◌, ◌<◌, Option, Some, None, List, [], ◌∷◌, ◌++◌, length, take, get_or, refl, sym, ap}
use Rattle.std.specs.Prelude.{filter_map, fold}
use Rattle.p3_task.specs.Uses.{AtomUse, FunctionUse}
use Rattle.p3_task.specs.declared.effect.Numeral.{Numeral}
use Rattle.p3_task.specs.declared.task.Init.TheVariants as init
use Rattle.p3_task.specs.declared.task.Task.{Task}
use Rattle.p3_task.specs.declared.term.Ref.{Ref}
use Rattle.p3_task.specs.declared.term.Term.{Term}
use Rattle.p3_resolve.specs.Spots.{use_step}
use Rattle.p3_resolve.specs.Walk.{Walked, uses_of_entry, with_tree}
use Rattle.std.proofs.lemmas.List.{take_more, append-nil}
use Rattle.std.proofs.lemmas.List.Elements.{filter_map-append}

one_found : {A B : Type 0} (f : A → Option B) (x : A) → filter_map f (x ∷ []) ≡ filter_map (λ one. one) (f x ∷ [])
one_found f x = refl

pub found-more : {A B : Type 0} (f : A → Option B) (now next : List B) (xs : List A) (i : ℕ) (x : A) → i < length xs → x ≡ get_or xs i x → now ≡ filter_map f (take i xs)
    → next ≡ now ++ filter_map (λ one. one) (f x ∷ []) → next ≡ filter_map f (take (i + 1) xs)
found-more f now next xs i x within read so_far is =
    is ∙ (λ i. so_far i ++ sym (one_found f x) i) ∙ sym (filter_map-append f (take i xs) (x ∷ []))
    ∙ ap (filter_map f) (sym (take_more xs i x within ∙ ap (λ item. take i xs ++ item ∷ []) (sym read)))

pub ruleset start_laws = (found-more, append-nil)

-- ---- an entry outside all variables

module _ (T : Task) (walk : Walked) (outside : walk.scope ≡ []) where
  pub entry-True : (pred : Ref) (args : List Term) → with_tree T (uses_of_entry (init.True pred args)) walk ≡ with_tree T (λ scope. AtomUse pred args scope ∷ []) walk
  unfolding with_tree uses_of_entry
  entry-True pred args = λ i. record { words = walk.words; scope = walk.scope; found = fold (use_step T) walk.found (AtomUse pred args (sym outside i) ∷ []) }

  pub entry-False : (pred : Ref) (args : List Term) → with_tree T (uses_of_entry (init.False pred args)) walk ≡ with_tree T (λ scope. AtomUse pred args scope ∷ []) walk
  unfolding with_tree uses_of_entry
  entry-False pred args = λ i. record { words = walk.words; scope = walk.scope; found = fold (use_step T) walk.found (AtomUse pred args (sym outside i) ∷ []) }

  pub entry-Value : (function : Ref) (args : List Term) (number : Numeral) → with_tree T (uses_of_entry (init.Value function args number)) walk ≡ with_tree T (λ scope. FunctionUse function args scope ∷ []) walk
  unfolding with_tree uses_of_entry
  entry-Value function args number = λ i. record { words = walk.words; scope = walk.scope; found = fold (use_step T) walk.found (FunctionUse function args (sym outside i) ∷ []) }

pub ruleset entry_laws = (entry-True, entry-False, entry-Value, append-nil)
