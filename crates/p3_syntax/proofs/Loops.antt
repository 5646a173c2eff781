-- Loops over the parts of a list.
use Rattle.std.proofs.Common.{◌≡◌, ℕ, ◌+◌, ◌<◌, Bool, if◌then◌else◌, List, [], ◌∷◌, ◌++◌, length, get_or, drop, map, filter, Option, Some, None, refl, ap, ◌∙◌, append_assoc}
use Rattle.std.proofs.lemmas.List.{at_drop_more}
use Rattle.p3_task.specs.Grammar.Words.{◌>>=◌}

-- what was read before, and what is read after it
abbrev pub behind : {A : Type 0} → List A → Option (List A) → Option (List A)
behind front read = read >>= λ later. Some (front ++ later)

pub regrouped : {A : Type 0} (front : List A) (x : A) (read : Option (List A)) → behind front (read >>= λ later. Some (x ∷ later)) ≡ behind (front ++ x ∷ []) read
regrouped front x (Some later) = ap Some (simp append_assoc)
regrouped front x None = refl

module _ {A B : Type 0} (p : B → Bool) (view : A → B) (lists : List A) where
  -- the lists left begin with one that passes, or with one that does not
  pub one_more : (i : ℕ) (list : A) → i < length lists → get_or lists i list ≡ list
      → filter p (map view (drop i lists)) ≡ (if p (view list) then view list ∷ filter p (map view (drop (i + 1) lists)) else filter p (map view (drop (i + 1) lists)))
  one_more i list within is = at_drop_more (λ rest. filter p (map view rest)) lists i list within ∙ rw is refl
