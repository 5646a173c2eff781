-- The wide ones among some steps, one step after another.
use Rattle.std.proofs.Common.{◌≡◌, ◌∙◌, ℕ, ◌+◌, ◌<◌, Bool, cond, List, [], ◌∷◌, ◌++◌, length, map, take, get_or, sym, ap}
use Rattle.std.proofs.lemmas.List.{map-append, take_more}
use Rattle.std.proofs.lemmas.List.Elements.{filter-append}
use Rattle.p3_formula.specs.declared.task.GroundStep.{GroundStep}
use Rattle.p3_simulation.specs.Naming.{current_name, is_wide, wide_steps}
use Rattle.p3_compile.specs.Stepping.{current_names}

pub wide_one : (by_name : List ℕ) (step : GroundStep) (b : Bool) → is_wide by_name step ≡ b → wide_steps by_name (step ∷ []) ≡ cond b (step ∷ []) []
wide_one by_name step b e = ap (λ b. cond b (step ∷ []) []) e

module _ (steps : List GroundStep) (index : ℕ) (step : GroundStep) (within : index < length steps) (at : step ≡ get_or steps index step) where
  pub next_steps : take (index + 1) steps ≡ take index steps ++ step ∷ []
  next_steps = take_more steps index step within ∙ ap (λ one. take index steps ++ one ∷ []) (sym at)

  module _ (by_name : List ℕ) where
    pub wide_next : wide_steps by_name (take (index + 1) steps) ≡ wide_steps by_name (take index steps) ++ wide_steps by_name (step ∷ [])
    wide_next = ap (wide_steps by_name) next_steps ∙ filter-append (is_wide by_name) (take index steps) (step ∷ [])

    pub current_next : current_names by_name (take (index + 1) steps) ≡ current_names by_name (take index steps) ++ current_names by_name (step ∷ [])
    current_next = ap (map current_name) wide_next ∙ map-append current_name (wide_steps by_name (take index steps)) (wide_steps by_name (step ∷ []))
