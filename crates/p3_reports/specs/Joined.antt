-- The texts of several things, one behind another.
use Rattle.std.specs.Prelude.{ℕ, List, [], ◌++◌}
use Rattle.std.specs.List.{fold}

abbrev pub joined : {A : Type 0} → (A → List ℕ) → List A → List ℕ
joined text things = fold (λ before thing. before ++ text thing) [] things
