-- The number of a step in the name of an action.
use Rattle.std.specs.Prelude.{◌≡◌, ◌≢◌, ℕ, ◌<◌, ◌^◌, ◌==◌, ◌||◌, Bool, List, [], ◌∷◌, ◌++◌, false, decimal, length, slice_index}
use Rattle.std.specs.List.{starts_with}
use Rattle.p3_base.specs.Copies.{is_action_of, is_copy_of, is_question_of}
use Rattle.p3_base.specs.Words.{Name}

-- the name is one of a copy of no step
abbrev pub IsNoCopy : Name → Type 0
IsNoCopy name = (number : ℕ) → number < 2 ^ 32 → is_copy_of number name ≡ false

-- it is one of a question or an end of no step
abbrev pub IsNoQuestion : Name → Type 0
IsNoQuestion name = (number : ℕ) → number < 2 ^ 32 → is_question_of number name ≡ false

-- the name is one of an action of no step
abbrev pub IsOfNoStep : Name → Type 0
IsOfNoStep name = (number : ℕ) → number < 2 ^ 32 → is_action_of number name ≡ false

-- the bytes begin with that number and the byte behind it
abbrev pub is_numbered : ℕ → ℕ → List ℕ → Bool
is_numbered mark number bytes = starts_with ◌==◌ bytes (decimal number ++ mark ∷ [])

-- with none
abbrev pub IsNotNumbered : ℕ → List ℕ → Type 0
IsNotNumbered mark bytes = (number : ℕ) → number < 2 ^ 32 → is_numbered mark number bytes ≡ false

-- with that number and a `y`, an `n` or an `e`
abbrev pub is_asked : ℕ → List ℕ → Bool
is_asked number bytes = is_numbered 121 number bytes || (is_numbered 110 number bytes || is_numbered 101 number bytes)

abbrev pub IsNotAsked : List ℕ → Type 0
IsNotAsked bytes = (number : ℕ) → number < 2 ^ 32 → is_asked number bytes ≡ false

-- a `+` stands in front, or a `0` that is not alone
abbrev pub is_padded : List ℕ → Bool
is_padded [] = false
is_padded (first ∷ []) = first == 43
is_padded (first ∷ second ∷ rest) = (first == 43) || (first == 48)

-- the first byte that is the mark stands at that place
pub record IsFirst (mark : ℕ) (bytes : List ℕ) (place : ℕ) : Type 0 where
  pub within : place < length bytes
  pub here : slice_index bytes place ≡ mark
  pub before : (k : ℕ) → k < place → slice_index bytes k ≢ mark

-- no number is written so
abbrev pub IsNoNumber : List ℕ → Type 0
IsNoNumber digits = (number : ℕ) → number < 2 ^ 32 → decimal number ≡ digits → ⊥
