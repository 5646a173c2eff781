-- Where a refusal stands.
use Rattle.std.specs.Prelude.{ℕ, List, [], ◌∷◌, length, Option, None}
use Rattle.std.specs.Option.{option_or}
use Rattle.p3_base.specs.declared.refusal.Code.{Code}
use Rattle.p3_base.specs.declared.refusal.Refusal.{Refusal}
use Rattle.p3_base.specs.declared.refusal.Role.{Role}
use Rattle.p3_task.specs.Tokens.{Token, Open, Close, Word}
use Rattle.p3_task.specs.declared.term.Ref.{Ref}

-- the word at fault has so many bytes, and none at the text's end
abbrev pub refusal_at : Code → Role → ℕ → ℕ → Refusal
refusal_at code role at len = record { code = code; pos = record { role = role; offset = at }; len = len }

abbrev pub refusal_at_word : Code → Role → Ref → Refusal
refusal_at_word code role word = refusal_at code role word.at (length word.name)

abbrev pub refusal_at_token : Code → Role → Token → Refusal
refusal_at_token code role (Open at) = refusal_at code role at 1
refusal_at_token code role (Close at) = refusal_at code role at 1
refusal_at_token code role (Word at text) = refusal_at code role at (length text)

-- a word of the grammar that the tree keeps by its offset alone
abbrev pub word_at : List ℕ → ℕ → Ref
word_at text at = record { name = text; at = at }

-- the first of them that is there
abbrev pub first_some : {A : Type 0} → List (Option A) → Option A
first_some [] = None
first_some (first ∷ others) = option_or first (first_some others)
