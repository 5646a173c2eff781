-- A table of places: what may stand in a list after what it has so far.
use Rattle.std.specs.Prelude.{Bool, if◌then◌else◌, List, [], ◌∷◌, Option, Some, None}
use Rattle.p3_task.specs.Names.{Name}
use Rattle.p3_task.specs.Tokens.{Token}
use Rattle.p3_task.specs.PlanTexts.{Mark, Opens, Closes, Names, mark_of}
use Rattle.p3_task.specs.Grammar.Words.{◌>>=◌}

-- A state is what a list has so far. A word leads on or may not stand there; a list that opens begins in a state of its own;
-- some states may be closed; and a list that was closed in a state leads its outer list on.
pub record Table (S : Type 0) : Type 0 where
  pub on_word : S → Name → Option S
  pub on_open : S → Option S
  pub is_final : S → Bool
  pub after : S → S → S

-- a mark moves the open lists, the innermost of which stands first, or may not stand there
abbrev pub step : {S : Type 0} → Table S → List S → Mark → Option (List S)
step table (state ∷ outer) (Names text) = table.on_word state text >>= λ next. Some (next ∷ outer)
step table (state ∷ outer) Opens = table.on_open state >>= λ next. Some (next ∷ state ∷ outer)
step table (state ∷ above ∷ outer) Closes = if table.is_final state then Some (table.after above state ∷ outer) else None
step table _ mark = None

abbrev pub or_at : {S : Type 0} → Token → (List S → Option Token) → Option (List S) → Option Token
or_at token later None = Some token
or_at token later (Some next) = later next

-- the first token that may not stand where it does
unfoldable pub first_fault : {S : Type 0} → Table S → List S → List Token → Option Token
first_fault table stack [] = None
first_fault table stack (token ∷ tokens) = or_at token (λ next. first_fault table next tokens) (step table stack (mark_of token))
