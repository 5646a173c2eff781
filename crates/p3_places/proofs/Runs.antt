-- Walks over marks and over expressions by a table, and tables of which each state can be completed.
use Rattle.std.specs.Prelude.{◌≡◌, Bool, true, IsTrue, if◌then◌else◌, List, [], ◌∷◌, Option, Some, None}
use Rattle.std.specs.List.{list_all}
use Rattle.p3_task.specs.Names.{Name}
use Rattle.p3_task.specs.PlanTexts.{Mark}
use Rattle.p3_task.specs.Grammar.Words.{◌>>=◌}
use Rattle.p3_task.specs.declared.expression.Expression.{Expression, Group', Row_of-Expression, end_of-Expression, more_of-Expression}
use Rattle.p3_task.specs.declared.expression.Expression.TheVariants as expression
use Rattle.p3_lexer.proofs.MarkLemmas.{is_lexed}
use Rattle.p3_places.specs.Machine.{Table, step}

unfoldable pub steps : {S : Type 0} → Table S → List S → List Mark → Option (List S)
steps table stack [] = Some stack
steps table stack (mark ∷ marks) = step table stack mark >>= λ next. steps table next marks

unfoldable mutual
  pub run : {S : Type 0} → Table S → S → Expression → Option S
  run table state (expression.Word at text) = table.on_word state text
  run table state (Group' at shape parts) =
      table.on_open state >>= λ first. run_row table first parts >>= λ last. if table.is_final last then Some (table.after state last) else None

  pub run_row : {S : Type 0} {shape : _} → Table S → S → Row_of-Expression shape → Option S
  run_row table state end_of-Expression = Some state
  run_row table state (more_of-Expression part parts) = run table state part >>= λ next. run_row table next parts

-- ---- a table of which each state can be completed

abbrev pub ends_in_final : {S : Type 0} → Table S → List S → Option (List S) → Type 0
ends_in_final table outer None = ⊥
ends_in_final table outer (Some []) = ⊥
ends_in_final table outer (Some (last ∷ others)) = IsTrue (table.is_final last) × (others ≡ outer)

-- Some states cannot be reached. From each live state some marks lead to a state that may be closed.
pub record IsComplete {S : Type 0} (table : Table S) : Type 0 where
  pub is_live : S → Bool
  pub finish : S → List Mark
  pub finish_words : (state : S) → list_all is_lexed (finish state) ≡ true
  pub finishes : (state : S) (outer : List S) → IsTrue (is_live state) → ends_in_final table outer (steps table (state ∷ outer) (finish state))
  pub word_live : (state next : S) (text : Name) → IsTrue (is_live state) → table.on_word state text ≡ Some next → IsTrue (is_live next)
  pub open_live : (state next : S) → IsTrue (is_live state) → table.on_open state ≡ Some next → IsTrue (is_live next)
  pub after_live : (above state : S) → IsTrue (is_live above) → IsTrue (is_live state) → IsTrue (is_live (table.after above state))
