-- Sections by their keywords.
use Rattle.std.proofs.Common.{◌≡◌, refl, Bool, true, false, if◌then◌else◌, List, [], ◌∷◌, Option, Some, None, arith}
use Rattle.std.specs.List.{list_all}
use Rattle.std.specs.Prelude.{IsSome}
use Rattle.p3_task.specs.Names.{Name, has_name}
use Rattle.p3_task.specs.Grammar.Words.{◌>>=◌, expressions, only}
use Rattle.p3_task.specs.Grammar.Halves.{Section, at_most_one, half_at, sections_among}
use Rattle.p3_task.specs.Grammar.Halves as halves
use Rattle.p3_task.specs.declared.expression.Expression.{Expression, Group'}
use Rattle.p3_task.specs.declared.expression.Expression.TheVariants as expression
use Rattle.p3_syntax.specs.Sections.{half_in, half_place}

abbrev needed : Option Section → Option Section
needed section = section

pub only_of : (sections : List Section) → only sections ≡ at_most_one sections >>= needed
only_of [] = refl
only_of (section ∷ []) = refl
only_of (section ∷ other ∷ sections) = refl

-- where the keywords pass, they need not be looked at
pub among_known : {A : Type 0} (keywords : List Name) (read : Option (List Section)) (next : List Section → Option A) → IsSome ((read >>= sections_among keywords) >>= next)
    → ((read >>= sections_among keywords) >>= next) ≡ read >>= next
among_known keywords None next has = refl
among_known keywords (Some sections) next has = by (list_all (λ section. has_name keywords section.word.name) sections) has
  where
    by : (b : Bool) → IsSome ((if b then Some sections else None) >>= next) → ((if b then Some sections else None) >>= next) ≡ next sections
    by true has = refl
    by false has = absurd cc

-- nor need the words of a half
module _ (kind : Name) (keywords : List Name) where
  in_known : (es : List Expression) → IsSome (halves.half_in kind keywords es) → halves.half_in kind keywords es ≡ half_in es
  in_known [] has = refl
  in_known (word ∷ []) has = refl
  in_known (word ∷ title ∷ behind) has = grind arith

  pub half_known : (e : Expression) → IsSome (half_at kind keywords e) → half_at kind keywords e ≡ half_place e
  half_known (expression.Word at text) has = refl
  half_known (Group' at shape parts) has = in_known (expressions parts) has
