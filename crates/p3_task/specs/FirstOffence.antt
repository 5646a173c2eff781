-- The first offence of a task that is not well-formed: the kinds in order, each in the domain and then in the problem, and there the word of least offset.
use Rattle.std.specs.Prelude.{nat_lt, List, [], ◌∷◌, fold, if◌then◌else◌, Option, Some, None, option_map}
use Rattle.p3_base.specs.declared.refusal.Code.{Code}
use Rattle.p3_base.specs.declared.refusal.Code.TheVariants.{Duplicate, Unknown, Arity, TypeClash}
use Rattle.p3_task.specs.Refusals.Places.{first_some}
pub use Rattle.p3_task.specs.Sides.{Half, InDomain, InProblem}
use Rattle.p3_task.specs.Offences.{domain_duplicates, problem_duplicates, domain_unknowns, problem_unknowns, domain_miscounts, problem_miscounts, domain_clashes, problem_clashes}
use Rattle.p3_task.specs.declared.term.Ref.{Ref}
use Rattle.p3_task.specs.declared.task.Task.{Task}

pub record Offence : Type 0 where
  pub code : Code
  pub half : Half
  pub word : Ref

-- the word of least offset
abbrev pub least_word : List Ref → Option Ref
least_word [] = None
least_word (word ∷ words) = Some (fold (λ least other. if nat_lt other.at least.at then other else least) word words)

abbrev pub offence : Code → Half → List Ref → Option Offence
offence code half words = option_map (λ word. record { code = code; half = half; word = word }) (least_word words)

unfoldable pub first_offence : Task → Option Offence
first_offence T = first_some (
    offence Duplicate InDomain (domain_duplicates T.domain) ∷ offence Duplicate InProblem (problem_duplicates T.problem)
    ∷ offence Unknown InDomain (domain_unknowns T) ∷ offence Unknown InProblem (problem_unknowns T)
    ∷ offence Arity InDomain (domain_miscounts T) ∷ offence Arity InProblem (problem_miscounts T)
    ∷ offence TypeClash InDomain (domain_clashes T) ∷ offence TypeClash InProblem (problem_clashes T) ∷ [])
