-- What is found in a text: its first refusal, or nothing.
use Rattle.std.specs.Prelude.{ℕ, List, Option, Some, None}
use Rattle.p3_base.specs.declared.refusal.Refusal.{Refusal}
use Rattle.p3_base.specs.declared.refusal.Role.{Role}
use Rattle.p3_base.specs.declared.refusal.Role.TheVariants as role
use Rattle.p3_base.specs.declared.refusal.Side.{Side}
use Rattle.p3_base.specs.declared.refusal.Side.TheVariants.{Source, Written}
use Rattle.p3_task.specs.Sides.{Half, InDomain, InProblem}
use Rattle.p3_task.specs.Grammar.Words.{IsText}
use Rattle.p3_task.specs.Grammar.Texts.{IsBalanced}
use Rattle.p3_task.specs.Grammar.Halves.{domain_place, problem_place}
use Rattle.p3_task.specs.Refusals.Malformed.{IsMalformed}
use Rattle.p3_task.specs.declared.expression.Expression.{Expression}
use Rattle.p3_task.specs.declared.task.Domain.{Domain}
use Rattle.p3_task.specs.declared.task.Problem.{Problem}

-- ---- the texts of tasks; a plan is none of them

abbrev pub side_of : Role → Side
side_of role.Domain = Source
side_of role.Problem = Source
side_of role.WrittenDomain = Written
side_of role.WrittenProblem = Written
side_of role.Plan = Source

abbrev pub half_of : Role → Half
half_of role.Domain = InDomain
half_of role.Problem = InProblem
half_of role.WrittenDomain = InDomain
half_of role.WrittenProblem = InProblem
half_of role.Plan = InProblem

-- ---- what is found

-- the grammar has a tree of the half for the expression
abbrev pub HasTree : Half → Expression → Type 0
HasTree InDomain e = (tree : Domain) × IsText domain_place e tree
HasTree InProblem e = (tree : Problem) × IsText problem_place e tree

-- Where nothing is found, a balanced text has a tree.
abbrev pub FindsIn : Side → Half → List ℕ → Option Refusal → Type 0
FindsIn side half text (Some refusal) = IsMalformed side half text refusal
FindsIn side half text None = (e : Expression) → IsBalanced text e → HasTree half e

abbrev pub Finds : Role → List ℕ → Option Refusal → Type 0
Finds role text found = FindsIn (side_of role) (half_of role) text found
