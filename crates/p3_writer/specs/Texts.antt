-- What it is that bytes are a text of a half of a task, but for where its parts stand in them.
use Rattle.std.specs.Prelude.{◌≡◌, ℕ, Bool, List, ◌++◌, IsTrue}
use Rattle.std.specs.List.{list_all}
use Rattle.p3_base.specs.Words.{Name, is_lowered, is_name, is_predicate_name}
use Rattle.p3_formula.specs.Targets.{IsSized, action_names}
use Rattle.p3_formula.specs.declared.form.Form.{Form}
use Rattle.p3_formula.specs.declared.target.Target.{Target}
use Rattle.p3_task.specs.Erased.{erased_domain, erased_problem}
use Rattle.p3_task.specs.Grammar.Halves.{domain_place, problem_place}
use Rattle.p3_task.specs.Grammar.Texts.{IsBalanced}
use Rattle.p3_task.specs.Grammar.Words.{IsText}
use Rattle.p3_task.specs.declared.expression.Expression.{Expression}
use Rattle.p3_task.specs.declared.task.Domain.{Domain}
use Rattle.p3_task.specs.declared.task.Problem.{Problem}

-- the names are made of lowered bytes of words
abbrev pub AreSpelled : List Name → Type 0
AreSpelled names = IsTrue (list_all (list_all is_lowered) names)

-- what is asked of a target so that the grammar reads its texts
pub record CanBeWritten (X : Target) : Type 0 where
  pub sized : IsSized X
  pub predicates : IsTrue (list_all is_predicate_name X.predicates)
  pub actions : IsTrue (list_all is_name (action_names X))
  pub spelled : AreSpelled (X.predicates ++ action_names X)

-- the target has these predicates, this initial state and this goal
pub record HasProblem (X : Target) (names : List Name) (bits : List Bool) (goal : Form) : Type 0 where
  pub predicates : X.predicates ≡ names
  pub initial : X.initial ≡ bits
  pub goal_is : X.goal ≡ goal

-- the grammar reads the bytes as a domain that differs from this one in offsets and in the lengths of numerals alone
pub record IsDomainTextOf (text : List ℕ) (domain : Domain) : Type 0 where
  pub expression : Expression
  pub read : Domain
  pub balanced : IsBalanced text expression
  pub is_text : IsText domain_place expression read
  pub same : erased_domain read ≡ erased_domain domain

-- so it does as a problem
pub record IsProblemTextOf (text : List ℕ) (problem : Problem) : Type 0 where
  pub expression : Expression
  pub read : Problem
  pub balanced : IsBalanced text expression
  pub is_text : IsText problem_place expression read
  pub same : erased_problem read ≡ erased_problem problem
