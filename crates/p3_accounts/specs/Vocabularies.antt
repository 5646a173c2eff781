-- What the numbers of an account stand for, without references.
use Rattle.std.specs.Prelude.{ℕ, List}
use Rattle.p3_numbers.specs.declared.numbers.Numbers.{Numbers}
use Rattle.p3_reasons.specs.declared.visited.PlacedStep.{PlacedStep}
use Rattle.p3_task.specs.declared.task.Action.{Action}
use Rattle.p3_accounts.specs.declared.terms.InputFile.{InputFile}
use Rattle.p3_accounts.specs.declared.terms.InputFile.TheVariants.{Domain, Problem, Plan}
use Rattle.p3_accounts.specs.declared.terms.Terms.{Terms}

pub record Vocabulary : Type 0 where
  -- the names of the files as they were given
  pub domain : List ℕ
  pub problem : List ℕ
  pub plan : List ℕ
  -- the actions by their places, and all else that has a number
  pub actions : List Action
  pub numbers : Numbers
  -- the steps of the plan, the first of them number 1
  pub steps : List PlacedStep

abbrev pub vocabulary : Terms → Vocabulary
vocabulary terms = record {
  domain = terms.domain.now;
  problem = terms.problem.now;
  plan = terms.plan.now;
  actions = terms.actions.now;
  numbers = terms.numbers.now;
  steps = terms.steps.now;
}

abbrev pub file_name : Vocabulary → InputFile → List ℕ
file_name V Domain = V.domain
file_name V Problem = V.problem
file_name V Plan = V.plan
