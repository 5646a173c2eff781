-- The texts of a command, by what they are: those that it reads, and those that it makes.
use Rattle.std.specs.Prelude.{ℕ, List, []}
use Rattle.p3_base.specs.declared.refusal.Role.{Role}
use Rattle.p3_base.specs.declared.refusal.Role.TheVariants as role
use Rattle.p3_base.specs.declared.refusal.Side.{Side}
use Rattle.p3_base.specs.declared.refusal.Side.TheVariants.{Source, Written}
use Rattle.p3_task.specs.Refusals.First.{TaskTexts}
use Rattle.p3_tree.specs.Samples.{sample_domain, sample_plan, sample_problem}
use Rattle.p3_cli.specs.declared.texts.Made as code
use Rattle.p3_cli.specs.declared.texts.Texts.{Texts}

-- ---- what is read

-- the texts that were read; one that was not read is empty
pub record AllTexts : Type 0 where
  pub domain : List ℕ
  pub problem : List ℕ
  pub written_domain : List ℕ
  pub written_problem : List ℕ
  pub plan : List ℕ

-- the texts that the code has
abbrev pub all_texts : Texts → AllTexts
all_texts texts = record {
  domain = texts.domain.items;
  problem = texts.problem.items;
  written_domain = texts.written_domain.items;
  written_problem = texts.written_problem.items;
  plan = texts.plan.items;
}

abbrev pub no_texts : AllTexts
no_texts = record { domain = []; problem = []; written_domain = []; written_problem = []; plan = [] }

-- the texts with one more, of the file that a role names
abbrev pub with_text : Role → List ℕ → AllTexts → AllTexts
with_text role.Domain text texts = record texts { domain = text }
with_text role.Problem text texts = record texts { problem = text }
with_text role.WrittenDomain text texts = record texts { written_domain = text }
with_text role.WrittenProblem text texts = record texts { written_problem = text }
with_text role.Plan text texts = record texts { plan = text }

-- the text of the file that a role names
abbrev pub text_of : Role → AllTexts → List ℕ
text_of role.Domain texts = texts.domain
text_of role.Problem texts = texts.problem
text_of role.WrittenDomain texts = texts.written_domain
text_of role.WrittenProblem texts = texts.written_problem
text_of role.Plan texts = texts.plan

abbrev pub domain_of : Side → AllTexts → List ℕ
domain_of Source texts = texts.domain
domain_of Written texts = texts.written_domain

abbrev pub problem_of : Side → AllTexts → List ℕ
problem_of Source texts = texts.problem
problem_of Written texts = texts.written_problem

-- the texts of the task of a side
abbrev pub task_texts : Side → AllTexts → TaskTexts
task_texts side texts = record { side = side; domain = domain_of side texts; problem = problem_of side texts }

-- those of a sample
abbrev pub sample_texts : ℕ → AllTexts
sample_texts number = record no_texts { domain = sample_domain; problem = sample_problem number; plan = sample_plan number }

-- ---- what is made

-- the texts that are made, of a task on either side and of a plan; one that is not made is empty
pub record Made : Type 0 where
  pub domain : List ℕ
  pub problem : List ℕ
  pub plan : List ℕ

-- the texts that the code has made
abbrev pub all_made : code.Made → Made
all_made made = record { domain = made.domain.items; problem = made.problem.items; plan = made.plan.items }

-- the text for the file that a role names
abbrev pub made_of : Role → Made → List ℕ
made_of role.Domain made = made.domain
made_of role.Problem made = made.problem
made_of role.WrittenDomain made = made.domain
made_of role.WrittenProblem made = made.problem
made_of role.Plan made = made.plan
