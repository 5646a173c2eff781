-- What a well-formed task knows of the names that it uses.
use Rattle.std.specs.Prelude.{◌≡◌, [], Contains}
use Rattle.p3_task.specs.Uses.{Use, domain_uses, problem_uses}
use Rattle.p3_task.specs.Offences.{repeated_variables, unknown_words, miscounted, clashing}
use Rattle.p3_task.specs.declared.task.Task.{Task}

-- each name is declared, each atom, value and cost has as many arguments as its declaration, and these fit
pub record IsKnown (T : Task) (use_of : Use) : Type 0 where
  pub once : repeated_variables use_of ≡ []
  pub declared : unknown_words T use_of ≡ []
  pub counted : miscounted T use_of ≡ []
  pub fitting : clashing T use_of ≡ []

pub record KnowsUses (T : Task) : Type 0 where
  pub domain : (use_of : Use) → Contains (domain_uses T.domain) use_of → IsKnown T use_of
  pub problem : (use_of : Use) → Contains (problem_uses T.problem) use_of → IsKnown T use_of
