-- What is found in a whole domain and in a whole problem.
use Rattle.std.specs.Prelude.{[], ◌++◌, fold, flat_map, None}
use Rattle.p3_task.specs.Offences.{repeated, header_words, action_words, repeated_values, total_cost_with_parameters}
use Rattle.p3_task.specs.Uses.{domain_uses, problem_uses}
use Rattle.p3_task.specs.declared.task.Domain.{Domain}
use Rattle.p3_task.specs.declared.task.Problem.{Problem}
use Rattle.p3_task.specs.declared.task.Task.{Task}
use Rattle.p3_resolve.specs.Spots.{step, use_step}
use Rattle.p3_resolve.specs.declared.spot.FirstOffences.{FirstOffences}

-- what is found beside what its texts use
abbrev pub domain_start : Domain → FirstOffences
domain_start D = record {
  duplicate = fold step None (repeated (header_words D.predicates) ++ repeated (header_words D.functions) ++ repeated (action_words D.actions));
  unknown = None;
  miscount = fold step None (flat_map total_cost_with_parameters D.functions);
  clash = None;
}

abbrev pub problem_start : Problem → FirstOffences
problem_start P = record { duplicate = fold step None (repeated_values [] P.init); unknown = None; miscount = None; clash = None }

unfoldable pub domain_found : Task → FirstOffences
domain_found T = fold (use_step T) (domain_start T.domain) (domain_uses T.domain)

unfoldable pub problem_found : Task → FirstOffences
problem_found T = fold (use_step T) (problem_start T.problem) (problem_uses T.problem)
