use Rattle.p3_tree.proofs.WorkedLines.{refused_texts, refused_names, refused_tasks, not_refused, conditions_of_steps}
use Rattle.p3_tree.proofs.printed.refused_cases.Goals as goal

pub returns : goal.returns
returns c = record {
  texts = refused_texts;
  names = refused_names;
  tasks = refused_tasks;
  limits = not_refused;
  conditions = conditions_of_steps;
}
