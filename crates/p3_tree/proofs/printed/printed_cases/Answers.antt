use Rattle.p3_tree.proofs.WorkedLines.{lines_of_tasks, lines_of_plans, samples_for_one_and_three, words_of_commands, lines_of_usage}
use Rattle.p3_tree.proofs.printed.printed_cases.Goals as goal

pub returns : goal.returns
returns c = record {
  tasks = lines_of_tasks;
  plans = lines_of_plans;
  samples = samples_for_one_and_three;
  commands = words_of_commands;
  usage = lines_of_usage;
}
