use Rattle.p3_tree.proofs.WorkedLines.{explained_plans, followed_plans, lines_of_texts}
use Rattle.p3_tree.proofs.printed.followed_cases.Goals as goal

pub returns : goal.returns
returns c = record {
  explained = explained_plans;
  followed = followed_plans;
  lines = lines_of_texts;
}
