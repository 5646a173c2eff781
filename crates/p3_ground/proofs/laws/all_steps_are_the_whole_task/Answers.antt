use Rattle.p3_ground.proofs.Asked.{stands_for_all, stands_for_each}
use Rattle.p3_ground.proofs.laws.all_steps_are_the_whole_task.Goals as goal

pub returns : goal.returns
returns c = record {
  exactly = λ T G. (λ stands. stands_for_each T G stands _, stands_for_all T G);
  any = λ T G numbers stands. stands_for_each T G stands numbers;
}
