use Rattle.p3_ground.proofs.Asked.{all_are_asked, kept_are_asked, those_are_asked}
use Rattle.p3_ground.proofs.laws.steps_that_were_done_are_asked.Goals as goal

pub returns : goal.returns
returns c = record {
  all = λ T G stands plan numbers are. all_are_asked T G stands.left_out plan numbers are;
  those = λ T G plan numbers stands are. those_are_asked T G plan numbers stands.1 are;
  done = kept_are_asked;
}
