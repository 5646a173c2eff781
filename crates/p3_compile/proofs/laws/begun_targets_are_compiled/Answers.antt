use Rattle.p3_compile.proofs.AssembledLaws.{assembled_is, end_actions, made, tidy_target}
use Rattle.p3_compile.proofs.LeanLaws.{lean_target}
use Rattle.p3_compile.proofs.laws.begun_targets_are_compiled.Goals as goal

pub returns : goal.returns
returns c = λ G weights begun actions ends ready is steps are. record {
  compiled = c.assembled_targets_are_compiled.ensures G weights _ (made G weights begun is actions ends steps are) ready (assembled_is G weights begun is actions ends steps are ready);
  tidy = tidy_target G weights begun is actions ends steps are;
  assembled = (made G weights begun is actions ends steps are, assembled_is G weights begun is actions ends steps are ready);
  lean = lean_target G weights begun.frame ready.numbers is.steps is.frame_is begun actions ends is.ends.finish begun.instances steps.lean (end_actions G weights begun is ends are);
}
