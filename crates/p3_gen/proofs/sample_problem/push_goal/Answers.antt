use Rattle.std.proofs.Common.{append_assoc}
use Rattle.p3_gen.proofs.sample_problem.push_goal.Goals as goal

pub returns : goal.returns
returns c = rw (c.in_ok-push_str.ensures.bytes, c.in_ok-write.ensures.bytes) (simp append_assoc)
