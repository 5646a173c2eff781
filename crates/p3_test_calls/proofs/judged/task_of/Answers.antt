use Rattle.std.proofs.Common.{ℕ, List, inl, inr}
use Rattle.p3_base.specs.declared.refusal.Side.TheVariants.{Source}
use Rattle.p3_task.specs.Refusals.First.{AreReadable, HalfText, IsReadable, halves}
use Rattle.p3_task.specs.Sides.{InDomain, InProblem}
use Rattle.p3_test_calls.proofs.judged.task_of.Goals as goal

are_readable : (d p : List ℕ) → IsReadable (HalfText Source InDomain d) → IsReadable (HalfText Source InProblem p) → AreReadable (halves (record { side = Source; domain = d; problem = p }))
are_readable d p one other refusal (inl shown) = one refusal shown
are_readable d p one other refusal (inr (before, inl shown)) = other refusal shown
are_readable d p one other refusal (inr (before, inr (also, none))) = none

pub check-requires : goal.check-requires
check-requires c =
    let half = c.in-Ok.ensures.text in
    let other = c.in-Ok-read_problem.ensures.text in
    record {
      texts = record {
        domain = c.args.domain.now;
        problem = c.args.problem.now;
        short_domain = c.requires.domain;
        short_problem = c.requires.problem;
        readable = are_readable c.args.domain.now c.args.problem.now c.in-Ok.ensures.readable c.in-Ok-read_problem.ensures.readable;
        reads = record {
          domain = half.expression;
          problem = other.expression;
          domain_balanced = half.balanced;
          problem_balanced = other.balanced;
          texts = record { domain = half.reads; problem = other.reads };
        };
      };
    }
