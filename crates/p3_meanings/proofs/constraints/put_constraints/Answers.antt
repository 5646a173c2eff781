use Rattle.std.proofs.Common.{◌++◌, subst}
use Rattle.p3_base.specs.Outside.{IsPartlyPut}
use Rattle.p3_meanings.proofs.constraints.put_constraints.Goals as goal

pub returns-in-Ok-clause-partly : goal.returns-in-Ok-clause-partly
returns-in-Ok-clause-partly g c =
    subst (λ text. IsPartlyPut text (g.S.Sink.seen c.args.out.now).written (g.S.Sink.seen c.put_both.new.out).written) (λ i. c.in-Ok.ensures.monitors i ++ c.in-Ok.ensures.chain i) c.in-Err-put_both.ensures.partly
