use Rattle.std.proofs.Common.{◌+◌, sym, ap, subst, arith}
use Rattle.p3_formula.specs.declared.form.Form.TheVariants.{Atom}
use Rattle.p3_endphase.specs.Ends.{AreActions}
use Rattle.p3_endphase.proofs.ActionLemmas.{actions_behind}
use Rattle.p3_endphase.proofs.phase.end_phase_taking.Goals as goal

pub returns : goal.returns
returns c =
    let settling = c.in_ok-push_settling.ensures in
    record {
      count = ap (λ n. n + 2) c.len.ensures;
      settles = subst (AreActions c.args.first_atom c.args.finish c.args.instances.now) (sym settling.are) (actions_behind c.args.first_atom c.args.finish c.args.instances.now c.in_ok-actions.actions settling.settling c.in_ok-actions.ensures settling.settles);
      reached = let count = c.len-2.ensures in ap Atom (omega (arith, count));
    }
