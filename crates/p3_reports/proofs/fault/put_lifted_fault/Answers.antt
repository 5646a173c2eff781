use Rattle.std.specs.Prelude.{codes}
use Rattle.std.proofs.lemmas.Result.{on_err_weaker}
use Rattle.p3_tree.specs.Reports.Plans.{fault_line}
use Rattle.p3_reports.specs.Faults.{fault_of}
use Rattle.p3_reports.proofs.PutLemmas.{on_err, partly_first, partly_second}
use Rattle.p3_reports.proofs.fault.put_lifted_fault.Goals as goal

pub returns-in_err-put_pieces-clause-partly : goal.returns-in_err-put_pieces-clause-partly
returns-in_err-put_pieces-clause-partly g c =
    on_err c.from_residual.result (partly_first (codes "refused 20 mismatch: ") (fault_line (fault_of c.args.fault)) _ _ c.in_err-put_pieces.ensures.partly)

pub returns-clause-partly : goal.returns-clause-partly
returns-clause-partly g c =
    on_err_weaker c.put_fault.result (partly_second (codes "refused 20 mismatch: ") (fault_line (fault_of c.args.fault)) _ _ _ c.in_ok-put_pieces.ensures.ok) c.put_fault.ensures.partly
