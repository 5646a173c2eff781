use Rattle.std.proofs.Common.{[], arith}
use Rattle.p3_accounts.specs.Vocabularies.{vocabulary}
use Rattle.p3_reports.proofs.PutLemmas.{on_err}
use Rattle.p3_meanings.specs.Atoms.{atom_said}
use Rattle.p3_meanings.proofs.SaidLemmas.{line_partly_put, line_put}
use Rattle.p3_meanings.proofs.atoms.put_atoms.Goals as goal

pub returns-in_err-put_atom-clause-partly : goal.returns-in_err-put_atom-clause-partly
returns-in_err-put_atom-clause-partly g c =
    on_err c.from_residual.result
    (line_partly_put (vocabulary c.args.telling.now.terms.now) (atom_said c.args.telling.now.terms.now.numbers.now) c.args.atoms.now c.loop-number.number [] _ _ _ (omega arith) c.loop-number.invariant.put c.in_err-put_atom.ensures.partly)

pub loop-number-preserved : goal.loop-number-preserved
loop-number-preserved g c = record {
  put =
      line_put (vocabulary c.args.telling.now.terms.now) (atom_said c.args.telling.now.terms.now.numbers.now) c.args.atoms.now c.loop-number.number [] _ _ _ (omega arith) c.loop-number.invariant.put c.in_ok-put_atom.ensures.ok;
  faults_grow = omega (arith, c.loop-number.invariant.faults_grow, c.put_atom.ensures.faults_grow);
}
