use Rattle.std.proofs.Common.{◌≡◌, ℕ, List, subst}
use Rattle.std.specs.Prelude.{IfOk, Result}
use Rattle.std.proofs.lemmas.Result.{IfOk-weaker}
use Rattle.p3_base.specs.declared.error.NoMemory.{NoMemory}
use Rattle.p3_formula.specs.declared.form.Form.{Form}
use Rattle.p3_endphase.specs.Ends.{IsEndPhase}
use Rattle.p3_endphase.specs.declared.phase.EndPhase.{EndPhase}
use Rattle.p3_endphase.specs.declared.phase.SoftEnd.{SoftEnd}
use Rattle.p3_endphase.proofs.EndLemmas as ends
use Rattle.p3_endphase.proofs.WholeLemmas.{every_guard, every_forward, every_atom, every_tidy}
use Rattle.p3_endphase.proofs.phase.end_phase.Goals as goal

-- the form that is taken is the one that is given
shape : (first : ℕ) (taken given : Form) (instances : List SoftEnd) (result : Result EndPhase NoMemory) → taken ≡ given → IfOk result (IsEndPhase taken instances first) → IfOk result (IsEndPhase given instances first)
shape first taken given instances result same = subst (λ finish. IfOk result (IsEndPhase finish instances first)) same

pub returns-clause-actions : goal.returns-clause-actions
returns-clause-actions c = shape c.args.first_atom c.in_ok-finish.finish c.args.finish.now c.args.instances.now c.end_phase_taking.result c.in_ok-finish.ensures c.end_phase_taking.ensures

pub returns-clause-one_end : goal.returns-clause-one_end
returns-clause-one_end c = IfOk-weaker c.end_phase_taking.result _ _ (λ phase shape. ends.one_end c.args.finish.now c.args.instances.now c.args.first_atom phase shape c.requires.accept) (shape c.args.first_atom c.in_ok-finish.finish c.args.finish.now c.args.instances.now c.end_phase_taking.result c.in_ok-finish.ensures c.end_phase_taking.ensures)

pub returns-clause-no_end : goal.returns-clause-no_end
returns-clause-no_end c = IfOk-weaker c.end_phase_taking.result _ _ (λ phase shape. ends.no_end c.args.finish.now c.args.instances.now c.args.first_atom phase shape) (shape c.args.first_atom c.in_ok-finish.finish c.args.finish.now c.args.instances.now c.end_phase_taking.result c.in_ok-finish.ensures c.end_phase_taking.ensures)

pub returns-clause-one_fits : goal.returns-clause-one_fits
returns-clause-one_fits c = IfOk-weaker c.end_phase_taking.result _ _ (λ phase shape state place single. ends.one_fits c.args.finish.now c.args.instances.now c.args.first_atom phase shape place state single) (shape c.args.first_atom c.in_ok-finish.finish c.args.finish.now c.args.instances.now c.end_phase_taking.result c.in_ok-finish.ensures c.end_phase_taking.ensures)

pub returns-clause-moves_on : goal.returns-clause-moves_on
returns-clause-moves_on c = IfOk-weaker c.end_phase_taking.result _ _ (λ phase shape state place single. ends.moves_on c.args.finish.now c.args.instances.now c.args.first_atom phase shape place state single) (shape c.args.first_atom c.in_ok-finish.finish c.args.finish.now c.args.instances.now c.end_phase_taking.result c.in_ok-finish.ensures c.end_phase_taking.ensures)

pub returns-clause-guarded : goal.returns-clause-guarded
returns-clause-guarded c = IfOk-weaker c.end_phase_taking.result _ _ (λ phase shape. every_guard c.args.finish.now c.args.instances.now c.args.first_atom phase shape) (shape c.args.first_atom c.in_ok-finish.finish c.args.finish.now c.args.instances.now c.end_phase_taking.result c.in_ok-finish.ensures c.end_phase_taking.ensures)

pub returns-clause-changes : goal.returns-clause-changes
returns-clause-changes c = IfOk-weaker c.end_phase_taking.result _ _ (λ phase shape. every_forward c.args.finish.now c.args.instances.now c.args.first_atom phase shape) (shape c.args.first_atom c.in_ok-finish.finish c.args.finish.now c.args.instances.now c.end_phase_taking.result c.in_ok-finish.ensures c.end_phase_taking.ensures)

pub returns-clause-atoms : goal.returns-clause-atoms
returns-clause-atoms c = IfOk-weaker c.end_phase_taking.result _ _ (λ phase shape. every_atom c.args.finish.now c.args.instances.now c.args.first_atom phase shape) (shape c.args.first_atom c.in_ok-finish.finish c.args.finish.now c.args.instances.now c.end_phase_taking.result c.in_ok-finish.ensures c.end_phase_taking.ensures)

pub returns-clause-tidy : goal.returns-clause-tidy
returns-clause-tidy c = IfOk-weaker c.end_phase_taking.result _ _ (λ phase shape. every_tidy c.args.finish.now c.args.instances.now c.args.first_atom phase shape) (shape c.args.first_atom c.in_ok-finish.finish c.args.finish.now c.args.instances.now c.end_phase_taking.result c.in_ok-finish.ensures c.end_phase_taking.ensures)
