use Rattle.p3_inapplicable.proofs.ArgumentLemmas.{faulty-where-no-arguments}
use Rattle.p3_inapplicable.proofs.ValueLemmas.{missing-where-no-cost}
use Rattle.p3_inapplicable.proofs.laws.what_is_wrong_has_a_fault.Goals as goal

pub returns : goal.returns
returns c = record { arguments = faulty-where-no-arguments; values = missing-where-no-cost }
