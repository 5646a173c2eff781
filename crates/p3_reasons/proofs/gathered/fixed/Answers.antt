use Rattle.std.proofs.Common.{◌∙◌, ap}
use Rattle.std.specs.Prelude.{flat_map}
use Rattle.p3_reasons.specs.Gathering.{atoms_of}
use Rattle.p3_reasons.proofs.GatheringLemmas.{atoms-All}
use Rattle.p3_reasons.proofs.gathered.fixed.Goals as goal

pub returns : goal.returns
returns c = λ i. record { holds = c.args.holds; atoms = (atoms-All c.new.result ∙ ap (flat_map atoms_of) c.new.ensures) i }
