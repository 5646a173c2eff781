use Rattle.std.proofs.Common.{◌∙◌, ◌++◌, ◌∷◌, [], false, sym, ap}
use Rattle.std.specs.Prelude.{flat_map}
use Rattle.p3_reasons.specs.Gathering.{atoms_of, outcome_of}
use Rattle.p3_reasons.proofs.GatheringLemmas.{atoms-All, neither-joined}
use Rattle.p3_reasons.proofs.gathered.neither.Goals as goal

pub returns : goal.returns
returns c =
    (λ i. record {
      holds = false;
      atoms =
          (atoms-All c.push-2.new.self
          ∙ ap (flat_map atoms_of) (c.in_ok-push-2.ensures.ok ∙ ap (λ items. items ++ c.args.second.atoms ∷ []) (c.in_ok-push.ensures.ok ∙ ap (λ items. items ++ c.args.first.atoms ∷ []) c.new-all.ensures))) i;
    })
    ∙ sym (neither-joined (outcome_of c.args.first) (outcome_of c.args.second) c.requires.first c.requires.second)
