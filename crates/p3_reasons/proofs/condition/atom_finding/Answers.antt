use Rattle.std.proofs.Common.{◌∙◌, ◌∷◌, [], sym, ap}
use Rattle.p3_reasons.proofs.GatheringLemmas.{atoms-One}
use Rattle.p3_reasons.proofs.OutcomeLemmas.{outcome-Atom}
use Rattle.p3_reasons.proofs.condition.atom_finding.Goals as goal

pub returns : goal.returns
returns g c =
    (λ i. record {
      holds = (c.has-holds.ensures ∙ ap (g.F.Facts.has_atom c.args.facts.now) (c.as_slice.ensures.value ∙ c.in_ok-spell.ensures)) i;
      atoms = (atoms-One c.from.result ∙ ap (λ atom. atom ∷ []) (c.from.ensures ∙ c.in_ok-spell.ensures)) i;
    })
    ∙ sym (outcome-Atom c.args.numbers.now (g.F.Facts.has_atom c.args.facts.now) c.args.slots.now c.args.predicate c.args.args.now)
