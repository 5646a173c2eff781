use Rattle.std.proofs.Common.{◌∙◌, map, ap}
use Rattle.p3_reasons.specs.Effects.{with_truth}
use Rattle.p3_reasons.proofs.TruthLemmas.{plain, insert-plain}
use Rattle.p3_reasons.proofs.state_facts.StateFacts.note.Goals as goal

pub returns : goal.returns
returns c =
    ap (map (plain (λ words. words.items))) c.in_ok-insert.ensures.entries ∙ insert-plain (λ words. words.items) c.self.inside.truths.entries c.args.atom c.args.holds
    ∙ ap (λ truths. with_truth truths c.args.atom.items c.args.holds) c.self.view_is
