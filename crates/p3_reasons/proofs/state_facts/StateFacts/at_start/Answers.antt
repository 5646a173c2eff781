use Rattle.std.proofs.Common.{◌∙◌, true, if◌then◌else◌, ap}
use Rattle.std.specs.Prelude.{bytes_eq}
use Rattle.p3_reasons.specs.Effects.{truth_of}
use Rattle.p3_reasons.proofs.TruthLemmas.{truth-with, start-more}
use Rattle.p3_reasons.proofs.state_facts.StateFacts.at_start.Goals as goal

pub loop-fact-preserved : goal.loop-fact-preserved
loop-fact-preserved c = λ atom.
    start-more c.items-start.result.now c.loop-fact.fact-index c.fact-item.result (truth_of c.loop-fact.facts) (truth_of c.note.new.self) atom c.loop-fact-test.true c.fact-item.is (c.loop-fact.invariant atom)
    (ap (λ truths. truth_of truths atom) c.in_ok-note.ensures ∙ truth-with c.loop-fact.facts c.in_ok-words.words.items true atom
    ∙ ap (λ words. if bytes_eq atom words then true else truth_of c.loop-fact.facts atom) c.in_ok-words.ensures)
