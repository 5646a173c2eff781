use Rattle.std.proofs.Common.{◌∙◌, Bool, ◌&&◌, if◌then◌else◌, sym, ap}
use Rattle.std.specs.Prelude.{bytes_eq}
use Rattle.p3_reasons.specs.Effects.{truth_of}
use Rattle.p3_reasons.proofs.TruthLemmas.{truth-with, noted-more, says-same}
use Rattle.p3_reasons.proofs.state_facts.StateFacts.note_all.Goals as goal
use Rattle.p3_reasons.proofs.state_facts.StateFacts.note_all.Goals.{then-is_so+in_ok-atom+in_ok-note, else-is_so}

pub loop-literal-preserved : goal.loop-literal-preserved
loop-literal-preserved c =
    let literal = c.literal-item.result in
    λ atom. noted-more c.args.holds (truth_of c.args.self.now) (truth_of c.loop-literal.self) (truth_of c.if-is_so.self) c.args.literals.now c.loop-literal.literal-index literal atom c.loop-literal-test.true c.literal-item.is
    (c.loop-literal.invariant atom)
    (elim c.if-is_so.branch [
      | then-is_so+in_ok-atom+in_ok-note w ↦
          ap (λ truths. truth_of truths atom) (w.self-is ∙ w.in_ok-note.ensures) ∙ truth-with c.loop-literal.self w.in_ok-atom.atom.items c.args.holds atom
          ∙ ap (λ (one : Bool). if one then c.args.holds else truth_of c.loop-literal.self atom)
          (ap (bytes_eq atom) (w.in_ok-atom.ensures.items ∙ w.items.ensures) ∙ ap (λ one. one && bytes_eq atom literal.atom) (sym w.if-is_so.true) ∙ says-same c.args.holds c.is_so.result atom literal c.is_so.ensures)
      | else-is_so w ↦
          ap (λ truths. truth_of truths atom) w.self-is
          ∙ ap (λ (one : Bool). if one then c.args.holds else truth_of c.loop-literal.self atom) (ap (λ one. one && bytes_eq atom literal.atom) (sym w.if-is_so.false) ∙ says-same c.args.holds c.is_so.result atom literal c.is_so.ensures)
    ])
