use Rattle.std.proofs.Common.{◌∙◌, ◌++◌, ◌∷◌, [], map, take, sym, ap, arith}
use Rattle.p3_reasons.specs.Outcomes.{literal_of}
use Rattle.p3_reasons.proofs.GatheringLemmas.{become-more}
use Rattle.p3_reasons.proofs.decision.literals.Goals as goal
use Rattle.p3_reasons.proofs.decision.literals.Goals.{in-Some+in_ok-said-in-Some+in_ok-push-in-Some, in-None}

pub loop-number-preserved : goal.loop-number-preserved
loop-number-preserved g c =
    let said = literal_of (g.F.Facts.has_atom c.args.facts.now) in
    elim c.match-get.branch [
      | in-Some+in_ok-said-in-Some+in_ok-push-in-Some w ↦
          w.list-is ∙ w.in_ok-push-in-Some.ensures.ok
          ∙ ap (λ items. items ++ w.in_ok-said-in-Some.field-0 ∷ []) c.loop-number.invariant
          ∙ ap (λ literal. map said (take c.loop-number.number c.args.atoms.now) ++ literal ∷ []) w.in_ok-said-in-Some.ensures
          ∙ sym (become-more said c.args.atoms.now c.loop-number.number w.in-Some.atom.now w.in-Some.ensures.stored)
      | in-None w ↦ absurd (omega (arith, w.in-None.ensures.none, c.len-number-end.ensures.value))
    ]
