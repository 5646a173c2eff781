use Rattle.std.proofs.Common.{◌≡◌, [], ◌∷◌, not, refl, subst}
use Rattle.std.specs.Prelude.{fold}
use Rattle.p3_task.specs.Names.{has_name}
use Rattle.p3_task.specs.Offences.{unless}
use Rattle.p3_numbers.specs.Names.{Adds}
use Rattle.p3_numbers.proofs.NameLemmas.{adds-more}
use Rattle.p3_resolve.specs.Spots.{step}
use Rattle.p3_resolve.proofs.WalkLemmas.{repeated-more}
use Rattle.p3_resolve.proofs.notes.words_repeated.Goals as goal

pub loop-item-preserved : goal.loop-item-preserved
loop-item-preserved g c =
    let word = g.T.Worded.word_of in
    let seen = c.loop-item.seen in
    record {
      least = repeated-more word c.args.found _ _ c.args.items.now _ c.item-item.result seen _ c.loop-item-test.true c.item-item.is refl c.loop-item.invariant.seen c.loop-item.invariant.least
          (subst (λ told. c.in_ok-least.least ≡ fold step c.loop-item.least (unless (not (has_name seen told.name)) told)) c.word.ensures c.in_ok-least.ensures.least);
      seen = adds-more (λ item. (word item).name ∷ []) [] seen _ c.args.items.now c.loop-item.item-index c.item-item.result c.loop-item-test.true c.item-item.is c.loop-item.invariant.seen
          (subst (λ told. Adds seen (told.name ∷ []) c.word_noted.new.seen) c.word.ensures c.in_ok-least.ensures.seen);
    }
