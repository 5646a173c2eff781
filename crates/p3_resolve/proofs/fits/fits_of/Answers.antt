use Rattle.std.proofs.Common.{◌≡◌, ◌∙◌, ◌++◌, [], ◌∷◌, ap, map, sym, take}
use Rattle.std.proofs.lemmas.List.{map-append, take_more}
use Rattle.std.proofs.lemmas.List.Elements.{All-push}
use Rattle.p3_task.specs.Types.{names_of}
use Rattle.p3_resolve.specs.declared.fit.Fit.{Fit}
use Rattle.p3_resolve.specs.Numbers.{names_in}
use Rattle.p3_resolve.proofs.fits.fits_of.Goals as goal

pub loop-types-preserved : goal.loop-types-preserved
loop-types-preserved c = record {
  tasks = rw c.in_ok-push.ensures.items
      (All-push (λ (fit : Fit). fit.below.task.now ≡ c.args.kinds.now.task.now) c.loop-types.fits.items c.in_ok-fit.fit c.loop-types.invariant.tasks c.in_ok-fit.ensures.task);
  types =
      ap (map (λ (fit : Fit). names_of fit.below.types.now)) c.in_ok-push.ensures.items
      ∙ map-append (λ (fit : Fit). names_of fit.below.types.now) c.loop-types.fits.items (c.in_ok-fit.fit ∷ [])
      ∙ (λ i. c.loop-types.invariant.types i ++ names_of (c.in_ok-fit.ensures.types i) ∷ [])
      ∙ sym (map-append (λ types. names_of types.now) (take c.loop-types.types-index c.args.lists.now) (c.types-item.result ∷ []))
      ∙ ap names_in (sym (take_more c.args.lists.now c.loop-types.types-index c.types-item.result c.loop-types-test.true ∙ ap (λ one. take c.loop-types.types-index c.args.lists.now ++ one ∷ []) (sym c.types-item.is)));
}
