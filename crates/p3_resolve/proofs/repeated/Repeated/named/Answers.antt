use Rattle.std.proofs.Common.{◌<◌, [], ◌∷◌, length, get_or, subst}
use Rattle.std.proofs.lemmas.List.{get_or_default}
use Rattle.std.proofs.lemmas.List.Elements.{All-get_or}
use Rattle.p3_numbers.specs.Names.{Adds}
use Rattle.p3_numbers.proofs.NameLemmas.{adds-more}
use Rattle.p3_resolve.specs.Fitting.{name_in}
use Rattle.p3_resolve.proofs.repeated.Repeated.named.Goals as goal

pub name_at-requires : goal.name_at-requires
name_at-requires c =
    All-get_or (λ place. place < length c.args.self.now.declarations.entries.items) c.args.places.now c.loop-place.place-index 0 c.loop-place-test.true c.requires

pub loop-place-preserved : goal.loop-place-preserved
loop-place-preserved c =
    let entries = c.args.self.now.declarations.entries.items in
    let places = c.args.places.now in
    let at = c.loop-place.place-index in
    adds-more (λ place. name_in entries place ∷ []) [] c.loop-place.names c.add.new.self places at (get_or places at 0)
    c.loop-place-test.true (get_or_default places at 0 (get_or places at 0) c.loop-place-test.true) c.loop-place.invariant
    (subst (λ name. Adds c.loop-place.names (name ∷ []) c.add.new.self) c.name_at.ensures c.in_ok-add.ensures.more)
