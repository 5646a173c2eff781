use Rattle.std.proofs.Common.{◌∙◌, ◌++◌, ap, arith, sym}
use Rattle.std.specs.Prelude.{flat_map}
use Rattle.std.proofs.lemmas.List.{take_all}
use Rattle.std.proofs.lemmas.Option.{get_or_from_slice_get}
use Rattle.p3_hierarchy.specs.Spans.{is_in}
use Rattle.p3_hierarchy.specs.Typings.{numbers_under, typings_of}
use Rattle.p3_hierarchy.specs.Walks.{place_of}
use Rattle.p3_hierarchy.proofs.TypingLemmas.{fitting-found, flat-more, found-apart, none-spanned}
use Rattle.p3_hierarchy.proofs.kinds.Below.numbers_found.Goals as goal

pub loop-place-preserved : goal.loop-place-preserved
loop-place-preserved c =
    let typings = typings_of c.args.declarations.now.entries.items in
    let kind = c.at.result.now in
    c.in_ok-push_numbers.ensures ∙ ap (λ front. front ++ numbers_under typings kind) c.loop-place.invariant
    ∙ sym (flat-more (numbers_under typings) c.args.self.now.found c.loop-place.place kind (omega (arith, c.loop-place-test.true, c.len-place-end.ensures)) (sym (get_or_from_slice_get c.args.self.now.found c.loop-place.place kind kind c.at.ensures)))

pub returns : goal.returns
returns c =
    let self = c.args.self.now in
    let typings = typings_of c.args.declarations.now.entries.items in
    fitting-found self.task.now self.types.now c.args.declarations.now.entries.items self.found c.loop-place.numbers.items
    (λ name. found-apart _ _ _ _ c.requires.all (none-spanned (is_in (place_of self.order.value.names name)) self.spans.items c.requires.spans) (self.told name))
    (c.loop-place.invariant ∙ ap (flat_map (numbers_under typings)) (take_all c.loop-place.place self.found (omega (arith, c.loop-place-test.false, c.len-place-end.ensures))))
