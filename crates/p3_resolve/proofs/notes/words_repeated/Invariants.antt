use Rattle.std.proofs.Common.{◌≡◌, [], ◌∷◌, map, take}
use Rattle.std.specs.Prelude.{fold, flat_map}
use Rattle.p3_task.specs.Offences.{repeated}
use Rattle.p3_numbers.specs.Names.{Adds}
use Rattle.p3_resolve.specs.Spots.{step}
use Rattle.p3_resolve.proofs.notes.words_repeated.Given as goal

abbrev pub invariant-loop-item : goal.invariant-loop-item
invariant-loop-item g l =
    let word = g.T.Worded.word_of in
    record { least : l.least ≡ fold step l.fn.found (repeated (map word (take l.item-index l.items))); seen : Adds [] (flat_map (λ item. (word item).name ∷ []) (take l.item-index l.items)) l.seen }
