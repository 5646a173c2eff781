use Rattle.std.proofs.Common.{◌∙◌, sym}
use Rattle.std.specs.Prelude.{position}
use Rattle.p3_numbers.proofs.NameLemmas.{place_behind, place_found}
use Rattle.p3_resolve.specs.Tables.{is_called}
use Rattle.p3_resolve.proofs.firsts.Firsts.place.Goals as goal

pub returns-in-None : goal.returns-in-None
returns-in-None g c =
    let self = c.args.self.now in
    sym (place_behind (is_called g.T.Worded.word_of c.args.name.now) self.items.now
    (sym ((λ i. position (is_called g.T.Worded.word_of (c.bytes.ensures.bytes i)) self.items.now)) ∙ sym (λ i. self.told i c.bytes.result) ∙ sym c.in-None.ensures.value))

pub returns-in-Some : goal.returns-in-Some
returns-in-Some g c =
    let self = c.args.self.now in
    place_found (is_called g.T.Worded.word_of c.args.name.now) self.items.now c.in-Some.place.now
    (sym ((λ i. position (is_called g.T.Worded.word_of (c.bytes.ensures.bytes i)) self.items.now)) ∙ sym (λ i. self.told i c.bytes.result) ∙ sym c.in-Some.ensures.value)
