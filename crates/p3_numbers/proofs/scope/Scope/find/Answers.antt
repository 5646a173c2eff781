use Rattle.std.proofs.Common.{◌∙◌}
use Rattle.p3_task.specs.Slots.{slot_of, words_of}
use Rattle.p3_numbers.proofs.scope.Scope.find.Goals as goal

pub returns : goal.returns
returns c =
    c.copied.ensures ∙ c.get.ensures.value ∙ (λ i. c.self.invariant.1 i c.bytes.result)
    ∙ (λ i. slot_of (words_of (c.self.view_is i)) (c.bytes.ensures.bytes i))
