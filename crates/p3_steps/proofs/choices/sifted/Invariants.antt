use Rattle.std.proofs.Common.{◌≡◌, take}
use Rattle.std.specs.List.{filter}
use Rattle.p3_numbers.specs.Choices.{choice}
use Rattle.p3_steps.specs.Late.{all_begin}
use Rattle.p3_steps.proofs.choices.sifted.Given as goal

-- of the choices passed those are kept that may begin
abbrev pub invariant-loop-choice : goal.invariant-loop-choice
invariant-loop-choice l = l.kept.items ≡ filter (λ number. all_begin l.numbers l.statics (choice l.numbers l.ranges number) l.late) (take l.choice-index l.choices)
