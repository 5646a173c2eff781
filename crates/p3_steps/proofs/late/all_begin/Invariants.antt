use Rattle.std.proofs.Common.{◌≡◌, drop}
use Rattle.p3_steps.specs.Late.{all_begin}
use Rattle.p3_steps.proofs.late.all_begin.Given as goal

-- the parts that are left decide
abbrev pub invariant-loop-part : goal.invariant-loop-part
invariant-loop-part l = all_begin l.numbers l.statics l.slots (drop l.part-index l.parts) ≡ all_begin l.numbers l.statics l.slots l.parts
