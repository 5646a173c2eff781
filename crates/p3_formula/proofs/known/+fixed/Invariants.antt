use Rattle.std.proofs.Common.{◌≡◌, drop}
use Rattle.std.specs.List.{flat_map}
use Rattle.p3_formula.specs.Literals.{fixed, with_all}
use Rattle.p3_formula.proofs.known.+fixed.Given as goal

-- what is known so far, and what the parts that are left fix, make up the whole
abbrev pub invariant-note_where-loop-part : goal.invariant-note_where-loop-part
invariant-note_where-loop-part l = with_all l.known (flat_map (λ part. fixed part l.every) (drop l.part-index l.parts)) ≡ with_all l.fn.known (flat_map (λ part. fixed part l.every) l.parts)
