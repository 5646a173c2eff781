use Rattle.std.proofs.Common.{◌≡◌, false, take}
use Rattle.p3_flat.specs.Conditions.{has_form}
use Rattle.p3_flat.proofs.placing.place_among.Given as goal

-- none of those passed is the form
abbrev pub invariant-loop-place : goal.invariant-loop-place
invariant-loop-place l = has_form (take l.place l.forms) l.form ≡ false
