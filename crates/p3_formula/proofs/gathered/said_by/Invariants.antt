use Rattle.std.proofs.Common.{◌≡◌, drop}
use Rattle.std.specs.List.{flat_map}
use Rattle.p3_formula.specs.Literals.{said_of}
use Rattle.p3_formula.specs.Settled.{own_literal}
use Rattle.p3_formula.proofs.gathered.said_by.Given as goal

-- the forms that are left say what all of them do
abbrev pub invariant-loop-form : goal.invariant-loop-form
invariant-loop-form l = said_of (flat_map own_literal (drop l.form-index l.forms)) l.atom ≡ said_of (flat_map own_literal l.forms) l.atom
