use Rattle.std.proofs.Common.{◌≡◌, ◌<◌, ℕ, false, length, get_or}
use Rattle.p3_formula.specs.declared.form.Form.{Form}
use Rattle.p3_regress.specs.Sorted.{lent}
use Rattle.p3_regress.specs.Turned.{may_turn}
use Rattle.p3_regress.proofs.turning.may_turn_at.Given as goal

-- none of the parts at the places passed may turn
abbrev pub invariant-loop-place : goal.invariant-loop-place
invariant-loop-place l =
    (index : ℕ) (part : Form) → index < l.place-index → get_or l.places index 0 < length l.parts → may_turn (lent l.changes) l.up (get_or l.parts (get_or l.places index 0) part) ≡ false
