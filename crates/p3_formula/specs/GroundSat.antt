-- Trajectory constraints over the states that are visited (the PDDL3 report), by the places of the whole list.
use Rattle.std.specs.Prelude.{ℕ, Bool, List, [], length, slice_index_or}
use Rattle.p3_base.specs.Operators.{is_satisfied, over}
use Rattle.p3_formula.specs.Forms.{State, truth}
use Rattle.p3_formula.specs.declared.form.Form.{Form}
use Rattle.p3_formula.specs.GroundModal.{GroundModal}

abbrev pub holds_at : List State → Form → ℕ → Bool
holds_at W form i = truth (slice_index_or W i []) form

unfoldable pub ground_sat : List State → GroundModal → Bool
ground_sat W modal = is_satisfied (length W) (over (holds_at W) modal)
