-- The lines that say why what was read is refused, by what is found.
use Rattle.std.specs.Prelude.{ℕ, List, ◌++◌}
use Rattle.p3_base.specs.Place.{line_of, column_of}
use Rattle.p3_base.specs.declared.refusal.Refusal.{Refusal}
use Rattle.p3_tree.specs.Reports.Lines.{line, role_name}
use Rattle.p3_tree.specs.Reports.Plans.{fault_line}
use Rattle.p3_tree.specs.Reports.Refusals.{code_text, lifted_fault_line, not_plain_line, numbers_differ_line, refusal_head, shown_at_fault}
use Rattle.p3_reports.specs.Faults.{fault_of}
use Rattle.p3_reports.specs.declared.placed.PlacedRefusal.{PlacedRefusal}
use Rattle.p3_reports.specs.declared.refusal.Rejection.{Rejection}
use Rattle.p3_reports.specs.declared.refusal.Rejection.TheVariants as rejection

-- a refusal of this text
abbrev pub placed_in : List ℕ → Refusal → PlacedRefusal
placed_in text refusal = record {
  code = refusal.code;
  role = refusal.pos.role;
  row = line_of text refusal.pos.offset;
  column = column_of text refusal.pos.offset;
  shown = record { items = shown_at_fault refusal.code text refusal };
}

abbrev pub placed_line : PlacedRefusal → List ℕ
placed_line placed = refusal_head (code_text placed.code) (role_name placed.role) placed.row placed.column ++ line placed.shown.items

abbrev pub rejection_line : Rejection → List ℕ
rejection_line (rejection.At placed) = placed_line placed
rejection_line rejection.NotPlain = not_plain_line
rejection_line (rejection.LiftedFault fault) = lifted_fault_line (fault_line (fault_of fault))
rejection_line (rejection.NumbersDiffer cost loss) = numbers_differ_line cost loss
