-- What the parts of reports are printed as.
use Rattle.std.specs.Prelude.{ℕ, ◌^◌, List, ◌++◌, codes, flat_map}
use Rattle.std.specs.Fmt.{decimal, signed_decimal}
use Rattle.p3_tree.specs.Reports.Lines.{entry, line}
use Rattle.p3_tree.specs.Reports.Plans.{steps_line}
use Rattle.p3_tree.specs.Reports.Quantities.{shown_quantity}
use Rattle.p3_tree.specs.Reports.Tasks.{direction_name, scale_line}
use Rattle.p3_reports.specs.Joined.{joined}
use Rattle.p3_reports.specs.declared.part.NameCount.{NameCount}
use Rattle.p3_reports.specs.declared.part.Part.{Part}
use Rattle.p3_reports.specs.declared.part.Part.TheVariants as part
use Rattle.p3_reports.specs.declared.quantity.Quantity.{Quantity}

abbrev pub quantity_text : Quantity → List ℕ
quantity_text quantity = shown_quantity quantity.places quantity.units

-- ---- how often the preferences of names are violated

abbrev pub violated_line : List ℕ → ℕ → List ℕ
violated_line name count = entry (codes "violated " ++ name) (decimal count)

abbrev pub count_text : NameCount → List ℕ
count_text entry = violated_line entry.name entry.count

abbrev pub counts_text : List NameCount → List ℕ
counts_text counts = flat_map count_text counts

-- ---- parts

abbrev pub part_text : Part → List ℕ
part_text part.Valid = line (codes "valid")
part_text (part.Steps count) = steps_line count
part_text (part.Preferences count) = entry (codes "preferences") (decimal count)
part_text (part.Base base) = entry (codes "base") (quantity_text base)
part_text (part.Direction direction) = entry (codes "direction") (direction_name direction)
part_text (part.Scale quantity) = scale_line (10 ^ quantity.places)
part_text (part.Plan count) = entry (codes "plan") (decimal count)
part_text (part.Embedded count) = entry (codes "embedded") (decimal count)
part_text (part.Cost cost) = entry (codes "cost") (quantity_text cost)
part_text (part.WrittenCost cost) = entry (codes "cost") (signed_decimal cost)
part_text (part.Violated name count) = violated_line name.now count
part_text (part.Violations counts) = counts_text counts.now
part_text (part.Metric value) = entry (codes "metric") (quantity_text value)

-- one behind another
abbrev pub parts_text : List Part → List ℕ
parts_text parts = joined part_text parts
