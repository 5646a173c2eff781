use Rattle.std.proofs.Common.{◌≡◌, ◌<◌, All, length, map, take}
use Rattle.p3_formula.specs.Nodes.{Grows, form_of}
use Rattle.p3_formula.proofs.table.Table.+enter.Given as goal

-- the forms passed have their numbers
abbrev pub invariant-all_of-loop-form : goal.invariant-all_of-loop-form
invariant-all_of-loop-form l = record {
  grows : Grows l.fn.self l.self;
  below : All (λ number. number < length l.self) l.numbers;
  stands : map (form_of l.self) l.numbers ≡ take l.form-index l.forms;
}
