use Rattle.std.proofs.Common.{◌≡◌, ◌++◌, map, take}
use Rattle.p3_writer.specs.Layout as layout
use Rattle.p3_writer.proofs.layout.+forms.Given as goal

-- the forms passed stand written
abbrev pub invariant-push_forms-loop-form : goal.invariant-push_forms-loop-form
invariant-push_forms-loop-form l = l.out.items ≡ l.fn.out.items ++ layout.spaced (map (layout.form_text l.atoms) (take l.form-index l.forms))
