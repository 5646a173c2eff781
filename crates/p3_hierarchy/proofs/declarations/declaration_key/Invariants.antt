use Rattle.std.proofs.Common.{◌≡◌, take}
use Rattle.std.specs.Prelude.{flat_map}
use Rattle.std.specs.Hash.DefaultHasher as sip
use Rattle.p3_task.specs.Types.{names_of}
use Rattle.p3_numbers.specs.Keys.{told_all}
use Rattle.p3_hierarchy.proofs.declarations.declaration_key.Given as goal

abbrev pub invariant-loop-entry : goal.invariant-loop-entry
invariant-loop-entry l = l.digest.told ≡ told_all sip.initial (flat_map (λ entry. names_of entry.declared.now.types) (take l.entry-index l.entries))
