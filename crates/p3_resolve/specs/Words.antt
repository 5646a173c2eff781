-- Names as they stand in the trees of a task, borrowed.
use Rattle.std.specs.Prelude.{List, map}
use denote.Ref.{Bor}
use Rattle.p3_task.specs.Names.{Name}
use Rattle.p3_task.specs.PreferenceNames as tree
use Rattle.p3_resolve.specs.declared.gather.Named.{Named}

abbrev pub names_in : List (Bor Name) → List Name
names_in words = map (λ (word : Bor Name). word.now) words

abbrev pub name_of : tree.Named → Name
name_of named = named.name

abbrev pub named_word : Named → tree.Named
named_word named = record { at = named.at; name = named.name.now }

abbrev pub named_in : List Named → List tree.Named
named_in found = map named_word found
