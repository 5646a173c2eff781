-- What is seen of files and of a sink that never fail.
use Rattle.std.specs.Prelude.{ℕ, Bool, true, List, Some, None}
use Rattle.std.specs.Option.{is_some}
use Rattle.p3_base.specs.Outside.{FilesSeen, SinkSeen, Store, bytes_under}

-- something is held under the name
abbrev pub is_held : Store → List ℕ → Bool
is_held store name = is_some (bytes_under store name)

-- what is held is told, all reads are sure, and no fault ever rises
abbrev pub sure_files : Store → FilesSeen
sure_files store = record { held = Some store; is_sure = true; read_faults = 0; write_faults = 0 }

-- nothing of what is put is told, and no fault ever rises
abbrev pub sure_sink : SinkSeen
sure_sink = record { written = None; faults = 0 }
