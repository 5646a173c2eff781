-- The code's requests, as the commands that they are.
use Rattle.std.specs.Prelude.{List, map}
use Rattle.p3_tree.specs.Commands as commands
use Rattle.p3_cli.specs.declared.request.Input.{Input}
use Rattle.p3_cli.specs.declared.request.Request.{Request}
use Rattle.p3_cli.specs.declared.table.Row.{Row}

abbrev pub as_row : Row → commands.Row
as_row row = record { word = row.word.now; is_numbered = row.is_numbered; reads = row.reads.now; writes = row.writes.now }

abbrev pub asked_command : Request → commands.Command
asked_command request = record { kind = request.kind; number = request.number; reads = request.reads.now; writes = request.writes.now }

abbrev pub asked_input : Input → commands.Input
asked_input input = commands.input (input.role, input.name.now)

abbrev pub asked_inputs : List Input → List commands.Input
asked_inputs = map asked_input
