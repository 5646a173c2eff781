use Rattle.p3_tree.specs.Commands.{command_of}
use Rattle.p3_cli.proofs.SureLemmas.{are_held_as}
use Rattle.p3_cli.proofs.sure.are_held.Goals as goal

pub returns-in-Some : goal.returns-in-Some
returns-in-Some c = are_held_as c.args.files.now c.in-Some.request c.are_all_held.result (command_of c.args.words.now) c.in-Some.ensures c.are_all_held.ensures
