use Rattle.p3_simulation.proofs.CompiledLaw.{compiled}
use Rattle.p3_simulation.proofs.laws.parts_make_a_compiled_task.Goals as goal

pub returns : goal.returns
returns c G weights X parts = compiled G weights X parts.monitors parts.go parts.first parts.last parts.size parts.actions parts.phase parts.finish parts.instances
