use Rattle.p3_task.proofs.OffsetLemmas.{offset_free, faithful_offset_free}
use Rattle.p3_task.proofs.laws.offsets_have_no_meaning.Goals as goal

pub returns : goal.returns
returns c = record { definitions = offset_free; faithful = faithful_offset_free }
