use Rattle.p3_ground.proofs.GroundingLaws.{leaves-out-there, leaves-out-what-never-begins}
use Rattle.p3_ground.proofs.grounding.only_what_never_begins_is_left_out.Goals as goal

pub returns : goal.returns
returns c = record { all = leaves-out-what-never-begins; there = leaves-out-there }
