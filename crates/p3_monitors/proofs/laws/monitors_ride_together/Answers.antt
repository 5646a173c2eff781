use Rattle.p3_monitors.proofs.RiderLaws.{ride_together}
use Rattle.p3_monitors.proofs.laws.monitors_ride_together.Goals as goal

pub returns : goal.returns
returns c = ride_together
