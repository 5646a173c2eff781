use Rattle.p3_monitors.proofs.UntouchedLaws.{rides_untouched}
use Rattle.p3_monitors.proofs.laws.untouched_monitors_ride.Goals as goal

pub returns : goal.returns
returns c = rides_untouched
