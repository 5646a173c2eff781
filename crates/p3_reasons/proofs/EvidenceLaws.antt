-- What is shown of an operator is evident.
use Rattle.std.proofs.Common.{◌≡◌, ℕ, ◌<◌, List, [], length, arith}
use Rattle.std.specs.List.{AllByRecursion}
use Rattle.p3_base.specs.declared.operator.Operator.TheVariants.{AtEnd, Always, Sometime, AtMostOnce, SometimeAfter, SometimeBefore}
use Rattle.p3_base.specs.declared.showing.Showing.{Showing}
use Rattle.p3_base.specs.declared.showing.Showing.TheVariants.{Holds, HoldsAt, HoldsNowhere, FailsAt, Again}
use Rattle.p3_task.specs.Explanations.{shown}
use Rattle.p3_task.specs.Modal.{Modal}
use Rattle.p3_task.specs.Shows.{Shows}
use Rattle.p3_task.specs.States.{State, Environment}
use Rattle.p3_task.specs.declared.task.Task.{Task}
use Rattle.p3_task.proofs.ShownLaws.{shown_shows}
use Rattle.p3_reasons.specs.Evidences.{evidence_of, IsEvident, WhatIsShownIsEvident}

module _ (T : Task) (W : List State) (env : Environment) (some : 0 < length W) where
  evident : (modal : Modal) (showing : Showing) → Shows T W env modal showing → AllByRecursion (IsEvident T W env modal) (evidence_of modal showing)
  evident (AtEnd f) (HoldsAt place) shows = (record { within = omega (arith, shows.0); so = shows.1 }, tt)
  evident (AtEnd f) (FailsAt place) shows = (record { within = omega (arith, shows.0); so = shows.1 }, tt)
  evident (AtEnd f) Holds shows = tt
  evident (AtEnd f) HoldsNowhere shows = tt
  evident (AtEnd f) (Again first gap again) shows = absurd shows
  evident (Always f) (FailsAt place) shows = (record { within = shows.within; so = shows.here }, tt)
  evident (Always f) (HoldsAt place) shows = absurd shows
  evident (Always f) Holds shows = tt
  evident (Always f) HoldsNowhere shows = tt
  evident (Always f) (Again first gap again) shows = absurd shows
  evident (Sometime f) (HoldsAt place) shows = (record { within = shows.within; so = shows.here }, tt)
  evident (Sometime f) (FailsAt place) shows = absurd shows
  evident (Sometime f) Holds shows = tt
  evident (Sometime f) HoldsNowhere shows = tt
  evident (Sometime f) (Again first gap again) shows = absurd shows
  evident (AtMostOnce f) (Again first gap again) shows =
      (record { within = omega (arith, shows.within, shows.gap_behind, shows.again_behind); so = shows.held }, (record { within = omega (arith, shows.within, shows.again_behind); so = shows.ceased }, (record { within = shows.within; so = shows.back }, tt)))
  evident (AtMostOnce f) (HoldsAt place) shows = absurd shows
  evident (AtMostOnce f) (FailsAt place) shows = absurd shows
  evident (AtMostOnce f) Holds shows = tt
  evident (AtMostOnce f) HoldsNowhere shows = tt
  evident (SometimeAfter f g) (FailsAt place) shows = (record { within = shows.within; so = shows.here }, (record { within = shows.within; so = shows.never place shows.within (omega arith) }, tt))
  evident (SometimeAfter f g) (HoldsAt place) shows = tt
  evident (SometimeAfter f g) Holds shows = tt
  evident (SometimeAfter f g) HoldsNowhere shows = tt
  evident (SometimeAfter f g) (Again first gap again) shows = tt
  evident (SometimeBefore f g) (FailsAt place) shows = (record { within = shows.within; so = shows.here }, tt)
  evident (SometimeBefore f g) (HoldsAt place) shows = tt
  evident (SometimeBefore f g) Holds shows = tt
  evident (SometimeBefore f g) HoldsNowhere shows = tt
  evident (SometimeBefore f g) (Again first gap again) shows = tt

pub what-is-shown-is-evident : WhatIsShownIsEvident
what-is-shown-is-evident T W env modal some = evident T W env some modal (shown T W env modal) (shown_shows T W env modal)
