-- What is kept of the states visited so far for one operator, one state after another.
use Rattle.std.specs.Prelude.{Bool, true, false, not, ◌&&◌, ◌||◌, List, length}
use Rattle.p3_base.specs.Trajectories.{some}
use Rattle.p3_formula.specs.Forms.{State, truth}
use Rattle.p3_formula.specs.GroundPlans.{last_of}
use Rattle.p3_formula.specs.GroundSat.{holds_at, ground_sat}
use Rattle.p3_formula.specs.GroundModal.{GroundModal}
use Rattle.p3_base.specs.declared.operator.Operator.TheVariants.{AtEnd, Always, Sometime, AtMostOnce, SometimeAfter, SometimeBefore}
use Rattle.p3_run.specs.declared.stages.Stage.{Stage}

-- ---- what a stage says

-- the formula that is to come first, or that is to hold once at most, has held
abbrev pub has_seen : List State → GroundModal → Bool
has_seen W (AtMostOnce f) = some (length W) (holds_at W f)
has_seen W (SometimeBefore f g) = some (length W) (holds_at W g)
has_seen W _ = false

-- the formula that is to hold once at most holds in the last state
abbrev pub has_held : List State → GroundModal → Bool
has_held W (AtMostOnce f) = truth (last_of W) f
has_held W _ = false

-- the stage is right of the states visited so far
abbrev pub stage_of : List State → GroundModal → Stage
stage_of W modal = record { accepts = ground_sat W modal; seen = has_seen W modal; held = has_held W modal }

-- ---- one state more

-- nothing but the answer matters
abbrev pub accepting : Bool → Stage
accepting accepts = record { accepts = accepts; seen = false; held = false }

abbrev pub fresh : GroundModal → Stage
fresh (Sometime f) = accepting false
fresh _ = accepting true

-- it came back where it has held, does not hold in the last state, and holds now
abbrev pub next_once : Bool → Stage → Stage
next_once holds stage = record {
  accepts = stage.accepts && not ((stage.seen && not stage.held) && holds);
  seen = stage.seen || holds;
  held = holds;
}

-- it came too early where it holds now and the other has not held before
abbrev pub next_before : Bool → Bool → Stage → Stage
next_before holds other stage = record {
  accepts = stage.accepts && not (holds && not stage.seen);
  seen = stage.seen || other;
  held = false;
}

abbrev pub next_stage : State → GroundModal → Stage → Stage
next_stage state (AtEnd f) stage = accepting (truth state f)
next_stage state (Always f) stage = accepting (stage.accepts && truth state f)
next_stage state (Sometime f) stage = accepting (stage.accepts || truth state f)
next_stage state (AtMostOnce f) stage = next_once (truth state f) stage
next_stage state (SometimeAfter f g) stage = accepting (truth state g || stage.accepts && not (truth state f))
next_stage state (SometimeBefore f g) stage = next_before (truth state f) (truth state g) stage
