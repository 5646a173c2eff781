-- A monitor that is kept accepts just where its constraint is satisfied.
use Rattle.std.proofs.Common.{◌≡◌, ◌∙◌, ℕ, not, List, sym, ap}
use Rattle.std.proofs.lemmas.Bool.{and_parts}
use Rattle.p3_formula.specs.Forms.{State}
use Rattle.p3_formula.specs.GroundPlans.{last_of}
use Rattle.p3_formula.specs.GroundSat.{ground_sat}
use Rattle.p3_formula.specs.Kept.{accepts, Kept}
use Rattle.p3_formula.specs.Modals.{is_read}
use Rattle.p3_formula.specs.GroundModal.{GroundModal}
use Rattle.p3_base.specs.declared.operator.Operator.TheVariants.{AtEnd, Always, Sometime, AtMostOnce, SometimeAfter, SometimeBefore}
use Rattle.p3_formula.proofs.NextLaws.{truth-agree}
use Rattle.p3_formula.proofs.ReadAtoms.{reads}
use Rattle.p3_formula.proofs.WatchedLaws.{sat-AtMostOnce, sat-SometimeAfter, sat-SometimeBefore}

pub accepts_sat : (base : ℕ) (modal : GroundModal) (W : List State) (state : State) → Kept base modal W state → accepts base modal state ≡ ground_sat W modal
unfolding ground_sat
accepts_sat base (AtEnd f) W state kept = truth-agree state (last_of W) (is_read (AtEnd f)) kept.carries.agrees f (and_parts _ _ (reads (AtEnd f))).0
accepts_sat base (Always f) W state kept = kept.carries.stand.0
accepts_sat base (Sometime f) W state kept = kept.carries.stand.0
accepts_sat base (AtMostOnce f) W state kept = ap not kept.carries.stand.1.0 ∙ sym (sat-AtMostOnce W f f)
accepts_sat base (SometimeAfter f g) W state kept = ap not kept.carries.stand.0 ∙ sym (sat-SometimeAfter W f g)
accepts_sat base (SometimeBefore f g) W state kept = ap not kept.carries.stand.1.0 ∙ sym (sat-SometimeBefore W f g)
