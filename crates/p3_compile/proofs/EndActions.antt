-- The actions of a begun target's end phase, those of one instance after another.
use Rattle.std.proofs.Common.{◌≡◌, ◌∙◌, ℕ, zero, suc, ◌+◌, ◌<◌, true, List, [], ◌∷◌, ◌++◌, length, get_or, refl, sym, ap, arith, append_assoc}
use Rattle.std.proofs.lemmas.List.{append-nil}
use Rattle.p3_endphase.specs.Ends.{AreBelow, Settles}
use Rattle.p3_endphase.specs.declared.phase.SoftEnd.{SoftEnd}
use Rattle.p3_endphase.proofs.ActionLemmas.{begin_sized, settles_next, settling_sized}
use Rattle.p3_formula.specs.Forms.{is_below}
use Rattle.p3_formula.specs.declared.target.TargetAction.{TargetAction}
use Rattle.p3_formula.specs.declared.target.Weights.{Weights}
use Rattle.p3_formula.specs.declared.task.GroundTask.{GroundTask}
use Rattle.p3_simulation.proofs.Bounds.{below_more}
use Rattle.p3_compile.specs.Compiling.{AreEnds, HasNamedEnds, IsBegun}
use Rattle.p3_compile.specs.declared.begun.BegunTarget.{BegunTarget}
use Rattle.p3_compile.proofs.AssembledLaws.{first_inside}

-- ---- their atoms have names

accept_at : (go number : ℕ) (instances : List SoftEnd) (instance : SoftEnd) → AreBelow go instances → number < length instances → is_below go (get_or instances number instance).accept ≡ true
accept_at go number [] instance below within = absurd (omega (arith, within))
accept_at go zero (one ∷ instances) instance below within = below.0
accept_at go (suc number) (one ∷ instances) instance below within = accept_at go number instances instance below.1 (omega (arith, within))

pub ends_named : (G : GroundTask) (weights : Weights) (begun : BegunTarget) → IsBegun G weights begun → HasNamedEnds begun
ends_named G weights begun is =
    let go = begun.frame.go in
    let count = length begun.names in
    let counted = is.ends.counted in
    let questions = is.frame_is.questions in
    let room = is.frame_is.room in
    let inside = first_inside G weights begun is in
    record {
      room = omega (arith, counted, questions, room);
      begin = begin_sized count go is.ends.finish begun.begin is.ends.begins (below_more go count (omega (arith, questions, inside)) is.ends.finish is.ends.below) (omega (arith, questions, inside));
      settling = λ number instance actions within settles.
          let one = get_or begun.instances number instance in
          settling_sized count go number one actions settles (below_more go count (omega (arith, questions, inside)) one.accept (accept_at go number begun.instances instance is.ends.accept_below within)) (omega (arith, within, counted, questions, inside));
    }

-- ---- one instance after another

pub same_at : (instances : List SoftEnd) (number : ℕ) (one other : SoftEnd) → number < length instances → get_or instances number one ≡ get_or instances number other
same_at [] number one other within = absurd (omega (arith, within))
same_at (instance ∷ instances) zero one other within = refl
same_at (instance ∷ instances) (suc number) one other within = same_at instances number one other (omega (arith, within))

pub ends_begin : (begun : BegunTarget) → AreEnds begun 0 begun.begin
ends_begin begun = record { settling = []; settles = tt; are = sym (append-nil begun.begin) }

pub ends_next : (begun : BegunTarget) (number : ℕ) (instance : SoftEnd) (ends own : List TargetAction) → number < length begun.instances → AreEnds begun number ends → Settles begun.frame.go number (get_or begun.instances number instance ∷ []) own
    → AreEnds begun (number + 1) (ends ++ own)
ends_next begun number instance ends own within are settles =
    let one = get_or begun.instances number instance in
    record {
      settling = are.settling ++ own;
      settles = settles_next begun.frame.go number begun.instances one are.settling own within (same_at begun.instances number one instance within) are.settles settles;
      are = ap (λ list. list ++ own) are.are ∙ append_assoc begun.begin are.settling own;
    }
