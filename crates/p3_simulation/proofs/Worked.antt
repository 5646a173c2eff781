-- The worked target is assembled from the worked task.
use Rattle.std.proofs.Common.{◌≡◌, ◌∙◌, Bool, true, not, ◌&&◌, [], ◌∷◌, refl, sym, ap, arith, Some, true≢false}
use Rattle.std.specs.Prelude.{codes}
use Rattle.std.proofs.Math.Bool.{and-true}
use Rattle.std.proofs.lemmas.Bool.{and_parts, and_from}
use Rattle.std.proofs.lemmas.List.Elements.{All-nil, All-cons}
use Prim.{∣◌∣₁}
use Rattle.p3_formula.specs.Forms.{State, truth, is_set}
use Rattle.p3_formula.specs.Guards.{IsGuardedForm}
use Rattle.p3_formula.specs.Modals.{IsModalBelow}
use Rattle.p3_formula.specs.Constructors.{sets}
use Rattle.p3_formula.specs.declared.task.GroundStep.{GroundStep}
use Rattle.p3_formula.specs.Tidy.{look}
use Rattle.p3_formula.specs.declared.form.Form.TheVariants.{True, Atom}
use Rattle.p3_base.specs.declared.operator.Operator.TheVariants.{AtEnd}
use Rattle.p3_formula.proofs.Worked.{task, weights, target, step, finish, collect, forgo, computes}
use Rattle.p3_endphase.specs.Ends.{IsMove}
use Rattle.p3_endphase.specs.declared.phase.SoftEnd.{SoftEnd}
use Rattle.p3_monitors.specs.declared.monitoring.Monitor.{Monitor}
use Rattle.p3_monitors.proofs.AcceptLaws.{accept_atoms}
use Rattle.p3_monitors.proofs.UpdateLaws.{at_end_update}
use Rattle.p3_precprefs.specs.Copies.{HasAtomsIn, Nothing, Keeps}
use Rattle.p3_precprefs.specs.declared.copies.StepCopy.{StepCopy}
use Rattle.p3_simulation.proofs.Guarded.{plain_pre}
use Rattle.p3_simulation.specs.Assembled.{Assembly, IsAssembled, IsSplit, Narrow, NoSteps, OneStep}
use Rattle.p3_simulation.specs.Monitoring.{IsEffects, IsGuardedPre, NoMore, Touched, NoneLeft, OneMore}

pub atom_below : IsModalBelow 1 (AtEnd (Atom 0))
unfolding computes
atom_below = refl

pub accepts_atom : (state : State) → truth state (Atom 0) ≡ truth state (Atom 0)
accepts_atom state = refl

abbrev pub monitor : Monitor
monitor = record {
  base = 1;
  initial = [];
  accept = Atom 0;
  modal = AtEnd (Atom 0);
  below = atom_below;
  room = omega arith;
  entries = refl;
  accepting = ∣ accepts_atom ∣₁;
  atoms = ∣ accept_atoms 1 (AtEnd (Atom 0)) ∣₁;
}

abbrev pub instance : SoftEnd
instance = record { accept = Atom 0; weight = 5 }

abbrev pub made : Assembly
made = record {
  monitors = monitor ∷ [];
  go = 1;
  first = 4;
  last = 205;
  actions = step ∷ [];
  phase = record { atoms = 3; actions = finish ∷ collect ∷ forgo ∷ []; goal = Atom 3 };
  finish = True;
  instances = instance ∷ [];
}

abbrev copy : StepCopy
copy = record { violated = []; pre = True; cost = 0 }

abbrev only_step : GroundStep
only_step = record { number = 0; pre = True; prefs = []; effects = record { cond = True; atom = 0; add = true } ∷ []; cost = Some 0 }

-- ---- the step

step_pre : IsGuardedForm (1 ∷ []) True (Atom 1)
unfolding computes look
step_pre = record {
  fits = λ state. sym (and-true (is_set state 1 && true) ∙ and-true (is_set state 1));
  tidy = refl;
  reads = λ allowed set within. (and_parts (allowed 1) true set).0;
}

step_split : IsSplit 1 weights only_step True (sets 0 ∷ []) (step ∷ [])
unfolding computes
step_split = record {
  copies = copy ∷ [];
  one_copy = λ state holds. record { copy = copy; only = refl; shows = refl; costs = refl };
  no_copy = λ state fails. absurd (true≢false fails);
  shown = Keeps [] [] [] Nothing;
  atoms = λ allowed pre bodies. All-cons (λ (c : StepCopy). HasAtomsIn allowed c.pre) copy [] refl (All-nil (λ (c : StepCopy). HasAtomsIn allowed c.pre));
  are = (record { named = refl; pre = step_pre; does = λ state met. refl; atoms = λ allowed all. all; costs = refl }, tt);
}

step_effects : IsEffects 1 (monitor ∷ []) only_step (sets 0 ∷ [])
unfolding computes
step_effects = record {
  updates = [];
  watched = Touched monitor [] [] [] refl ((at_end_update 1 (sets 0 ∷ []) (Atom 0) atom_below).kept refl) NoMore;
  does = λ state holds. refl;
  below = refl;
}

-- no constraint is hard
step_guarded : IsGuardedPre 1 [] only_step True
unfolding computes
step_guarded = plain_pre 1 [] only_step refl

-- ---- the end phase

atom_last : (a b : Bool) → (a && (b && true)) ≡ (a && b)
atom_last a b = ap (λ c. a && c) (and-true b)

finish_moves : IsMove 1 True (λ state. truth state True) (codes "finish") 0 finish
unfolding computes look
finish_moves = record { is_named = refl; fits = λ state. sym (and-true (is_set state 1)); tidy = refl; reads = λ allowed own within. own; moves = refl; costs = refl }

collect_moves : IsMove 2 (Atom 0) (λ state. truth state (Atom 0)) (codes "collect0") 0 collect
unfolding computes look
collect_moves = record { is_named = refl; fits = λ state. atom_last (is_set state 2) (is_set state 0); tidy = refl; reads = λ allowed own within. and_from (allowed 2) _ own (and_from (allowed 0) true within refl); moves = refl; costs = refl }

forgo_moves : IsMove 2 (Atom 0) (λ state. not (truth state (Atom 0))) (codes "forgo0") 5 forgo
unfolding computes look
forgo_moves = record { is_named = refl; fits = λ state. atom_last (is_set state 2) (not (is_set state 0)); tidy = refl; reads = λ allowed own within. and_from (allowed 2) _ own (and_from (allowed 0) true within refl); moves = refl; costs = refl }

-- ---- the whole

pub target_assembled : IsAssembled task weights target made
unfolding computes
target_assembled = record {
  questions = refl;
  names = refl;
  room = omega arith;
  numbers = omega arith;
  monitors = (record { base = refl; watches = refl; entries = refl; starts = λ state carries. record { visited = omega arith; carries = carries } }, refl);
  idle = 2;
  initial = refl;
  bits = refl;
  steps = OneStep 205 205 205 only_step [] (step ∷ []) [] (Narrow only_step True (sets 0 ∷ []) (step ∷ []) refl (omega arith) step_effects step_guarded step_split) (NoSteps 205);
  actions = refl;
  goal = refl;
  accepts = λ state. refl;
  finish = refl;
  ends = OneMore _ [] (monitor ∷ []) [] instance [] (record { parts = refl; accepts = λ state. sym (and-true (truth state (Atom 0))); weighs = refl }) NoneLeft;
  instances = (refl, tt);
  phase = record { count = refl; settles = (finish_moves, (record { collects = collect_moves; forgoes = forgo_moves }, tt)); reached = refl };
}
