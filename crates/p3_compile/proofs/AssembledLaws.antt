-- What is put together is an assembled target.
use Rattle.std.proofs.Common.{◌≡◌, ◌∙◌, ℕ, zero, suc, ◌+◌, ◌-◌, ◌<◌, ◌≤◌, Bool, true, false, List, [], ◌∷◌, ◌++◌, length, get_or, replicate, take, refl, sym, ap, subst, le_refl, arith, append_assoc, length-append}
use Rattle.std.specs.Prelude.{codes}
use Rattle.std.specs.List.{All, flat_map, list_all}
use Rattle.std.proofs.lemmas.Bool.{and_parts, and_from}
use Rattle.std.proofs.lemmas.List.{length-map, length-replicate, take_all}
use Rattle.std.proofs.lemmas.List.Folds.{list_all-append}
use Rattle.std.proofs.lemmas.List.FromFn.{length-map-range_with_len}
use Rattle.p3_formula.specs.Conditions.{HasTidyForms, IsReady, is_step_below, is_tidy_action}
use Rattle.p3_formula.specs.Forms.{State}
use Rattle.p3_formula.specs.Kept.{atom_count}
use Rattle.p3_formula.specs.Tidy.{is_tidy, look}
use Rattle.p3_formula.specs.declared.form.Form.TheVariants.{Atom}
use Rattle.p3_formula.specs.GroundModal.{GroundModal}
use Rattle.p3_formula.specs.declared.target.TargetAction.{TargetAction}
use Rattle.p3_formula.specs.declared.target.Weights.{Weights}
use Rattle.p3_formula.specs.declared.task.GroundStep.{GroundStep}
use Rattle.p3_formula.specs.declared.task.GroundTask.{GroundTask}
use Rattle.p3_endphase.specs.Ends.{AreActions, Settles}
use Rattle.p3_endphase.specs.declared.phase.EndPhase.{EndPhase}
use Rattle.p3_endphase.proofs.ActionLemmas.{actions_behind}
use Rattle.p3_monitors.specs.declared.monitoring.Monitor.{Monitor}
use Rattle.p3_simulation.specs.Assembled.{AreOfSteps, Assembly, IsAssembled}
use Rattle.p3_simulation.specs.Naming.{all_numbered, atom_names, current_name, numbered, question_names, wide_steps}
use Rattle.p3_simulation.specs.Monitoring.{AreMonitors, all_modals}
use Rattle.p3_simulation.proofs.Bounds.{step_more}
use Rattle.p3_simulation.proofs.Monitored.{none_own}
use Rattle.p3_compile.specs.Compiling.{AreEnds, IsBegun, IsFrameOf, first_names, target_of}
use Rattle.p3_compile.specs.Stepping.{HasStepActions, IsFrame, IsStepReady, current_names}
use Rattle.p3_compile.specs.declared.begun.BegunTarget.{BegunTarget}
use Rattle.p3_compile.specs.declared.stepping.Frame.{Frame}
use Rattle.p3_compile.proofs.EndLaws.{hard_inside, phase_tidy}
use Rattle.p3_compile.proofs.FrameLaws.{frame_before, frame_behind, sources_inside}
use Rattle.p3_compile.proofs.StepLists.{changed_below}

-- ---- the steps are ready

all_at : {A : Type 0} (test : A → Bool) (xs : List A) (k : ℕ) (d : A) → list_all test xs ≡ true → k < length xs → test (get_or xs k d) ≡ true
all_at test [] k d all within = absurd (omega (arith, within))
all_at test (x ∷ xs) zero d all within = (and_parts (test x) _ all).0
all_at test (x ∷ xs) (suc k) d all within = all_at test xs k d (and_parts (test x) _ all).1 (omega (arith, within))

module _ (G : GroundTask) (weights : Weights) (frame : Frame) (ready : IsReady G weights) (is : IsFrameOf G frame) where
  pub frame_is : IsFrame frame
  frame_is = record { questions = let q = is.questions in omega (arith, q); before = frame_before G frame is ready.atoms; hard = subst (λ n. n ≤ length frame.monitors) (sym is.hard) (hard_inside G frame is); read = is.read; rising = is.rising; by_atom = is.by_atom }

  pub steps_ready : All (IsStepReady frame weights) G.steps
  steps_ready = λ k d within.
      let below = all_at (is_step_below G.atoms) G.steps k d ready.atoms.steps within in
      record {
        below = step_more G.atoms frame.go (sources_inside G frame is) (get_or G.steps k d) below;
        apart = λ i m inside. none_own G.atoms (get_or G.steps k d).effects (get_or frame.monitors i m) (changed_below G.atoms (get_or G.steps k d) below) (frame_behind G frame is i m inside);
        names = ready.names.steps k d within;
        limits = ready.limits k d within;
      }

-- ---- how many names there are

bits_count : (start : State) (from to : ℕ) (modals : List GroundModal) (monitors : List Monitor) → AreMonitors start from to modals monitors → from + length (flat_map (λ (monitor : Monitor). monitor.initial) monitors) ≡ to
bits_count start from to [] [] are = nothing from ∙ are where
  nothing : (n : ℕ) → n + 0 ≡ n
  nothing n = omega arith
bits_count start from to [] (monitor ∷ monitors) are = absurd are
bits_count start from to (modal ∷ modals) [] are = absurd are
bits_count start from to (modal ∷ modals) (monitor ∷ monitors) are =
    let joined = length-append monitor.initial (flat_map (λ (monitor : Monitor). monitor.initial) monitors) in
    let rest = bits_count start (from + atom_count modal) to modals monitors are.1 in
    let own = are.0.entries in omega (arith, joined, rest, own)

module _ (G : GroundTask) (weights : Weights) (begun : BegunTarget) (is : IsBegun G weights begun) where
  abbrev wide : List GroundStep
  wide = wide_steps weights.by_name G.steps

  names_count : length begun.names ≡ begun.frame.first + length (question_names wide) + length wide
  names_count =
      let all = ap length is.named ∙ length-append (first_names G begun.frame.go ++ question_names wide) (current_names weights.by_name G.steps) in
      let front = length-append (first_names G begun.frame.go) (question_names wide) in
      let currents = length-map wide current_name in
      let counted = is.counted in omega (arith, all, front, currents, counted)

  pub first_inside : begun.frame.first ≤ length begun.names
  first_inside = let c = names_count in omega (arith, c)

  -- where some step is wide, the current atoms stand behind the question atoms
  pub current_first : 0 < length wide → begun.current ≡ begun.frame.first + 201
  current_first some = is.current_is ∙ by wide some
    where
      by : (steps : List GroundStep) → 0 < length steps → begun.frame.first + length (question_names steps) ≡ begun.frame.first + 201
      by [] some = absurd (omega (arith, some))
      by (step ∷ steps) some = ap (λ n. begun.frame.first + n) (length-map-range_with_len (numbered (codes "h")) 0 201)

  pub currents_inside : begun.current + length wide ≤ length begun.names
  currents_inside = let c = names_count in let f = is.current_is in omega (arith, c, f)

  long_enough : begun.frame.go + 2 ≤ length begun.names
  long_enough = let f = first_inside in let q = is.frame_is.questions in omega (arith, f, q)

  all_names : begun.names ≡ atom_names G.atoms (begun.frame.go - G.atoms) (length G.soft + 1) wide
  all_names =
      let sources = all_numbered (codes "f") 0 G.atoms in
      let watched = all_numbered (codes "m") 0 (begun.frame.go - G.atoms) in
      let chain = all_numbered (codes "e") 0 (length G.soft + 1) in
      let currents = current_names weights.by_name G.steps in
      is.named
      ∙ append_assoc (first_names G begun.frame.go) (question_names wide) currents
      ∙ append_assoc sources (watched ++ (codes "go" ∷ chain)) (question_names wide ++ currents)
      ∙ ap (λ list. sources ++ list) (append_assoc watched (codes "go" ∷ chain) (question_names wide ++ currents))

  bits_long : IsReady G weights → length begun.initial ≡ length begun.names
  bits_long ready =
      let own = flat_map (λ (monitor : Monitor). monitor.initial) begun.frame.monitors in
      let idle = length begun.names - begun.frame.go - 1 in
      let joined = ap length is.initial_is ∙ length-append G.initial (own ++ true ∷ replicate idle false) ∙ ap (λ n. length G.initial + n) (length-append own (true ∷ replicate idle false)) in
      let idles = length-replicate idle false in
      let watched = bits_count G.initial G.atoms begun.frame.go (all_modals G) begun.frame.monitors is.frame_is.monitors in
      let enough = long_enough in let own_bits = ready.bits in omega (arith, joined, idles, watched, enough, own_bits)

  -- ---- the end

  pub end_actions : (ends : List TargetAction) → AreEnds begun (length begun.instances) ends → AreActions begun.frame.go is.ends.finish begun.instances ends
  end_actions ends are =
      let all = take_all (length begun.instances) begun.instances (le_refl (length begun.instances)) in
      subst (AreActions begun.frame.go is.ends.finish begun.instances) (sym are.are)
      (actions_behind begun.frame.go is.ends.finish begun.instances begun.begin are.settling is.ends.begins (subst (λ list. Settles begun.frame.go 0 list are.settling) all are.settles))

  -- ---- the whole

  module _ (actions ends : List TargetAction) (steps : HasStepActions begun.frame weights G.steps actions) (are : AreEnds begun (length begun.instances) ends) where
    abbrev phase : EndPhase
    phase = record { atoms = length begun.instances + 2; actions = ends; goal = begun.goal }

    abbrev pub made : Assembly
    made = record {
      monitors = begun.frame.monitors;
      go = begun.frame.go;
      first = begun.frame.first;
      last = begun.frame.first + 201 + length wide;
      actions = actions;
      phase = phase;
      finish = is.ends.finish;
      instances = begun.instances;
    }

    pub assembled_is : IsReady G weights → IsAssembled G weights (target_of begun actions ends) made
    assembled_is ready = record {
      questions = is.frame_is.questions;
      names = all_names;
      room = is.room;
      numbers = is.steps;
      monitors = is.frame_is.monitors;
      idle = length begun.names - begun.frame.go - 1;
      initial = is.initial_is;
      bits = bits_long ready;
      steps = subst (λ hard. AreOfSteps begun.frame.go begun.frame.first weights (take hard begun.frame.monitors) begun.frame.monitors (begun.frame.first + 201) (begun.frame.first + 201 + length wide) G.steps actions) is.frame_is.hard steps.are;
      actions = refl;
      goal = refl;
      accepts = is.ends.accepts;
      finish = is.ends.below;
      ends = is.ends.ends;
      instances = is.ends.accept_below;
      phase = record { count = refl; settles = end_actions ends are; reached = is.ends.reached };
    }

    atom_tidy : (atom : ℕ) → is_tidy (Atom atom) ≡ true
    unfolding look
    atom_tidy atom = refl

    pub tidy_target : HasTidyForms (target_of begun actions ends)
    tidy_target = record {
      goal = ap is_tidy is.ends.reached ∙ atom_tidy _;
      actions = list_all-append is_tidy_action actions ends ∙ and_from (list_all is_tidy_action actions) _ steps.tidy (phase_tidy begun.frame.go is.ends.finish begun.instances ends (end_actions ends are));
    }
