use Rattle.std.proofs.Common.{◌≡◌, ◌∙◌, ℕ, [], ◌∷◌, List, length, take, drop, refl, sym, ap, subst, arith}
use Rattle.std.proofs.lemmas.Bool.{and_from}
use Rattle.p3_endphase.specs.Ends.{AreBelow}
use Rattle.p3_formula.specs.Forms.{is_below, truth}
use Rattle.p3_formula.specs.declared.form.Form.TheVariants.{Atom}
use Rattle.p3_monitors.specs.declared.monitoring.Monitor.{Monitor}
use Rattle.p3_simulation.specs.Monitoring.{AreSoftEnds, modals}
use Rattle.p3_simulation.proofs.Bounds.{below_more}
use Rattle.p3_compile.specs.Ending.{accepting, soft_ends}
use Rattle.p3_compile.proofs.EndLaws.{hard_inside, soft_are, finish_truth, accepting_below, cut_before, ends_below, are_soft_ends, ends_count}
use Rattle.p3_compile.proofs.FrameLaws.{frame_before, sources_inside}
use Rattle.p3_compile.proofs.begun.ending.Goals as goal

-- the monitors of the hard constraints, and the others
front_is : (count hard : ℕ) (monitors all part : List Monitor) → part ≡ take count monitors → count ≡ hard → monitors ≡ all → part ≡ take hard all
front_is count hard monitors all part cut here same = cut ∙ (λ i. take (here i) (same i))

back_is : (count hard : ℕ) (monitors all part : List Monitor) → part ≡ drop count monitors → count ≡ hard → monitors ≡ all → part ≡ drop hard all
back_is count hard monitors all part cut here same = cut ∙ (λ i. drop (here i) (same i))

pub split_at-requires : goal.split_at-requires
split_at-requires c = let h = hard_inside c.args.task.now c.args.frame.now c.requires.framed in let a = c.len.ensures in let b = ap length c.items.ensures in omega (arith, h, a, b)

pub soft_ends-requires-clause-modals : goal.soft_ends-requires-clause-modals
soft_ends-requires-clause-modals c =
    ap modals (back_is c.len.result (length c.args.task.now.hard) c.items.result.now c.args.frame.now.monitors c.split_at.result.1.now c.split_at.ensures.back c.len.ensures c.items.ensures) ∙ soft_are c.args.task.now c.args.frame.now c.requires.framed

pub finishing-requires : goal.finishing-requires
finishing-requires c = let questions = c.requires.framed.questions in let room = c.requires.framed.room in omega (arith, questions, room)

pub overflow_add-goal-2 : goal.overflow_add-goal-2
overflow_add-goal-2 c =
    let counted = ap length c.in_ok-instances.ensures ∙ ends_count c.args.weights.now.by_name c.args.task.now.soft c.split_at.result.1.now in
    let count = c.len-2.ensures in let questions = c.requires.framed.questions in let room = c.requires.framed.room in omega (arith, counted, count, questions, room)

pub returns : goal.returns
returns c =
    let go = c.args.frame.now.go in
    let hard = length c.args.task.now.hard in
    let monitors = c.args.frame.now.monitors in
    let front = front_is c.len.result hard c.items.result.now monitors c.split_at.result.0.now c.split_at.ensures.front c.len.ensures c.items.ensures in
    let back = back_is c.len.result hard c.items.result.now monitors c.split_at.result.1.now c.split_at.ensures.back c.len.ensures c.items.ensures in
    let finish = c.in_ok-finish.ensures ∙ ap (accepting (c.args.goal ∷ [])) front in
    let instances = c.in_ok-instances.ensures ∙ ap (soft_ends c.args.weights.now.by_name c.args.task.now.soft) back in
    let before = cut_before go hard monitors (frame_before c.args.task.now c.args.frame.now c.requires.framed c.requires.ready.atoms) in
    record {
      finish = c.in_ok-finish.finish;
      accepts = λ state. ap (truth state) finish ∙ finish_truth state c.args.goal (take hard monitors);
      below = ap (is_below go) finish
          ∙ accepting_below go (c.args.goal ∷ []) (take hard monitors) (and_from (is_below go c.args.goal) _ (below_more c.args.task.now.atoms go (sources_inside c.args.task.now c.args.frame.now c.requires.framed) c.args.goal c.requires.goal) refl) before.0;
      ends = subst (AreSoftEnds c.args.weights.now.by_name c.args.task.now.soft (drop hard monitors)) (sym instances) (are_soft_ends c.args.weights.now.by_name c.args.task.now.soft (drop hard monitors) (soft_are c.args.task.now c.args.frame.now c.requires.framed));
      accept_below = subst (AreBelow go) (sym instances) (ends_below go c.args.weights.now.by_name c.args.task.now.soft (drop hard monitors) before.1);
      counted = ap length c.in_ok-instances.ensures ∙ ends_count c.args.weights.now.by_name c.args.task.now.soft c.split_at.result.1.now;
      begins = c.in_ok-begin.ensures;
      reached = let count = c.len-2.ensures in ap Atom (omega (arith, count));
    }
