use Rattle.std.proofs.Common.{◌≡◌, ◌∙◌, ◌++◌, ℕ, List, ap, subst, sym}
use Rattle.std.specs.Prelude.{codes}
use Rattle.p3_writer.specs.Layout.{form_text, problem_text, set_atoms}
use Rattle.p3_writer.specs.TaskOf.{task_of}
use Rattle.p3_writer.specs.Texts.{IsProblemTextOf}
use Rattle.p3_writer.proofs.LayoutLemmas.{goal_begun}
use Rattle.p3_writer.proofs.Texts.Written.{problem_layout_is_text}
use Rattle.p3_writer.proofs.layout.write_problem_of.Goals as goal

pub returns : goal.returns
returns c =
    let laid : c.push-3.new.out.items ≡ problem_text c.args.names.now c.args.initial.now c.args.goal.now =
    rw (c.in_ok-push-3.ensures, c.in_ok-push_form.ensures, c.in_ok-push-2.ensures, c.in_ok-push_set_atoms.ensures, c.in_ok-push.ensures, c.in_ok-atoms.ensures, c.new-out.ensures.items)
    (ap (λ front. front ++ codes ")\n(:metric minimize (total-cost)))\n") (goal_begun (codes "(define (problem compiled)\n(:domain compiled)\n(:init (= (total-cost) 0)" ++ set_atoms c.args.initial.now c.args.names.now) (form_text c.args.names.now c.args.goal.now))) in
    record {
      layout = laid;
      text = λ X has can. subst (λ (bytes : List ℕ). IsProblemTextOf bytes (task_of X).problem) (sym (laid ∙ λ i. problem_text (sym has.predicates i) (sym has.initial i) (sym has.goal_is i)))
          (problem_layout_is_text X can.sized can.predicates can.spelled);
    }
