use Rattle.std.proofs.Common.{◌≡◌, ◌∙◌, ◌++◌, ◌-◌, length, sym, ap, arith}
use Rattle.std.specs.Prelude.{codes}
use Rattle.std.specs.List.{list_any}
use Rattle.std.proofs.lemmas.List.{append-nil}
use Rattle.p3_simulation.specs.Naming.{all_numbered, is_wide, question_names}
use Rattle.p3_compile.proofs.FrameLaws.{some_questions, no_questions}
use Rattle.p3_compile.proofs.begun.push_questions.Goals as goal

pub returns-in_ok-push_numbered : goal.returns-in_ok-push_numbered
returns-in_ok-push_numbered c =
    let some = ap (list_any (is_wide c.args.weights.now.by_name)) (sym c.items.ensures) ∙ sym c.has_wide.ensures ∙ c.if-has_wide.true in
    let number : length c.args.names.now - c.len-first.result ≡ 0 = (let e = c.len-first.ensures in omega (arith, e)) in
    c.in_ok-push_numbered.ensures
    ∙ ap (λ n. c.args.names.now ++ all_numbered (codes "h") n 201) number
    ∙ ap (λ names. c.args.names.now ++ names) (sym (some_questions c.args.weights.now.by_name c.args.task.now.steps some))

pub returns-else-has_wide : goal.returns-else-has_wide
returns-else-has_wide c =
    let none = ap (list_any (is_wide c.args.weights.now.by_name)) (sym c.items.ensures) ∙ sym c.has_wide.ensures ∙ c.if-has_wide.false in
    sym (append-nil c.args.names.now) ∙ ap (λ wide. c.args.names.now ++ question_names wide) (sym (no_questions c.args.weights.now.by_name c.args.task.now.steps none))
