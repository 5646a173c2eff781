use Rattle.std.proofs.Common.{◌≡◌, ◌+◌, ℕ, List, drop, false, Some, refl, sym, ap, subst, ◌∙◌, arith}
use Rattle.p3_base.specs.declared.refusal.Refusal.{Refusal}
use Rattle.p3_plans.specs.declared.before.Before.{Before}
use Rattle.p3_lexer.specs.Lexing as lexing
use Rattle.p3_lexer.specs.Lexing.{token_of, gap_len}
use Rattle.p3_task.specs.Tokens.{Tokens}
use Rattle.p3_task.specs.PlanTexts.{Outside}
use Rattle.p3_plans.specs.Befores.{the_before, begin_of, Passes}
use Rattle.p3_plans.specs.Steps.{StepText, Left, parts, place_of, nothing}
use Rattle.p3_plans.proofs.StepLemmas.{parts_end, parts_foreign, parts_refused, parts_more, parts_step, after_step, step_between, place_is, begins, begun_more, begun_done}
use Rattle.p3_plans.proofs.reader.next_step.Goals as goal

pub returns-in-Err-clause-steps : goal.returns-in-Err-clause-steps
returns-in-Err-clause-steps c =
    let before = c.loop-word.before in
    let here : Tokens → Left = parts c.args.text.now (the_before before) (begin_of before) in
    sym c.loop-word.invariant.leads ∙ ap here c.in-Token.ensures.tokens
    ∙ parts_refused c.args.text.now (the_before before) (begin_of before) (token_of c.in-Token.place c.in-Token.word.now) (lexing.left c.next.new.self) c.in-Err.refusal c.in-Err.ensures

pub returns-in-Outside-clause-steps : goal.returns-in-Outside-clause-steps
returns-in-Outside-clause-steps c =
    let before = c.loop-word.before in
    let here : Tokens → Left = parts c.args.text.now (the_before before) (begin_of before) in
    let token = token_of c.in-Token.place c.in-Token.word.now in
    let step : step_between c.args.text.now (begin_of before) (place_of token) ≡ record { at = c.step_at-step.result.offset; text = c.step_at-step.result.text.now } =
    rw (place_is c.in-Token.place c.in-Token.word.now, c.step_at-step.ensures.text, c.step_at-step.ensures.offset, c.begin.ensures) refl in
    sym c.loop-word.invariant.leads ∙ ap here c.in-Token.ensures.tokens
    ∙ parts_step c.args.text.now before c.in-Outside.steps token (lexing.left c.next.new.self) (subst (λ (later : Before). Passes before token later) c.in-Outside.is c.in-Ok.ensures)
    ∙ ap (λ (s : StepText). after_step s (parts c.args.text.now (Outside c.in-Outside.steps) 0 (lexing.left c.next.new.self))) step

pub loop-word-preserved : goal.loop-word-preserved
loop-word-preserved c =
    let before = c.loop-word.before in
    let here : Tokens → Left = parts c.args.text.now (the_before before) (begin_of before) in
    record {
      source = c.in-Token.ensures.source ∙ c.loop-word.invariant.source;
      leads = sym (parts_more c.args.text.now before c.in-Ok.later (token_of c.in-Token.place c.in-Token.word.now) (lexing.left c.next.new.self) c.in-Ok.ensures c.in_default.not-Outside)
          ∙ sym (ap here c.in-Token.ensures.tokens) ∙ c.loop-word.invariant.leads;
      begins = begins before c.in-Ok.later c.in-Token.place c.in-Token.word.now c.next.new.self.at c.in-Ok.ensures (omega (arith, c.loop-word.invariant.begins, c.in-Token.ensures.slice.behind_gap, c.in-Token.ensures.slice.ends)) (omega (arith, c.in-Token.ensures.slice.ends));
      gap = begun_more c.args.text.now _ c.loop-word.lexer.at c.next.new.self.at c.in-Token.place c.in-Token.word.now before c.in-Ok.later c.in-Ok.ensures c.in_default.not-Outside
          (c.in-Token.ensures.slice.behind_gap ∙ ap (λ (source : List ℕ). c.loop-word.lexer.at + gap_len false (drop c.loop-word.lexer.at source)) c.loop-word.invariant.source) c.loop-word.invariant.gap;
    }

pub returns-in-Outside-clause-gap : goal.returns-in-Outside-clause-gap
returns-in-Outside-clause-gap c =
    c.step_at-step.ensures.offset ∙ c.begin.ensures
    ∙ begun_done c.args.text.now _ c.loop-word.lexer.at c.in-Outside.steps (token_of c.in-Token.place c.in-Token.word.now) c.loop-word.before (subst (λ (later : Before). Passes c.loop-word.before (token_of c.in-Token.place c.in-Token.word.now) later) c.in-Outside.is c.in-Ok.ensures) c.loop-word.invariant.gap

pub returns-in-End-clause-steps : goal.returns-in-End-clause-steps
returns-in-End-clause-steps c =
    let before = c.loop-word.before in
    let here : Tokens → Left = parts c.args.text.now (the_before before) (begin_of before) in
    sym c.loop-word.invariant.leads ∙ ap here c.in-End.ensures.tokens ∙ parts_end c.args.text.now (the_before before) (begin_of before)
    ∙ sym (c.end_of.ensures.offence (parts c.args.text.now (Outside c.args.given) 0 (lexing.left c.next.new.self)))

pub returns-in-Bad-clause-steps : goal.returns-in-Bad-clause-steps
returns-in-Bad-clause-steps c =
    let before = c.loop-word.before in
    let here : Tokens → Left = parts c.args.text.now (the_before before) (begin_of before) in
    sym c.loop-word.invariant.leads ∙ ap here c.in-Bad.ensures.tokens ∙ parts_foreign c.args.text.now (the_before before) (begin_of before) c.in-Bad.place
    ∙ ap (λ (refusal : Refusal). nothing (Some refusal)) (sym c.refusal.ensures)

pub returns-in-End-clause-gap : goal.returns-in-End-clause-gap
returns-in-End-clause-gap c = c.end_of.ensures.gap c.args.text.now c.args.lexer.now.at
