use Rattle.std.proofs.Common.{Some, sym, ap, subst, ◌∙◌}
use Rattle.std.proofs.lemmas.Result.{err_from_is_err_and}
use Rattle.p3_base.specs.declared.refusal.Refusal.{Refusal}
use Rattle.p3_lexer.specs.Lexing.{left, token_of}
use Rattle.p3_task.specs.Tokens.{Tokens}
use Rattle.p3_plans.proofs.DraftLemmas.{IsRead, read_more, read_foreign, fail_here, whole_free, whole_few, whole_refused}
use Rattle.p3_plans.proofs.ReadLemmas.{whole_is_writable}
use Rattle.p3_plans.proofs.read.read_plan.Goals as goal

pub returns-in_err-draft-in-Token-clause-refused : goal.returns-in_err-draft-in-Token-clause-refused
returns-in_err-draft-in-Token-clause-refused c =
    let is_read = subst (λ (t : Tokens). IsRead c.args.text.now c.loop-word.draft t) c.in-Token.ensures.tokens c.loop-word.invariant.read in
    let p = err_from_is_err_and c.from_residual.result c.from_residual.ensures.1 in
    rw (p.1, p.2)
    (fail_here c.args.text.now c.loop-word.draft (token_of c.in-Token.place c.in-Token.word.now) (left c.next.new.self) c.in_err-draft-in-Token.field-0.0 is_read c.in_err-draft-in-Token.ensures)

pub loop-word-preserved : goal.loop-word-preserved
loop-word-preserved c =
    let is_read = subst (λ (t : Tokens). IsRead c.args.text.now c.loop-word.draft t) c.in-Token.ensures.tokens c.loop-word.invariant.read in
    record {
      source = c.in-Token.ensures.source ∙ c.loop-word.invariant.source;
      read = read_more c.args.text.now c.loop-word.draft (token_of c.in-Token.place c.in-Token.word.now) (left c.next.new.self) is_read c.in_ok-draft-in-Token.draft c.in_ok-draft-in-Token.ensures;
    }

pub returns-in-End-clause-writable : goal.returns-in-End-clause-writable
returns-in-End-clause-writable c =
    let is_read = subst (λ (t : Tokens). IsRead c.args.text.now c.loop-word.draft t) c.in-End.ensures.tokens c.loop-word.invariant.read in
    whole_is_writable c.args.text.now c.loop-word.draft is_read c.whole.result c.whole.ensures

pub returns-in-End-clause-free : goal.returns-in-End-clause-free
returns-in-End-clause-free c =
    let is_read = subst (λ (t : Tokens). IsRead c.args.text.now c.loop-word.draft t) c.in-End.ensures.tokens c.loop-word.invariant.read in
    whole_free c.args.text.now c.loop-word.draft is_read c.whole.result c.whole.ensures

pub returns-in-End-clause-few : goal.returns-in-End-clause-few
returns-in-End-clause-few c =
    let is_read = subst (λ (t : Tokens). IsRead c.args.text.now c.loop-word.draft t) c.in-End.ensures.tokens c.loop-word.invariant.read in
    whole_few c.args.text.now c.loop-word.draft is_read c.whole.result c.whole.ensures

pub returns-in-End-clause-refused : goal.returns-in-End-clause-refused
returns-in-End-clause-refused c =
    let is_read = subst (λ (t : Tokens). IsRead c.args.text.now c.loop-word.draft t) c.in-End.ensures.tokens c.loop-word.invariant.read in
    whole_refused c.args.text.now c.loop-word.draft is_read c.whole.result c.whole.ensures

pub returns-in-Bad-clause-refused : goal.returns-in-Bad-clause-refused
returns-in-Bad-clause-refused c =
    let is_read = subst (λ (t : Tokens). IsRead c.args.text.now c.loop-word.draft t) c.in-Bad.ensures.tokens c.loop-word.invariant.read in
    read_foreign c.args.text.now c.loop-word.draft c.in-Bad.place is_read ∙ ap (λ (r : Refusal). Some r) (sym c.refusal.ensures)
