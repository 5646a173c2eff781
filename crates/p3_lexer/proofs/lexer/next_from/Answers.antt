use Rattle.std.proofs.Common.{false, sym, ◌∙◌, arith}
use Rattle.p3_lexer.proofs.TokenLemmas.{tokens_behind, tokens_end, tokens_bad, tokens_token}
use Rattle.p3_lexer.proofs.lexer.next_from.Goals as goal

pub returns-then-place-text-clause-tokens : goal.returns-then-place-text-clause-tokens
returns-then-place-text-clause-tokens c =
    tokens_behind c.args.text.now c.args.at c.gap_end-place.result c.gap_end-place.ensures.end ∙ tokens_end false c.args.text.now c.gap_end-place.result (omega arith)

pub returns-then-place-text-clause-rests : goal.returns-then-place-text-clause-rests
returns-then-place-text-clause-rests c = sym (tokens_behind c.args.text.now c.args.at c.gap_end-place.result c.gap_end-place.ensures.end)

pub returns-then-end-place-clause-tokens : goal.returns-then-end-place-clause-tokens
returns-then-end-place-clause-tokens c =
    tokens_behind c.args.text.now c.args.at c.gap_end-place.result c.gap_end-place.ensures.end
    ∙ tokens_bad c.args.text.now c.gap_end-place.result c.token_end-end.result (omega arith) c.token_end-end.ensures.end (c.gap_end-place.ensures.stands (omega arith)) c.if-end-place.true

pub returns-then-end-place-clause-rests : goal.returns-then-end-place-clause-rests
returns-then-end-place-clause-rests c = sym (tokens_behind c.args.text.now c.args.at c.gap_end-place.result c.gap_end-place.ensures.end)

pub returns-else-end-place-clause-tokens : goal.returns-else-end-place-clause-tokens
returns-else-end-place-clause-tokens c =
    tokens_behind c.args.text.now c.args.at c.gap_end-place.result c.gap_end-place.ensures.end
    ∙ tokens_token c.args.text.now c.gap_end-place.result c.token_end-end.result (omega arith) c.token_end-end.ensures.end c.if-end-place.false
