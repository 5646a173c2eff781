use Rattle.std.proofs.Common.{◌∙◌, sym, ap, length, arith}
use Rattle.p3_lexer.specs.Lexing.{left, token_of}
use Rattle.p3_outline.specs.Balances.{depth}
use Rattle.p3_outline.proofs.BalanceLemmas.{scan_more, scan_ends, one_deeper}
use Rattle.p3_outline.proofs.balance.first_refusal.Goals as goal

pub loop-word-preserved : goal.loop-word-preserved
loop-word-preserved c =
    let token = token_of c.in-Token.offset c.in-Token.word.now in
    let leads = rw (c.next.ensures.tokens, c.in-Token.is) at c.loop-word.invariant.leads in
    let slice = c.in-Token.ensures.slice in
    let deeper = one_deeper c.args.role c.args.limit c.loop-word.scan token in
    let same = ap depth c.with_token-scan.ensures in
    record {
      source = c.next.ensures.source ∙ c.loop-word.invariant.source;
      deep = omega (arith, deeper, same, c.loop-word.invariant.deep, slice.some, slice.ends, slice.behind_gap);
      leads = sym (scan_more c.args.role c.args.limit (length c.args.text.now) c.loop-word.scan c.with_token-scan.result token (left c.next.new.self) c.with_token-scan.ensures) ∙ leads;
    }

pub returns-in-End : goal.returns-in-End
returns-in-End c =
    let leads = rw (c.next.ensures.tokens, c.in-End.is) at c.loop-word.invariant.leads in
    c.at_end.ensures ∙ sym (scan_ends c.args.role c.args.limit (length c.args.text.now) c.loop-word.scan) ∙ leads
