use Rattle.std.proofs.Common.{◌≡◌, ◌∙◌, ◌+◌, ◌-◌, ◌≤◌, ℕ, List, length, get_or, sym, ap, subst, arith}
use Rattle.std.proofs.Math.Logic.{∥∥₁_elim}
use Rattle.std.proofs.Math.Nat.{ℕ_set}
use Rattle.std.proofs.lemmas.List.{get_or_default}
use Rattle.p3_base.specs.Place.{line_of}
use Rattle.p3_accounts.specs.Starts.{AreStarts, bytes_before, feeds}
use Rattle.p3_accounts.proofs.LineLemmas.{same_column, same_line}
use Rattle.p3_accounts.proofs.lines.Lines.spot.Goals as goal

-- the line is that of the offset, and begins where its bytes do
line_there : (text starts lent : List ℕ) (offset line : ℕ) → ∥ AreStarts text (length text) starts ∥₁ → lent ≡ starts → offset ≤ length text
    → ((text : List ℕ) → AreStarts text (length text) lent → offset ≤ length text → line ≡ feeds text offset + 1) → line ≡ feeds text offset + 1
line_there text starts lent offset line begin same within told = ∥∥₁_elim begin (ℕ_set _ _) (λ are. told text (subst (AreStarts text (length text)) (sym same) are) within)

start_there : (text starts : List ℕ) (offset : ℕ) → ∥ AreStarts text (length text) starts ∥₁ → offset ≤ length text → get_or starts (feeds text offset) 0 + bytes_before text offset ≡ offset
start_there text starts offset begin within = ∥∥₁_elim begin (ℕ_set _ _) (λ are. are.begin offset within)

pub overflow_sub-line : goal.overflow_sub-line
overflow_sub-line c =
    let self = c.args.self.now in
    let within : c.clipped-offset.result ≤ length self.text.now = omega (arith, c.clipped-offset.ensures) in
    let line = line_there self.text.now self.starts.items c.as_slice.result.now c.clipped-offset.result c.line_at-line.result self.begin c.as_slice.ensures.value within c.line_at-line.ensures.line in
    omega (arith, line)

pub index-requires : goal.index-requires
index-requires c =
    let self = c.args.self.now in
    let within : c.clipped-offset.result ≤ length self.text.now = omega (arith, c.clipped-offset.ensures) in
    let line = line_there self.text.now self.starts.items c.as_slice.result.now c.clipped-offset.result c.line_at-line.result self.begin c.as_slice.ensures.value within c.line_at-line.ensures.line in
    omega (arith, line, c.line_at-line.ensures.bound, c.as_slice.ensures.len)

-- the start that is read is that of the line
start_read : (starts : List ℕ) (line start feeds : ℕ) → start ≡ get_or starts (line - 1) start → line ≡ feeds + 1 → line ≤ length starts → start ≡ get_or starts feeds 0
start_read starts line start feeds is line_is bound =
    is ∙ get_or_default starts (line - 1) start 0 (omega (arith, line_is, bound)) ∙ ap (λ n. get_or starts n 0) (let same : line - 1 ≡ feeds = omega (arith, line_is) in same)

pub overflow_sub-result : goal.overflow_sub-result
overflow_sub-result c =
    let self = c.args.self.now in
    let offset = c.clipped-offset.result in
    let within : offset ≤ length self.text.now = omega (arith, c.clipped-offset.ensures) in
    let line = line_there self.text.now self.starts.items c.as_slice.result.now offset c.line_at-line.result self.begin c.as_slice.ensures.value within c.line_at-line.ensures.line in
    let bound : c.line_at-line.result ≤ length self.starts.items = subst (λ starts. c.line_at-line.result ≤ length starts) c.as_slice.ensures.value c.line_at-line.ensures.bound in
    let at = start_read self.starts.items c.line_at-line.result c.index.result.now (feeds self.text.now offset) c.index.ensures line bound in
    let begin = start_there self.text.now self.starts.items offset self.begin within in
    omega (arith, at, begin)

pub returns : goal.returns
returns c =
    let self = c.args.self.now in
    let text = self.text.now in
    let offset = c.clipped-offset.result in
    let within : offset ≤ length text = omega (arith, c.clipped-offset.ensures) in
    let line = line_there text self.starts.items c.as_slice.result.now offset c.line_at-line.result self.begin c.as_slice.ensures.value within c.line_at-line.ensures.line in
    let bound : c.line_at-line.result ≤ length self.starts.items = subst (λ starts. c.line_at-line.result ≤ length starts) c.as_slice.ensures.value c.line_at-line.ensures.bound in
    let at = start_read self.starts.items c.line_at-line.result c.index.result.now (feeds text offset) c.index.ensures line bound in
    let begin = start_there text self.starts.items offset self.begin within in
    let column : offset - c.index.result.now + 1 ≡ bytes_before text offset + 1 = omega (arith, at, begin) in
    λ i. record {
      file = c.args.file;
      line = (line ∙ ap (line_of text) c.clipped-offset.ensures ∙ same_line text c.args.offset) i;
      column = (column ∙ ap (λ n. bytes_before text n + 1) c.clipped-offset.ensures ∙ same_column text c.args.offset) i;
    }
