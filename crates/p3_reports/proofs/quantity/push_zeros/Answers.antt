use Rattle.std.proofs.Common.{◌∙◌, [], ◌∷◌, ◌++◌, ap, append_assoc, arith, sym}
use Rattle.std.proofs.lemmas.List.FromFn.{map-range_with_len_more}
use Rattle.p3_reports.specs.Zeros.{zeros}
use Rattle.p3_reports.proofs.quantity.push_zeros.Goals as goal

pub loop-place-preserved : goal.loop-place-preserved
loop-place-preserved c =
    let old = c.args.text.now.bytes in
    let place = c.loop-place.place in
    record {
      bytes = c.push_str.ensures.bytes ∙ ap (λ bytes. bytes ++ 48 ∷ []) c.loop-place.invariant.bytes ∙ append_assoc old (zeros place) (48 ∷ [])
          ∙ ap (λ more. old ++ more) (sym (map-range_with_len_more (λ n. 48) 0 place place (omega arith)));
      len = omega arith;
    }
