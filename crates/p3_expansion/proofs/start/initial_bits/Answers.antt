use Rattle.std.proofs.Common.{◌∙◌, [], ◌++◌, ◌<◌, ◌≤◌, false, length, map, take, drop, get_or, sym, ap, subst, add-one}
use Rattle.std.specs.Prelude.{replicate, slice_set, bytes_eq}
use Rattle.std.specs.List.{list_any}
use Rattle.std.proofs.lemmas.List.{length-set, length-replicate}
use Rattle.std.proofs.lemmas.Option.{slice_get-get_or}
use Rattle.p3_expansion.specs.Statics.{start_bits}
use Rattle.p3_expansion.proofs.StartLemmas.{none-set, bits-next, bits-all}
use Rattle.p3_expansion.proofs.start.initial_bits.Goals as goal

pub loop-number-init : goal.loop-number-init
loop-number-init c = record {
  long = ap length c.in_ok-bits.ensures ∙ length-replicate c.len-count.result false ∙ c.len-count.ensures.value;
  passed = c.in_ok-bits.ensures ∙ ap (λ n. replicate n false) c.len-count.ensures.value ∙ none-set c.args.atoms.now;
}

pub loop-number-preserved : goal.loop-number-preserved
loop-number-preserved c =
    let S = c.args.statics.now in
    let atoms = c.args.atoms.now in
    let k = c.loop-number.number in
    let atom = get_or atoms k [] in
    let within : k < length atoms = subst (λ n. k < n) c.len-count.ensures.value c.loop-number-test.true in
    let here = slice_get-get_or atoms k [] within in
    let is = c.note_bit.ensures atom here in
    record {
      long = ap length is ∙ length-set c.loop-number.bits k (list_any (bytes_eq atom) S.facts) ∙ c.loop-number.invariant.long;
      passed =
          is ∙ ap (λ bits. slice_set bits k (list_any (bytes_eq atom) S.facts)) c.loop-number.invariant.passed ∙ bits-next S atoms k atom here
          ∙ ap (λ n. start_bits S (take n atoms) ++ map (λ atom. false) (drop n atoms)) (sym (add-one k));
    }

pub returns : goal.returns
returns c = c.loop-number.invariant.passed ∙ bits-all c.args.statics.now c.args.atoms.now c.loop-number.number (subst (λ n. n ≤ c.loop-number.number) c.len-count.ensures.value c.loop-number-test.false)
