use Rattle.std.proofs.Common.{◌<◌, [], length, get_or, subst}
use Rattle.std.proofs.lemmas.Option.{slice_get-get_or}
use Rattle.p3_steps.proofs.LinkLemmas.{filed-more}
use Rattle.p3_steps.proofs.links.filed.Goals as goal

pub loop-number-preserved : goal.loop-number-preserved
loop-number-preserved c =
    let facts = c.args.facts.now in
    let number = c.loop-number.number in
    let within : number < length facts = subst (λ n. number < n) c.len-number-end.ensures.value c.loop-number-test.true in
    filed-more c.args.predicate c.args.key c.args.place facts number c.loop-number.files.items c.file_numbered.new.files.items within c.loop-number.invariant
    (c.in_ok-file_numbered.ensures (get_or facts number []) (slice_get-get_or facts number [] within))
