use Rattle.std.proofs.Common.{◌∙◌, Err, sym, ap, subst, arith, get_or}
use Rattle.p3_base.specs.Outside.{holding, IsPartlyWritten}
use Rattle.p3_base.specs.declared.refusal.Role.TheVariants as role
use Rattle.p3_cli.specs.Store.{holding_all}
use Rattle.p3_cli.specs.Texts.{all_made, made_of}
use Rattle.p3_cli.proofs.WrittenFiles.{all_files, failed_there, file_at, is_there, one_more_file}
use Rattle.p3_cli.proofs.StoreLemmas.{rose_later}
use Rattle.p3_cli.proofs.store.write_all.Goals as goal

pub returns-in-Err-Failed-clause-err : goal.returns-in-Err-Failed-clause-err
returns-in-Err-Failed-clause-err g c =
    let seen = g.F.Files.seen in
    let name = c.index-names-place.result in
    let here = file_at c.args.roles.now c.args.names.now (all_made c.args.made.now) c.loop-place.place role.Domain name c.loop-place-test.true c.requires c.index-names-place.is in
    let partly = subst (λ bytes. IsPartlyWritten name bytes (seen c.loop-place.files).held (seen c.write.new.self).held) c.of.ensures (c.in-Err-Failed.ensures.partly (ap Err c.in-Err-Failed.field-0-is)) in
    (failed_there _ c.loop-place.place _ (seen c.args.files.now).held _ _ here c.loop-place.invariant.held partly, rose_later _ _ _ c.loop-place.invariant.writes (c.in-Err-Failed.ensures.failed (ap Err c.in-Err-Failed.field-0-is)))

pub returns-in-Err-NoMemory-clause-err : goal.returns-in-Err-NoMemory-clause-err
returns-in-Err-NoMemory-clause-err g c =
    let name = c.index-names-place.result in
    let here = file_at c.args.roles.now c.args.names.now (all_made c.args.made.now) c.loop-place.place role.Domain name c.loop-place-test.true c.requires c.index-names-place.is in
    (c.loop-place.place, is_there _ c.loop-place.place _ here, ap (λ seen. seen.held) (c.in-Err-NoMemory.ensures.no_memory (ap Err c.in-Err-NoMemory.field-0-is)) ∙ c.loop-place.invariant.held)

pub loop-place-preserved : goal.loop-place-preserved
loop-place-preserved g c =
    let seen = g.F.Files.seen in
    let name = c.index-names-place.result in
    let text = made_of (get_or c.args.roles.now c.loop-place.place role.Domain) (all_made c.args.made.now) in
    let here = file_at c.args.roles.now c.args.names.now (all_made c.args.made.now) c.loop-place.place role.Domain name c.loop-place-test.true c.requires c.index-names-place.is in
    record {
      held = c.in-Ok.ensures.ok ∙ ap (λ bytes. holding name bytes (seen c.loop-place.files).held) c.of.ensures ∙ ap (holding name text) c.loop-place.invariant.held
          ∙ sym (one_more_file _ c.loop-place.place _ (seen c.args.files.now).held here);
      reads = omega (arith, c.in-Ok.ensures.read_faults_grow, c.loop-place.invariant.reads);
      writes = omega (arith, c.in-Ok.ensures.write_faults_grow, c.loop-place.invariant.writes);
    }

pub returns-clause-ok : goal.returns-clause-ok
returns-clause-ok g c =
    c.loop-place.invariant.held ∙ ap (λ all. holding_all all (g.F.Files.seen c.args.files.now).held) (all_files c.args.roles.now c.args.names.now (all_made c.args.made.now) c.loop-place.place (omega (arith, c.loop-place-test.false)))
