use Rattle.std.proofs.Common.{inl, refl}
use Rattle.p3_base.proofs.CountedLemmas.{counted}
use Rattle.p3_base.proofs.real_files.RealFilesFiles.TheImpl.Goals as goal

pub write-tells : goal.write-tells
write-tells g c =
    let seen = counted c.result c.args.self.now c.new.self.now c.ensures.never_wants_memory c.ensures.state in
    record {
      ok = seen.ok;
      failed = seen.failed;
      partly = λ _. inl refl;
      no_memory = λ wants. absurd (c.ensures.never_wants_memory wants);
      sure_stays = refl;
      read_faults_grow = seen.reads_grow;
      write_faults_grow = c.ensures.writes_grow;
    }
