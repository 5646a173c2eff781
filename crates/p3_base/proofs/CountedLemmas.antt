-- What a write of the machine's files is seen to do, by its answer.
use Rattle.std.proofs.Common.{◌≡◌, ◌≢◌, ℕ, ◌-◌, ◌^◌, ◌≤◌, ⊎_elim, inl, inr, refl, ap, sym, subst, arith, Result, Ok, Err, Option, None}
use Rattle.std.specs.Prelude.{OnOk, IsErrOf}
use Rattle.std.proofs.lemmas.Bool.{cases_lt}
use Rattle.p3_base.specs.Memory.{FaultCounts, after_counted_write, one_more}
use Rattle.p3_base.specs.Outside.{Rose, Store}
use Rattle.p3_base.specs.declared.error.WriteFault.{WriteFault}
use Rattle.p3_base.specs.declared.error.WriteFault.TheVariants as fault

-- a counter with one more has risen
rose : (before : ℕ) → Rose before (one_more before)
rose before = ⊎_elim (λ low. inl (omega (arith, low))) (λ high. inr (omega (arith, high))) (cases_lt before (2 ^ 64 - 2))

pub record Counted (result : Result (Unit {0}) WriteFault) (before after : FaultCounts) : Type 0 where
  pub ok : OnOk result (◌≡◌ {A = Option Store} None None)
  pub failed : IsErrOf result fault.Failed → Rose before.writes after.writes
  pub reads_grow : before.reads ≤ after.reads

pub counted : (result : Result (Unit {0}) WriteFault) (before after : FaultCounts) → result ≢ Err fault.NoMemory → after ≡ after_counted_write result before → Counted result before after
counted (Ok done) before after never is = record {
  ok = refl;
  failed = λ fails. absurd (cc);
  reads_grow = let same : after.reads ≡ before.reads = ap (λ (counts : FaultCounts). counts.reads) is in omega (arith, same);
}
counted (Err _) before after never is = record {
  ok = tt;
  failed = λ _. subst (λ (counts : FaultCounts). Rose before.writes counts.writes) (sym is) (rose before.writes);
  reads_grow = let same : after.reads ≡ before.reads = ap (λ (counts : FaultCounts). counts.reads) is in omega (arith, same);
}
