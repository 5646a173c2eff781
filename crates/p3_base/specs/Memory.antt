-- Files and a sink in memory, whose failures are planned by the numbers of the calls.
use Rattle.std.specs.Prelude.{ℕ, ◌+◌, ◌-◌, ◌^◌, ◌<◌, ◌==◌, ◌⊎◌, min, List, length, take, ◌++◌, Option, IsSome, unwrap_or, Result, Ok, Err, find, Contains, refl}
use Rattle.std.specs.Option.{option_map}
use Rattle.std.specs.Coded.{Coded, code_by, coded×, coded_ℕ, coded_list}
use Rattle.std.specs.FinMap.{code, insert}
use Rattle.p3_base.specs.Outside.{Store}
use Rattle.p3_base.specs.declared.error.ReadFault.{ReadFault}
use Rattle.p3_base.specs.declared.error.ReadFault.TheVariants as read_fault
use Rattle.p3_base.specs.declared.error.WriteFault.{WriteFault}
use Rattle.p3_base.specs.declared.error.WriteFault.TheVariants as write_fault
use Rattle.p3_base.specs.declared.error.SinkFailed.{SinkFailed}

-- one more, up to the greatest that the counter can reach
abbrev pub one_more : ℕ → ℕ
one_more n = min (n + 1) (2 ^ 64 - 1)

-- reads and writes are counted together from 0; a failure has the number of its call and how many bytes a write leaves
pub record FilesInMemory : Type 0 where
  pub held : Store
  pub calls : ℕ
  pub failures : List (ℕ × ℕ)
  pub read_faults : ℕ
  pub write_faults : ℕ

abbrev pub files_code : Coded FilesInMemory
files_code =
    code_by ((Store × ℕ) × (List (ℕ × ℕ) × (ℕ × ℕ)))
    (coded× (coded× (code (coded_list coded_ℕ) (coded_list coded_ℕ)) coded_ℕ) (coded× (coded_list (coded× coded_ℕ coded_ℕ)) (coded× coded_ℕ coded_ℕ)))
    (λ f. ((f.held, f.calls), (f.failures, (f.read_faults, f.write_faults))))
    (λ p. record { held = p.0.0; calls = p.0.1; failures = p.1.0; read_faults = p.1.1.0; write_faults = p.1.1.1 })
    (λ _. refl)

-- how many bytes a write leaves, where the call that comes next is to fail
abbrev pub planned : FilesInMemory → Option ℕ
planned files = option_map (λ failure. failure.1) (find (λ failure. failure.0 == files.calls) files.failures)

-- the call that comes next is to fail
abbrev pub IsPlanned : FilesInMemory → Type 0
IsPlanned files = IsSome (planned files)

-- the files with one more call counted
abbrev pub after_call : FilesInMemory → FilesInMemory
after_call files = record files { calls = one_more files.calls }

-- the files after a read
abbrev pub after_read : Result (Unit {0}) ReadFault → FilesInMemory → FilesInMemory
after_read (Err read_fault.Failed) files = record (after_call files) { read_faults = one_more files.read_faults }
after_read (Err read_fault.TooLong) files = after_call files
after_read (Err read_fault.NoMemory) files = after_call files
after_read (Ok done) files = after_call files

-- the files after a write of the bytes under the name
abbrev pub after_write : Result (Unit {0}) WriteFault → List ℕ → List ℕ → FilesInMemory → FilesInMemory
after_write (Ok done) name bytes files = record (after_call files) { held = insert files.held name bytes }
after_write (Err write_fault.Failed) name bytes files =
    record (after_call files) { held = insert files.held name (take (unwrap_or (planned files) 0) bytes); write_faults = one_more files.write_faults }
after_write (Err write_fault.NoMemory) name bytes files = after_call files

-- puts are counted from 0
pub record SinkInMemory : Type 0 where
  pub written : List ℕ
  pub room : ℕ
  pub puts : ℕ
  pub failing : List ℕ
  pub faults : ℕ

abbrev pub sink_code : Coded SinkInMemory
sink_code =
    code_by ((List ℕ × ℕ) × (ℕ × (List ℕ × ℕ)))
    (coded× (coded× (coded_list coded_ℕ) coded_ℕ) (coded× coded_ℕ (coded× (coded_list coded_ℕ) coded_ℕ)))
    (λ s. ((s.written, s.room), (s.puts, (s.failing, s.faults))))
    (λ p. record { written = p.0.0; room = p.0.1; puts = p.1.0; failing = p.1.1.0; faults = p.1.1.1 })
    (λ _. refl)

-- the put that comes next is to fail, or its bytes do not fit in what is left of the room
abbrev pub IsRefused : SinkInMemory → List ℕ → Type 0
IsRefused sink bytes = (Contains sink.failing sink.puts) ⊎ (sink.room < length sink.written + length bytes)

-- the sink after a put of the bytes
abbrev pub after_put : Result (Unit {0}) SinkFailed → List ℕ → SinkInMemory → SinkInMemory
after_put (Ok done) bytes sink = record sink { written = sink.written ++ bytes; puts = one_more sink.puts }
after_put (Err failed) bytes sink = record sink { puts = one_more sink.puts; faults = one_more sink.faults }

-- how often the machine's files failed
pub record FaultCounts : Type 0 where
  pub reads : ℕ
  pub writes : ℕ

abbrev pub counts_code : Coded FaultCounts
counts_code = code_by (ℕ × ℕ) (coded× coded_ℕ coded_ℕ) (λ c. (c.reads, c.writes)) (λ p. record { reads = p.0; writes = p.1 }) (λ _. refl)

-- how often they failed after a write: each answer but success is a fault of a write
abbrev pub after_counted_write : Result (Unit {0}) WriteFault → FaultCounts → FaultCounts
after_counted_write (Ok done) counts = counts
after_counted_write (Err fault) counts = record counts { writes = one_more counts.writes }
