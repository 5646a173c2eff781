use Rattle.std.proofs.Common.{arith, ◌∙◌, ◌^◌, ◌<◌, sym, subst, pos, ◌+ℤ◌, ℤ}
use Rattle.std.specs.Int.RustNames.{unsigned_abs}
use Rattle.p3_metric.specs.Entries.{changed}
use Rattle.p3_metric.proofs.EntryLemmas.{number_at_none}
use Rattle.p3_metric.proofs.entries.one_entry.Goals as goal

pub add-requires : goal.add-requires
add-requires c = record {
  fits = let P : ℤ → Type 0 = λ z. unsigned_abs (z +ℤ pos 1) < 2 ^ 127 in subst P (sym (number_at_none c.with_hasher-entries.result c.with_hasher-entries.ensures.empty c.args.name.now)) (omega arith);
}

pub returns : goal.returns
returns c = λ other.
    c.in_ok-add.ensures.sum other
    ∙ (λ i. changed (λ name. number_at_none c.with_hasher-entries.result c.with_hasher-entries.ensures.empty name i) c.args.name.now (number_at_none c.with_hasher-entries.result c.with_hasher-entries.ensures.empty c.args.name.now i +ℤ pos 1) other)
