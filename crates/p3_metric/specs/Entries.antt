-- Numbers by name, of which all but a few are 0.
use Rattle.std.specs.Prelude.{◌≡◌, ℕ, ◌<◌, bytes_eq, ℤ, pos, ◌+ℤ◌, ◌*ℤ◌, if◌then◌else◌, unwrap_or, true, false}
use Rattle.std.specs.Int.RustNames.{unsigned_abs}
use denote.Ref.{Bor}
use Rattle.indexmap.specs.IndexMap.{IndexMap, get}
use Rattle.p3_metric.specs.declared.entries.Judged.{Judged}
use Rattle.p3_task.specs.Names.{Name, same_name}
use Rattle.p3_task.specs.Sides.{weight_bound}
use Rattle.p3_task.specs.Refusals.Metric.{is_within}

-- any reference to the name
abbrev pub key : Name → Bor Name
key name = record { ref_ptr = (0, 0); now = name }

-- the number of the name, 0 where it has no entry
unfoldable pub number_at : {S : Type 0} → IndexMap (Bor Name) ℤ S → Name → ℤ
number_at entries name = unwrap_or (get (λ x y. bytes_eq x.now y.now) entries (key name)) (pos 0)

-- each number has an absolute value below the bound
abbrev pub AreBelow : ℕ → (Name → ℤ) → Type 0
AreBelow bound numbers = (name : Name) → unsigned_abs (numbers name) < bound

-- each number is below the bound of weights
abbrev pub AreWithin : (Name → ℤ) → Type 0
AreWithin numbers = (name : Name) → is_within weight_bound (numbers name) ≡ true

-- one of the numbers is not
abbrev pub IsSomeLarge : (Name → ℤ) → Type 0
IsSomeLarge numbers = (name : Name) × (is_within weight_bound (numbers name) ≡ false)

-- the numbers with one changed
abbrev pub changed : (Name → ℤ) → Name → ℤ → Name → ℤ
changed numbers name number other = if same_name name other then number else numbers other

-- the numbers with those of a part added, each times the factor
abbrev pub poured : (Name → ℤ) → ℤ → (Name → ℤ) → Name → ℤ
poured numbers factor part name = numbers name +ℤ factor *ℤ part name

-- the numbers, each times the factor
abbrev pub products : ℤ → (Name → ℤ) → Name → ℤ
products factor numbers name = factor *ℤ numbers name

-- the numbers of two, each times a factor of its own
abbrev pub mixed : (Name → ℤ) → ℤ → (Name → ℤ) → ℤ → Name → ℤ
mixed first factor second other name = first name *ℤ factor +ℤ second name *ℤ other

-- entries with these numbers, of which it is known whether all are below the bound of weights
pub record IsJudged (expected : Name → ℤ) (judged : Judged) : Type 0 where
  pub numbers : (name : Name) → number_at judged.entries name ≡ expected name
  pub within : judged.within ≡ true → AreWithin (number_at judged.entries)
  pub large : judged.within ≡ false → IsSomeLarge (number_at judged.entries)
