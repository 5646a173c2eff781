-- Linear forms: what an expression comes to for all counts and total costs.
use Rattle.std.specs.Prelude.{◌≡◌, ℕ, ◌+◌, ◌-◌, ◌^◌, ◌<◌, ◌≤◌, ◌⊎◌, max, Bool, true, false, if◌then◌else◌, ◌||◌, ℤ, pos, negsuc, ◌+ℤ◌, ◌-ℤ◌, ◌*ℤ◌}
use Rattle.std.specs.Int.RustNames.{unsigned_abs}
use Rattle.p3_task.specs.Names.{Name, same_name}
use Rattle.p3_task.specs.Metrics.{Quantity, in_units, no_counts, one_count, quantity}
use Rattle.p3_task.specs.Sides.{weight_bound}
use Rattle.p3_task.specs.Refusals.Metric.{is_within}
use Rattle.p3_task.specs.declared.metric.Num.{Num}
use Rattle.p3_task.specs.declared.task.Task.{Task}
use Rattle.p3_metric.specs.Entries.{AreWithin, IsSomeLarge, number_at}
use Rattle.p3_metric.specs.Factors.{has_mention}
use Rattle.p3_metric.specs.declared.linear.Linear.{Linear}

-- the sum and the product of two quantities
abbrev pub plus : Quantity → Quantity → Quantity
plus first second = let places = max first.places second.places in record { places = places; units = in_units places first +ℤ in_units places second }

abbrev pub times : Quantity → Quantity → Quantity
times first second = record { places = first.places + second.places; units = first.units *ℤ second.units }

-- an expression at counts and at a total cost
abbrev pub Part : Type 0
Part = (Name → ℕ) → ℕ → Quantity

-- the decimal places are the same at all of them
abbrev pub HasPlaces : Part → Type 0
HasPlaces F = (counts : Name → ℕ) (cost : ℕ) → (F counts cost).places ≡ (F no_counts 0).places

-- the form has the constant and the coefficients of the expression, in the expression's units
pub record IsForm (F : Part) (form : Linear) : Type 0 where
  pub places : form.places ≡ (F no_counts 0).places
  pub constant : form.constant ≡ (F no_counts 0).units
  pub cost : form.cost ≡ (F no_counts 1).units -ℤ (F no_counts 0).units
  pub counts : (name : Name) → number_at form.counts name ≡ (F (one_count name) 0).units -ℤ (F no_counts 0).units

pub record IsFormOf (T : Task) (tree : Num) (form : Linear) : Type 0 where
  pub numbers : IsForm (λ counts cost. quantity T counts cost tree) form
  pub mention : form.mention ≡ has_mention tree

-- ---- numbers of forms

-- the sum of two numbers of these places, in the units of the greater
abbrev pub combined : ℕ → ℕ → ℤ → ℤ → ℤ
combined p q first second = first *ℤ pos (10 ^ (max p q - p)) +ℤ second *ℤ pos (10 ^ (max p q - q))

pub record IsSum (first second sum : Linear) : Type 0 where
  pub places : sum.places ≡ max first.places second.places
  pub constant : sum.constant ≡ combined first.places second.places first.constant second.constant
  pub cost : sum.cost ≡ combined first.places second.places first.cost second.cost
  pub counts : (name : Name) → number_at sum.counts name ≡ combined first.places second.places (number_at first.counts name) (number_at second.counts name)

-- each number is multiplied
pub record IsScaled (form : Linear) (factor : ℤ) (more : ℕ) (product : Linear) : Type 0 where
  pub places : product.places ≡ form.places + more
  pub constant : product.constant ≡ form.constant *ℤ factor
  pub cost : product.cost ≡ form.cost *ℤ factor
  pub counts : (name : Name) → number_at product.counts name ≡ number_at form.counts name *ℤ factor

-- the sum of the first and of the negation of the second
pub record IsDifference (first second difference : Linear) : Type 0 where
  pub negation : Linear
  pub negated : IsScaled second (negsuc 0) 0 negation
  pub same_mention : negation.mention ≡ second.mention
  pub sum : IsSum first negation difference
  pub mention : difference.mention ≡ (first.mention || negation.mention)

-- the coefficients are below the bound of weights
pub record HasSmallCoefficients (form : Linear) : Type 0 where
  pub cost : is_within weight_bound form.cost ≡ true
  pub counts : AreWithin (number_at form.counts)

pub record IsSmall (form : Linear) : Type 0 where
  pub constant : is_within weight_bound form.constant ≡ true
  pub coefficients : HasSmallCoefficients form

-- a form whose sums and products with others fit
pub record IsBounded (form : Linear) : Type 0 where
  pub places : form.places ≤ 6
  pub constant : unsigned_abs form.constant < 2 ^ 64
  pub coefficients : HasSmallCoefficients form

-- the constant or a coefficient is not
abbrev pub IsLarge : Linear → Type 0
IsLarge form = (is_within weight_bound form.constant ≡ false) ⊎ ((is_within weight_bound form.cost ≡ false) ⊎ IsSomeLarge (number_at form.counts))

-- the form of a leaf: its decimal places, its constant, and what each unit of the total cost and each count adds
pub record IsLeaf (after_point : ℕ) (number per_cost : ℤ) (per_count : Name → ℤ) (mentions : Bool) (form : Linear) : Type 0 where
  pub places : form.places ≡ after_point
  pub constant : form.constant ≡ number
  pub cost : form.cost ≡ per_cost
  pub counts : (name : Name) → number_at form.counts name ≡ per_count name
  pub mention : form.mention ≡ mentions

abbrev pub nothing_each : Name → ℤ
nothing_each name = pos 0

abbrev pub one_each : Name → Name → ℤ
one_each name other = if same_name name other then pos 1 else pos 0

-- the product of two forms, of which one at least is constant
abbrev pub IsProduct : Linear → Linear → Linear → Type 0
IsProduct first second product =
    ((second.mention ≡ false) × IsScaled first second.constant second.places product) ⊎ ((first.mention ≡ false) × IsScaled second first.constant first.places product)
