-- The two texts of a task, and the spots of offsets in them.
use Rattle.std.specs.Prelude.{ℕ, List}
use Rattle.p3_base.specs.declared.refusal.Role.{Role}
use Rattle.p3_base.specs.declared.refusal.Role.TheVariants.{Domain, Problem, WrittenDomain, WrittenProblem, Plan}
use Rattle.p3_accounts.specs.Spots.{spot_in}
use Rattle.p3_accounts.specs.declared.spot.Spot.{Spot}
use Rattle.p3_accounts.specs.declared.terms.InputFile.TheVariants as file
use Rattle.p3_unmet.specs.declared.sources.Sources.{Sources}

pub record Texts : Type 0 where
  pub domain : List ℕ
  pub problem : List ℕ

abbrev pub texts : Sources → Texts
texts sources = record { domain = sources.domain.text.now; problem = sources.problem.text.now }

-- an offset in the text of a half
abbrev pub spot_of : Texts → Role → ℕ → Spot
spot_of texts Domain offset = spot_in file.Domain texts.domain offset
spot_of texts WrittenDomain offset = spot_in file.Domain texts.domain offset
spot_of texts Problem offset = spot_in file.Problem texts.problem offset
spot_of texts WrittenProblem offset = spot_in file.Problem texts.problem offset
spot_of texts Plan offset = spot_in file.Problem texts.problem offset
