-- The names of copies have no upper case letters.
use Rattle.std.proofs.Common.{◌≡◌, ◌∙◌, ◌<◌, ◌^◌, ℕ, Bool, true, false, List, [], ◌∷◌, ◌++◌, refl, ap}
use Rattle.std.specs.Char.{to_ascii_lowercase}
use Rattle.std.specs.Fmt.{decimal}
use Rattle.std.specs.Str.{str_to_ascii_lowercase}
use Rattle.std.proofs.lemmas.List.{map-append}
use Rattle.p3_base.proofs.NameLemmas.{lowered_decimal}
use Rattle.p3_base.specs.Copies.{copy_name}
use Rattle.p3_simulation.specs.Naming.{pattern}

lowered_pattern : (violated : List Bool) → str_to_ascii_lowercase (pattern violated) ≡ pattern violated
lowered_pattern [] = refl
lowered_pattern (true ∷ violated) = ap (λ rest. 49 ∷ rest) (lowered_pattern violated)
lowered_pattern (false ∷ violated) = ap (λ rest. 48 ∷ rest) (lowered_pattern violated)

pub lowered_copy : (number : ℕ) (violated : List Bool) → number < 2 ^ 64 → str_to_ascii_lowercase (copy_name number (pattern violated)) ≡ copy_name number (pattern violated)
lowered_copy number violated fits =
    ap (λ rest. 115 ∷ rest) (map-append to_ascii_lowercase (decimal number) (118 ∷ pattern violated) ∙ (λ i. lowered_decimal number fits i ++ (118 ∷ lowered_pattern violated i)))
