-- Lowering the letters of a text.
use Rattle.std.proofs.Common.{◌≡◌, ◌∙◌, ℕ, ◌+◌, ◌%◌, ◌<◌, ◌^◌, List, [], ◌∷◌, ◌++◌, refl, ap, arith}
use Rattle.std.proofs.lemmas.Bool.Decides.{nat_tests}
use Rattle.std.proofs.lemmas.Fmt.{decimal_by_steps}
use Rattle.std.proofs.lemmas.List.{map-append}
use Rattle.std.specs.Char.{to_ascii_lowercase}
use Rattle.std.specs.Fmt.{decimal}
use Rattle.std.specs.Str.{str_to_ascii_lowercase}

lowered_byte : (byte : ℕ) → to_ascii_lowercase (to_ascii_lowercase byte) ≡ to_ascii_lowercase byte
lowered_byte byte = grind (arith, nat_tests)

-- what is lowered stays as it is
pub lowered-lowered : (bytes : List ℕ) → str_to_ascii_lowercase (str_to_ascii_lowercase bytes) ≡ str_to_ascii_lowercase bytes
lowered-lowered [] = refl
lowered-lowered (byte ∷ bytes) = rw (lowered_byte byte, lowered-lowered bytes) refl

lowered_digit : (n : ℕ) → n < 10 → to_ascii_lowercase (48 + n) ≡ 48 + n
lowered_digit n small = grind (arith, nat_tests)

-- a number has no letters to lower
pub lowered_decimal : (n : ℕ) → n < 2 ^ 64 → str_to_ascii_lowercase (decimal n) ≡ decimal n
lowered_decimal n fits =
    decimal_by_steps (λ n digits. str_to_ascii_lowercase digits ≡ digits)
    (λ n small. ap (λ b. b ∷ []) (lowered_digit n small))
    (λ n digits large same. map-append to_ascii_lowercase digits ((48 + n % 10) ∷ [])
    ∙ ap (λ front. front ++ to_ascii_lowercase (48 + n % 10) ∷ []) same
    ∙ ap (λ b. digits ++ b ∷ []) (lowered_digit (n % 10) (omega arith)))
    n fits
