-- The names of a chain have no upper case letters.
use Rattle.std.proofs.Common.{◌≡◌, ◌∙◌, ◌<◌, ◌^◌, ℕ, true, false, List, ◌∷◌, ◌++◌, refl, ap}
use Rattle.std.specs.Prelude.{codes}
use Rattle.std.specs.Char.{to_ascii_lowercase}
use Rattle.std.specs.Fmt.{decimal}
use Rattle.std.specs.Str.{str_to_ascii_lowercase}
use Rattle.std.proofs.lemmas.List.{map-append}
use Rattle.p3_base.proofs.NameLemmas.{lowered_decimal}
use Rattle.p3_base.specs.Copies.{answer_name, copy_prefix, end_name}

-- one letter, a number and a text
numbered : (letter n : ℕ) (text : List ℕ) → to_ascii_lowercase letter ≡ letter → n < 2 ^ 64 → str_to_ascii_lowercase text ≡ text → str_to_ascii_lowercase (letter ∷ (decimal n ++ text)) ≡ letter ∷ (decimal n ++ text)
numbered letter n text low fits same = λ i. low i ∷ (map-append to_ascii_lowercase (decimal n) text ∙ (λ j. lowered_decimal n fits j ++ same j)) i

pub lowered_begin : (n : ℕ) → n < 2 ^ 64 → str_to_ascii_lowercase (codes "s" ++ (decimal n ++ codes "v")) ≡ codes "s" ++ (decimal n ++ codes "v")
lowered_begin n fits = numbered 115 n (codes "v") refl fits refl

pub lowered_agree : (n place : ℕ) → n < 2 ^ 64 → place < 2 ^ 64 → str_to_ascii_lowercase (answer_name true n place) ≡ answer_name true n place
lowered_agree n place fits fit = numbered 113 n (codes "y" ++ decimal place) refl fits (ap (λ rest. 121 ∷ rest) (lowered_decimal place fit))

pub lowered_deny : (n place : ℕ) → n < 2 ^ 64 → place < 2 ^ 64 → str_to_ascii_lowercase (answer_name false n place) ≡ answer_name false n place
lowered_deny n place fits fit = numbered 113 n (codes "n" ++ decimal place) refl fits (ap (λ rest. 110 ∷ rest) (lowered_decimal place fit))

pub lowered_end : (n : ℕ) → n < 2 ^ 64 → str_to_ascii_lowercase (end_name n) ≡ end_name n
lowered_end n fits = numbered 113 n (codes "end") refl fits refl

pub prefix_joined : (n : ℕ) → codes "s" ++ (decimal n ++ codes "v") ≡ copy_prefix n
prefix_joined n = refl
