-- Lists that are joined of what is seen of their parts.
use Rattle.std.proofs.Common.{◌≡◌, ◌∙◌, List, [], ◌∷◌, ◌++◌, map, refl, ap}
use Rattle.std.specs.Prelude.{flat_map}
use Rattle.std.proofs.lemmas.List.{map-append}

pub joined : {A B C : Type 0} (seen : B → C) (f : A → List B) (xs : List A) → map seen (flat_map f xs) ≡ flat_map (λ found. found) (map (λ x. map seen (f x)) xs)
joined seen f [] = refl
joined seen f (x ∷ xs) = map-append seen (f x) (flat_map f xs) ∙ ap (λ rest. map seen (f x) ++ rest) (joined seen f xs)
