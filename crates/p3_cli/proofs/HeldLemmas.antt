-- What the outputs of a command hold behind it.
use Rattle.std.proofs.Common.{◌≡◌, ◌∙◌, ℕ, Bool, true, false, not, ◌&&◌, ◌||◌, cond, List, [], ◌∷◌, map, Some, ap, refl}
use Rattle.std.specs.List.{AllByRecursion}
use Rattle.std.specs.Option.{option_map}
use Rattle.std.specs.Cmp.Lexicographic.{nat_list_cmp_total}
use Rattle.std.specs.FinMap.{get, insert, get-insert}
use Rattle.std.proofs.lemmas.Map.Text.{is_eq-slice_cmp}
use Rattle.std.specs.Str.{bytes_eq}
use Rattle.std.proofs.lemmas.Slice.Eq.{bytes_eq-Decides}
use Rattle.p3_base.specs.Outside.{Store, bytes_under}
use Rattle.p3_base.specs.Words.{are_different, has_name}
use Rattle.p3_tree.specs.Commands.{Output, Word}
use Rattle.p3_cli.specs.Store.{holding_all, writings}
use Rattle.p3_cli.specs.Texts.{Made}
use Rattle.p3_cli.proofs.RunLemmas.{AreOthers, same_holding_all}

put_under : (store : Store) (key value : List ℕ) → bytes_under (insert store key value) key ≡ Some value
put_under store key value =
    get-insert nat_list_cmp_total store key value key ∙ ap (λ same. cond same (Some value) (get store key)) (is_eq-slice_cmp key key ∙ (bytes_eq-Decides key key).1 refl)

no_other : (first : Bool) (rest : Bool) → (first || rest) ≡ false → rest ≡ false
no_other true rest e = absurd (cc)
no_other false rest e = e

abbrev names_of : List (Output × List ℕ) → List Word
names_of written = map (λ (file : Output × List ℕ). file.0.name) written

-- names without this one are others
are_others : (name : Word) (written : List (Output × List ℕ)) → has_name (names_of written) name ≡ false → AreOthers name written
are_others name [] e = tt
are_others name (file ∷ written) e = (
  λ same. let found : bytes_eq file.0.name name ≡ true = (bytes_eq-Decides file.0.name name).1 same in cc,
  are_others name written (no_other (bytes_eq file.0.name name) (has_name (names_of written) name) e),
)

and_parts : (first second : Bool) → (not first && second) ≡ true → (first ≡ false) × (second ≡ true)
and_parts true second e = absurd (cc)
and_parts false second e = (refl, e)

-- the files hold what was written, if no two have the same name
all_written : (written : List (Output × List ℕ)) (store last : Store) → are_different (names_of written) ≡ true → Some last ≡ holding_all written (Some store)
    → AllByRecursion (λ file. bytes_under last file.0.name ≡ Some file.1) written
all_written [] store last apart is = tt
all_written (file ∷ written) store last apart is =
    let name = file.0.name in
    let put = insert store name file.1 in
    let both = and_parts (has_name (names_of written) name) (are_different (names_of written)) apart in
    let stays : Some (bytes_under last name) ≡ Some (bytes_under put name) = ap (option_map (λ s. bytes_under s name)) is ∙ same_holding_all name written (Some put) (are_others name written both.0) in
    let same : bytes_under last name ≡ bytes_under put name = cc in
    (same ∙ put_under store name file.1, all_written written put last both.1 is)

named : (files : List Output) (made : Made) → names_of (writings files made) ≡ map (λ (file : Output). file.name) files
named [] made = refl
named (file ∷ files) made = ap (λ names. file.name ∷ names) (named files made)

-- the outputs hold what was made, if no two have the same name
pub all_made_held : (files : List Output) (made : Made) (store last : Store) → are_different (map (λ (file : Output). file.name) files) ≡ true → Some last ≡ holding_all (writings files made) (Some store)
    → AllByRecursion (λ file. bytes_under last file.0.name ≡ Some file.1) (writings files made)
all_made_held files made store last apart = all_written (writings files made) store last (ap are_different (named files made) ∙ apart)
