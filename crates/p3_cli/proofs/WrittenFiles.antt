-- The files that are written one after another.
use Rattle.std.proofs.Common.{◌≡◌, ◌∙◌, ◌+◌, ◌<◌, ◌≤◌, ℕ, zero, suc, List, [], ◌∷◌, ◌++◌, length, take, get_or, Option, Some, refl, sym, ap, subst, arith}
use Rattle.std.specs.Prelude.{slice_get, IsSomeAnd}
use Rattle.std.proofs.lemmas.List.{take_all}
use Rattle.p3_base.specs.Outside.{Store, holding, IsPartlyWritten}
use Rattle.p3_base.specs.declared.refusal.Role.{Role}
use Rattle.p3_tree.specs.Commands.{Output, Word, output}
use Rattle.p3_cli.specs.Store.{files, holding_all, writings, IsWrittenUpTo}
use Rattle.p3_cli.specs.Texts.{Made, made_of}

-- the file at a place
pub file_at : (roles : List Role) (names : List Word) (made : Made) (i : ℕ) (other : Role) (name : Word) → i < length names → length roles ≡ length names → name ≡ get_or names i name
    → slice_get (writings (files roles names) made) i ≡ Some (output (get_or roles i other, name), made_of (get_or roles i other) made)
file_at roles [] made i other name within all named = absurd (omega (arith, within))
file_at [] (first ∷ names) made i other name within all named = absurd (cc)
file_at (role ∷ roles) (first ∷ names) made zero other name within all named = λ k. Some (output (role, sym named k), made_of role made)
file_at (role ∷ roles) (first ∷ names) made (suc i) other name within all named = file_at roles names made i other name (omega (arith, within)) (cc) named

files_short : (roles : List Role) (names : List Word) (made : Made) → length (writings (files roles names) made) ≤ length names
files_short [] names made = omega arith
files_short (role ∷ roles) [] made = omega arith
files_short (role ∷ roles) (name ∷ names) made = let rest = files_short roles names made in omega (arith, rest)

-- there is none behind the last name
pub all_files : (roles : List Role) (names : List Word) (made : Made) (i : ℕ) → length names ≤ i → take i (writings (files roles names) made) ≡ writings (files roles names) made
all_files roles names made i all = let short = files_short roles names made in take_all i (writings (files roles names) made) (omega (arith, all, short))

holding_more : (written : List (Output × List ℕ)) (next : Output × List ℕ) (told : Option Store) → holding_all (written ++ next ∷ []) told ≡ holding next.0.name next.1 (holding_all written told)
holding_more [] next told = refl
holding_more (first ∷ written) next told = holding_more written next (holding first.0.name first.1 told)

took : (written : List (Output × List ℕ)) (i : ℕ) (next : Output × List ℕ) → slice_get written i ≡ Some next → take (i + 1) written ≡ take i written ++ next ∷ []
took [] i next is = absurd (cc)
took (first ∷ written) zero next is = let same : first ≡ next = cc in ap (λ one. one ∷ []) same
took (first ∷ written) (suc i) next is =
    let on : suc i + 1 ≡ suc (i + 1) = omega arith in ap (λ n. take n (first ∷ written)) on ∙ ap (λ rest. first ∷ rest) (took written i next is)

-- one more file is written
pub one_more_file : (written : List (Output × List ℕ)) (i : ℕ) (next : Output × List ℕ) (told : Option Store) → slice_get written i ≡ Some next
    → holding_all (take (i + 1) written) told ≡ holding next.0.name next.1 (holding_all (take i written) told)
one_more_file written i next told is = ap (λ all. holding_all all told) (took written i next is) ∙ holding_more (take i written) next told

-- a file is there
pub is_there : (written : List (Output × List ℕ)) (i : ℕ) (next : Output × List ℕ) → slice_get written i ≡ Some next → i < length written
is_there [] i next is = absurd (cc)
is_there (first ∷ written) zero next is = omega arith
is_there (first ∷ written) (suc i) next is = let rest = is_there written i next is in omega (arith, rest)

-- a write that failed at a place
pub failed_there : (written : List (Output × List ℕ)) (i : ℕ) (next : Output × List ℕ) (old mid new : Option Store) → slice_get written i ≡ Some next → mid ≡ holding_all (take i written) old → IsPartlyWritten next.0.name next.1 mid new
    → IsWrittenUpTo next.0.role written old new
failed_there written i next old mid new is held partly =
    (i, subst (λ found. IsSomeAnd found (λ one. (next.0.role ≡ one.0.role) × IsPartlyWritten one.0.name one.1 (holding_all (take i written) old) new)) (sym is) (refl, subst (λ told. IsPartlyWritten next.0.name next.1 told new) held partly))
