-- Atoms keep their numbers.
use Rattle.std.proofs.Common.{◌≡◌, ◌∙◌, ℕ, Bool, true, false, if◌then◌else◌, List, [], ◌∷◌, ◌++◌, slice_get, Some, refl, sym, subst, arith, zero, suc, length-append}
use Rattle.std.specs.Prelude.{bytes_eq}
use Rattle.std.specs.List.{list_any, list_all}
use Rattle.std.proofs.lemmas.Bool.{and_from}
use Rattle.std.proofs.lemmas.List.Folds.{list_all-append}
use Rattle.p3_expansion.specs.Atoms.{GroundAtom, with_atom, Keeps, Brings}
use Rattle.p3_expansion.specs.Expansions.{Grows}
use Rattle.p3_expansion.specs.declared.work.Work.{Work}

-- whatever the whole passes, the part passes
abbrev pub Covers : List GroundAtom → List GroundAtom → Type 0
Covers whole part = (passes : GroundAtom → Bool) → list_all passes whole ≡ true → list_all passes part ≡ true

keeps-refl : (atoms : List GroundAtom) → Keeps atoms atoms
keeps-refl atoms = record { longer = omega arith; kept = λ k atom here. here }

pub keeps-trans : (first second third : List GroundAtom) → Keeps first second → Keeps second third → Keeps first third
keeps-trans first second third a b = record { longer = omega (arith, a.longer, b.longer); kept = λ k atom here. b.kept k atom (a.kept k atom here) }

get-append : (xs ys : List GroundAtom) (k : ℕ) (x : GroundAtom) → slice_get xs k ≡ Some x → slice_get (xs ++ ys) k ≡ Some x
get-append [] ys k x here = absurd (cc)
get-append (y ∷ xs) ys zero x here = here
get-append (y ∷ xs) ys (suc k) x here = get-append xs ys k x here

keeps-with : (atoms : List GroundAtom) (atom : GroundAtom) → Keeps atoms (with_atom atoms atom)
keeps-with atoms atom = by (list_any (bytes_eq atom) atoms)
  where
    by : (found : Bool) → Keeps atoms (if found then atoms else (atoms ++ atom ∷ []))
    by true = keeps-refl atoms
    by false = record { longer = omega (arith, length-append atoms (atom ∷ [])); kept = λ k other here. get-append atoms (atom ∷ []) k other here }

brings-with : (atoms : List GroundAtom) (atom : GroundAtom) → Brings (atom ∷ []) atoms (with_atom atoms atom)
brings-with atoms atom = by (list_any (bytes_eq atom) atoms)
  where
    by : (found : Bool) → Brings (atom ∷ []) atoms (if found then atoms else (atoms ++ atom ∷ []))
    by true = record { passed = λ passes old those. old }
    by false = record { passed = λ passes old those. list_all-append passes atoms (atom ∷ []) ∙ and_from (list_all passes atoms) (list_all passes (atom ∷ [])) old those }

pub grows-refl : (reads : List GroundAtom) (work : Work) → Grows reads work work
grows-refl reads work = record { atoms = keeps-refl work.atoms; brings = record { passed = λ passes old those. old } }

pub grows-trans : (reads : List GroundAtom) (first second third : Work) → Grows reads first second → Grows reads second third → Grows reads first third
grows-trans reads first second third a b = record {
  atoms = keeps-trans first.atoms second.atoms third.atoms a.atoms b.atoms;
  brings = record { passed = λ passes old those. b.brings.passed passes (a.brings.passed passes old those) those };
}

pub grows-wider : (whole part : List GroundAtom) (old new : Work) → Covers whole part → Grows part old new → Grows whole old new
grows-wider whole part old new covers grows = record { atoms = grows.atoms; brings = record { passed = λ passes before those. grows.brings.passed passes before (covers passes those) } }

pub covers-none : (whole : List GroundAtom) → Covers whole []
covers-none whole passes those = refl

pub grows-none : (whole : List GroundAtom) (old new : Work) → Grows [] old new → Grows whole old new
grows-none whole old new grows = grows-wider whole [] old new (covers-none whole) grows

-- an atom more
pub grows-atom : (old new : Work) (atom : GroundAtom) → new.atoms ≡ with_atom old.atoms atom → Grows (atom ∷ []) old new
grows-atom old new atom is = record {
  atoms = subst (Keeps old.atoms) (sym is) (keeps-with old.atoms atom);
  brings = subst (Brings (atom ∷ []) old.atoms) (sym is) (brings-with old.atoms atom);
}

-- none
pub grows-same : (old new : Work) → new.atoms ≡ old.atoms → Grows [] old new
grows-same old new same = record {
  atoms = subst (Keeps old.atoms) (sym same) (keeps-refl old.atoms);
  brings = subst (Brings [] old.atoms) (sym same) (record { passed = λ passes before those. before });
}

pub ruleset growth_laws = (grows-atom, grows-same)
