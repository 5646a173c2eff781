-- The bits of atoms at the start.
use Rattle.std.proofs.Common.{◌≡◌, ℕ, ◌≤◌, false, List, [], ◌∷◌, ◌++◌, map, length, take, drop, slice_get, Some, refl, sym, ap, arith, zero, suc}
use Rattle.std.specs.Prelude.{replicate, slice_set, bytes_eq}
use Rattle.std.specs.List.{list_any}
use Rattle.p3_task.proofs.OnceLemmas.{Some-injective}
use Rattle.p3_expansion.specs.Atoms.{GroundAtom}
use Rattle.p3_expansion.specs.Statics.{start_bits}
use Rattle.p3_expansion.specs.declared.statics.Statics.{Statics}

pub none-set : (atoms : List GroundAtom) → replicate (length atoms) false ≡ map (λ atom. false) atoms
none-set [] = refl
none-set (atom ∷ atoms) = ap (λ rest. false ∷ rest) (none-set atoms)

module _ (S : Statics) where
  pub bits-next : (atoms : List GroundAtom) (k : ℕ) (atom : GroundAtom) → slice_get atoms k ≡ Some atom
      → slice_set (start_bits S (take k atoms) ++ map (λ atom. false) (drop k atoms)) k (list_any (bytes_eq atom) S.facts) ≡ start_bits S (take (suc k) atoms) ++ map (λ atom. false) (drop (suc k) atoms)
  bits-next [] k atom here = absurd (cc)
  bits-next (first ∷ atoms) zero atom here = ap (λ one. list_any (bytes_eq one) S.facts ∷ map (λ atom. false) atoms) (sym (Some-injective first atom here))
  bits-next (first ∷ atoms) (suc k) atom here = ap (λ rest. list_any (bytes_eq first) S.facts ∷ rest) (bits-next atoms k atom here)

  pub bits-all : (atoms : List GroundAtom) (k : ℕ) → length atoms ≤ k → start_bits S (take k atoms) ++ map (λ atom. false) (drop k atoms) ≡ start_bits S atoms
  bits-all [] zero past = refl
  bits-all [] (suc k) past = refl
  bits-all (first ∷ atoms) zero past = absurd (omega arith)
  bits-all (first ∷ atoms) (suc k) past = ap (λ rest. list_any (bytes_eq first) S.facts ∷ rest) (bits-all atoms k (omega arith))
