-- Which of several things, each at a place, read an atom.
use Rattle.std.specs.Prelude.{ℕ, ◌+◌, ◌==◌, Bool, ◌&&◌, List, [], ◌∷◌, ◌++◌, map}
use Rattle.std.specs.List.{list_any}
use Rattle.std.specs.List.Sorted.{IsNonDecreasingBy}
use Rattle.p3_formula.specs.declared.form.Change.{Change}
use Rattle.p3_regress.specs.declared.readers.PartReader.{PartReader}

abbrev pub reader : ℕ → ℕ → PartReader
reader place atom = record { atom = atom; place = place }

-- those of some lists of atoms, whose places are counted from one on
abbrev pub readers_from : ℕ → List (List ℕ) → List PartReader
readers_from place [] = []
readers_from place (atoms ∷ lists) = map (reader place) atoms ++ readers_from (place + 1) lists

abbrev pub AreRising : List PartReader → Type 0
AreRising readers = IsNonDecreasingBy (λ (one : PartReader). one.atom) readers

abbrev pub reads_atom : ℕ → PartReader → Bool
reads_atom atom one = one.atom == atom

abbrev pub places_of : List PartReader → List ℕ
places_of readers = map (λ (one : PartReader). one.place) readers

-- the number stands among those
abbrev pub mentions : ℕ → List ℕ → Bool
mentions number numbers = list_any (λ one. one == number) numbers

-- what stands at the place reads the atom
abbrev pub is_at : ℕ → ℕ → PartReader → Bool
is_at atom place one = (one.atom == atom) && (one.place == place)

-- some change names an atom that is read at the place
abbrev pub is_read_at : List Change → List PartReader → ℕ → Bool
is_read_at changes readers place = list_any (λ (change : Change). list_any (is_at change.atom place) readers) changes
