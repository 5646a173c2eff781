-- The lines of atoms.
use Rattle.std.proofs.Common.{◌≡◌, ◌∙◌, ℕ, List, [], ◌∷◌, Some, None, refl, sym, ap}
use Rattle.std.specs.Prelude.{codes, slice_get, slice_index_or}
use Rattle.std.proofs.lemmas.Option.{get_or_from_slice_get}
use Rattle.p3_numbers.specs.declared.numbers.Numbers.{Numbers}
use Rattle.p3_expansion.specs.Atoms.{GroundAtom, fact_of}
use Rattle.p3_accounts.specs.Meanings.{meaning_line}
use Rattle.p3_accounts.specs.Vocabularies.{Vocabulary}
use Rattle.p3_accounts.specs.Words.{atom_text, fact_text}
use Rattle.p3_accounts.specs.declared.meaning.Meant.TheVariants as meant
use Rattle.p3_meanings.specs.Atoms.{atom_said}
use Rattle.p3_meanings.specs.Said.{said_line}

fact_is_told : (N : Numbers) (atom : GroundAtom) → atom_text N atom ≡ fact_text (fact_of N atom)
fact_is_told N [] = refl
fact_is_told N (predicate ∷ objects) = refl

-- the line of the atom at a place
pub atom_is_told : (V : Vocabulary) (atoms : List GroundAtom) (number : ℕ) (atom : GroundAtom) → slice_get atoms number ≡ Some atom
    → meaning_line V (record { spot = None; number = number; of = meant.Atom atom }) ≡ said_line V number (atom_said V.numbers (slice_index_or atoms number []))
atom_is_told V atoms number atom at =
    ap (λ text. said_line V number (record { letter = codes "f"; spot = None; text = text })) (fact_is_told V.numbers atom)
    ∙ ap (λ one. said_line V number (atom_said V.numbers one)) (sym (get_or_from_slice_get atoms number atom [] at))
