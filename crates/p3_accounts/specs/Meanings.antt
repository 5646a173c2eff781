-- What the names of a written task stand for.
use Rattle.std.specs.Prelude.{ℕ, List, ◌++◌, codes}
use Rattle.std.specs.Fmt.{decimal}
use Rattle.p3_tree.specs.Reports.Lines.{line}
use Rattle.p3_accounts.specs.Spots.{spot_before}
use Rattle.p3_accounts.specs.Subjects.{bindings_text, preference_text, subject_text}
use Rattle.p3_accounts.specs.Vocabularies.{Vocabulary}
use Rattle.p3_accounts.specs.Words.{atom_text, placed_text}
use Rattle.p3_accounts.specs.declared.meaning.Meaning.{Meaning}
use Rattle.p3_accounts.specs.declared.meaning.Meant.{Meant}
use Rattle.p3_accounts.specs.declared.meaning.Meant.TheVariants.{Atom, Chain, Monitor, Step}
use Rattle.p3_accounts.specs.declared.meaning.Settling.{Settling}
use Rattle.p3_accounts.specs.declared.meaning.Settling.TheVariants as settling

-- how far preferences are settled
abbrev pub settling_text : Vocabulary → Settling → List ℕ
settling_text V (settling.Next name bindings) = codes "settled next: preference " ++ preference_text V name ++ bindings_text V bindings
settling_text V settling.Done = codes "all preferences are settled"

-- the first letter of a name
abbrev pub letter_of : Meant → List ℕ
letter_of (Step placed) = codes "s"
letter_of (Atom atom) = codes "f"
letter_of (Monitor subject) = codes "m"
letter_of (Chain settling) = codes "e"

-- what it stands for
abbrev pub sense_text : Vocabulary → Meant → List ℕ
sense_text V (Step placed) = placed_text V placed
sense_text V (Atom atom) = atom_text V.numbers atom
sense_text V (Monitor subject) = subject_text V subject
sense_text V (Chain settling) = settling_text V settling

-- the name, and what it stands for
abbrev pub meant_text : Vocabulary → ℕ → Meant → List ℕ
meant_text V number of = letter_of of ++ decimal number ++ codes " " ++ sense_text V of

abbrev pub meaning_line : Vocabulary → Meaning → List ℕ
meaning_line V meaning = line (spot_before V meaning.spot ++ meant_text V meaning.number meaning.of)
