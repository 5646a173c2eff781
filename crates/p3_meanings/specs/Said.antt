-- What a name of a written task stands for, and its line.
use Rattle.std.specs.Prelude.{ℕ, ◌+◌, List, [], ◌∷◌, ◌++◌, codes, Option}
use Rattle.std.specs.Fmt.{decimal}
use Rattle.p3_tree.specs.Reports.Lines.{line}
use Rattle.p3_accounts.specs.Spots.{spot_before}
use Rattle.p3_accounts.specs.Vocabularies.{Vocabulary}
use Rattle.p3_accounts.specs.declared.spot.Spot.{Spot}

-- the letter of the name; where what it stands for stands, where that is known; and what that is called
pub record Said : Type 0 where
  pub letter : List ℕ
  pub spot : Option Spot
  pub text : List ℕ

-- the name has a number behind its letter
abbrev pub said_line : Vocabulary → ℕ → Said → List ℕ
said_line V number said = line (spot_before V said.spot ++ (said.letter ++ decimal number ++ codes " " ++ said.text))

-- the names are numbered in order, from a number on
abbrev pub said_lines : Vocabulary → ℕ → List Said → List ℕ
said_lines V number [] = []
said_lines V number (said ∷ rest) = said_line V number said ++ said_lines V (number + 1) rest
