-- Where something stands in a file.
use Rattle.std.specs.Prelude.{ℕ, List, [], ◌++◌, codes, Option, Some, None}
use Rattle.std.specs.Fmt.{decimal}
use Rattle.p3_base.specs.Place.{line_of, column_of}
use Rattle.p3_accounts.specs.Vocabularies.{Vocabulary, file_name}
use Rattle.p3_accounts.specs.declared.spot.Spot.{Spot}
use Rattle.p3_accounts.specs.declared.terms.InputFile.{InputFile}

-- as an editor jumps to it
abbrev pub spot_text : Vocabulary → Spot → List ℕ
spot_text V spot = file_name V spot.file ++ codes ":" ++ decimal spot.line ++ codes ":" ++ decimal spot.column ++ codes ": "

-- what a line begins with, where its place is known
abbrev pub spot_before : Vocabulary → Option Spot → List ℕ
spot_before V None = []
spot_before V (Some spot) = spot_text V spot

-- an offset of the text of a file
abbrev pub spot_in : InputFile → List ℕ → ℕ → Spot
spot_in file text offset = record { file = file; line = line_of text offset; column = column_of text offset }
