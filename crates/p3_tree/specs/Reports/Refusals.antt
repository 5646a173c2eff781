-- The line that says why and where an input is refused: status 2.
use Rattle.std.specs.Prelude.{ℕ, ◌==◌, ◌/◌, ◌%◌, if◌then◌else◌, ℤ, List, [], ◌∷◌, ◌++◌, codes, take, drop, slice_index_or}
use Rattle.std.specs.Fmt.{decimal, signed_decimal, digit_glyph}
use Rattle.std.specs.Prelude.{false}
use Rattle.std.specs.Str.{str_to_ascii_lowercase}
use Rattle.p3_base.specs.Place.{line_of, column_of}
use Rattle.p3_base.specs.declared.refusal.Code.{Code}
use Rattle.p3_base.specs.declared.refusal.Code.TheVariants as code
use Rattle.p3_base.specs.declared.refusal.Refusal.{Refusal}
use Rattle.p3_base.specs.declared.refusal.Role.{Role}
use Rattle.p3_tree.specs.Reports.Lines.{line, entry, role_name}

-- the number and the text of a code
abbrev pub code_text : Code → List ℕ
code_text code.BadByte = codes "1 bad byte"
code_text code.Unbalanced = codes "2 unbalanced"
code_text code.TooDeep = codes "3 too deep"
code_text code.Construct = codes "4 construct"
code_text code.Malformed = codes "5 malformed"
code_text code.Duplicate = codes "6 duplicate"
code_text code.Unknown = codes "7 unknown"
code_text code.Arity = codes "8 arity"
code_text code.TypeClash = codes "9 type clash"
code_text code.NegativeWeight = codes "10 negative weight"
code_text code.NonLinear = codes "11 not linear"
code_text code.NumberTooLong = codes "12 number too long"
code_text code.CostTooLarge = codes "13 cost too large"
code_text code.TooManyInstances = codes "14 too many instances"
code_text code.FormulaTooLarge = codes "15 formula too large"
code_text code.TooManyPreferences = codes "16 too many preferences"
code_text code.SplitTooWide = codes "17 split too wide"
code_text code.TooManySteps = codes "18 too many steps"
code_text code.NotPlain = codes "19 not plain"
code_text code.Mismatch = codes "20 mismatch"
code_text code.FileTooLong = codes "21 file too long"
code_text code.FlatTooWide = codes "22 flat too wide"

-- ---- a refusal with a place

-- the word at fault, lowered, its first 60 bytes; at the text's end there is none
abbrev pub shown_word : List ℕ → Refusal → List ℕ
shown_word text refusal =
    if refusal.len == 0 then codes "end of text"
    else str_to_ascii_lowercase (take 60 (take refusal.len (drop refusal.pos.offset text)))

-- a foreign byte, by two hexadecimal digits
abbrev pub shown_byte : ℕ → List ℕ
shown_byte byte = codes "byte " ++ digit_glyph false (byte / 16) ∷ digit_glyph false (byte % 16) ∷ []

abbrev pub shown_at_fault : Code → List ℕ → Refusal → List ℕ
shown_at_fault code.BadByte text refusal = shown_byte (slice_index_or text refusal.pos.offset 0)
shown_at_fault _ text refusal = shown_word text refusal

-- what stands before it: why, in which file, and where
abbrev pub refusal_head : List ℕ → List ℕ → ℕ → ℕ → List ℕ
refusal_head why file row column =
    codes "refused " ++ (why ++ (codes ": " ++ (file ++ (codes " " ++ (decimal row ++ (codes ":" ++ (decimal column ++ codes " ")))))))

-- the line of a refusal with a code 1 to 18 or 22, of this text
abbrev pub refusal_line : List ℕ → Refusal → List ℕ
refusal_line text refusal =
    refusal_head (code_text refusal.code) (role_name refusal.pos.role) (line_of text refusal.pos.offset) (column_of text refusal.pos.offset)
    ++ line (shown_at_fault refusal.code text refusal)

-- ---- refusals without a place

abbrev pub not_plain_line : List ℕ
not_plain_line = line (codes "refused " ++ code_text code.NotPlain)

-- the cost in the task written, and the loss of the lifted plan above the base
abbrev pub numbers_differ_line : ℤ → ℤ → List ℕ
numbers_differ_line cost loss = line (codes "refused " ++ code_text code.Mismatch ++ codes ": cost " ++ signed_decimal cost ++ codes " loss " ++ signed_decimal loss)

-- the fault of the lifted plan, as the line of status 1 says it
abbrev pub lifted_fault_line : List ℕ → List ℕ
lifted_fault_line fault = codes "refused " ++ code_text code.Mismatch ++ codes ": " ++ fault

abbrev pub too_long_line : Role → List ℕ
too_long_line role = entry (codes "refused " ++ code_text code.FileTooLong ++ codes ":") (role_name role)
