-- What pieces of lines are printed as.
use Rattle.std.specs.Prelude.{ℕ, List}
use Rattle.std.specs.Fmt.{decimal, signed_decimal}
use Rattle.p3_tree.specs.Reports.Lines.{role_name}
use Rattle.p3_tree.specs.Reports.Plans.{misfit_name}
use Rattle.p3_tree.specs.Reports.Quantities.{shown_quantity}
use Rattle.p3_tree.specs.Reports.Refusals.{code_text}
use Rattle.p3_tree.specs.Reports.Tasks.{direction_name}
use Rattle.p3_reports.specs.Faults.{misfit_of}
use Rattle.p3_reports.specs.Joined.{joined}
use Rattle.p3_reports.specs.declared.piece.Piece.{Piece}
use Rattle.p3_reports.specs.declared.piece.Piece.TheVariants as piece

abbrev pub piece_text : Piece → List ℕ
piece_text (piece.Text text) = text.now
piece_text (piece.Bytes bytes) = bytes.now
piece_text (piece.Number number) = decimal number
piece_text (piece.Signed number) = signed_decimal number
piece_text (piece.Measured quantity) = shown_quantity quantity.places quantity.units
piece_text (piece.File role) = role_name role
piece_text (piece.Why code) = code_text code
piece_text (piece.Direction direction) = direction_name direction
piece_text (piece.Misfit misfit) = misfit_name (misfit_of misfit)

-- one behind another
abbrev pub pieces_text : List Piece → List ℕ
pieces_text pieces = joined piece_text pieces
