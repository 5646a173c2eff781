use Rattle.std.proofs.Common.{◌≡◌, drop}
use Rattle.std.specs.Str.{str_to_ascii_lowercase}
use Rattle.p3_lexer.specs.Words.{goes_on_as_decimal}
use Rattle.p3_lexer.proofs.words.goes_on_as_decimal.Given as goal

abbrev pub invariant-loop-index : goal.invariant-loop-index
invariant-loop-index l = goes_on_as_decimal (str_to_ascii_lowercase l.word) ≡ goes_on_as_decimal (str_to_ascii_lowercase (drop l.index l.word))
