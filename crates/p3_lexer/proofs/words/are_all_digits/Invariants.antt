use Rattle.std.proofs.Common.{◌≡◌, drop}
use Rattle.std.specs.List.{list_all}
use Rattle.std.specs.Str.{str_to_ascii_lowercase}
use Rattle.p3_base.specs.Words.{is_digit}
use Rattle.p3_lexer.proofs.words.are_all_digits.Given as goal

abbrev pub invariant-loop-byte : goal.invariant-loop-byte
invariant-loop-byte l = list_all is_digit (str_to_ascii_lowercase l.word) ≡ list_all is_digit (str_to_ascii_lowercase (drop l.byte-index l.word))
