use Rattle.std.proofs.Common.{◌≡◌, map, drop}
use Rattle.p3_scenes.specs.FirstWords.{first_in, first_word}
use Rattle.p3_scenes.proofs.first_word.+words.Given as goal

-- no part that was passed has a word
abbrev pub invariant-parts_word-loop-part : goal.invariant-parts_word-loop-part
invariant-parts_word-loop-part l = first_in (map first_word l.parts) ≡ first_in (map first_word (drop l.part-index l.parts))
