-- The names of atoms have no upper case letters, and more names.
use Rattle.std.proofs.Common.{◌≡◌, ◌∙◌, ◌<◌, ◌≤◌, ◌+◌, ◌-◌, ◌^◌, ℕ, zero, suc, List, [], ◌∷◌, ◌++◌, length, map, sym, ap, arith, append_assoc, length-append}
use Rattle.std.specs.Char.{to_ascii_lowercase}
use Rattle.std.specs.Fmt.{decimal}
use Rattle.std.specs.List.{range_with_len}
use Rattle.std.specs.Str.{str_to_ascii_lowercase}
use Rattle.std.proofs.lemmas.List.{map-append}
use Rattle.std.proofs.lemmas.List.FromFn.{length-map-range_with_len, map-range_with_len_more}
use Rattle.p3_base.proofs.NameLemmas.{lowered_decimal}
use Rattle.p3_base.specs.Words.{Name}
use Rattle.p3_compile.specs.Monitored.{named_more}
use Rattle.p3_simulation.specs.Naming.{numbered}

pub lowered_numbered : (letter : Name) (number : ℕ) → str_to_ascii_lowercase letter ≡ letter → number < 2 ^ 64 → str_to_ascii_lowercase (numbered letter number) ≡ numbered letter number
lowered_numbered letter number low fits = map-append to_ascii_lowercase letter (decimal number) ∙ (λ i. low i ++ lowered_decimal number fits i)

range-append : (from some more : ℕ) → range_with_len from (some + more) ≡ range_with_len from some ++ range_with_len (from + some) more
range-append from zero more = λ i. range_with_len (from_is i) (more_is i) where
  more_is : zero + more ≡ more
  more_is = omega arith

  from_is : from ≡ from + zero
  from_is = omega arith
range-append from (suc some) more =
    ap (range_with_len from) counted ∙ ap (λ rest. from ∷ rest) (range-append (from + 1) some more ∙ ap (λ n. range_with_len (from + 1) some ++ range_with_len n more) moved)
  where
    counted : suc some + more ≡ suc (some + more)
    counted = omega arith

    moved : from + 1 + some ≡ from + suc some
    moved = omega arith

module _ (letter : Name) (old : List Name) (before : ℕ) where
  abbrev pub named : ℕ → List Name
  named count = named_more letter before old count

  pub length-named : (count : ℕ) → length (named count) ≡ length old + count
  length-named count = length-append old (map (numbered letter) (range_with_len (length old - before) count)) ∙ ap (λ n. length old + n) (length-map-range_with_len (numbered letter) (length old - before) count)

  pub named_next : (names : List Name) (count : ℕ) → before ≤ length old → names ≡ named count → names ++ numbered letter (length names - before) ∷ [] ≡ named (count + 1)
  named_next names count behind are =
      let counted = ap length are ∙ length-named count in
      let number : (length old - before) + count ≡ length names - before = omega (arith, counted, behind) in
      ap (λ all. all ++ numbered letter (length names - before) ∷ []) are
      ∙ append_assoc old (map (numbered letter) (range_with_len (length old - before) count)) (numbered letter (length names - before) ∷ [])
      ∙ ap (λ more. old ++ more) (sym (map-range_with_len_more (numbered letter) (length old - before) count (length names - before) number))

  -- some names more, and then others
  pub named-join : (some more : ℕ) → before ≤ length old → named_more letter before (named some) more ≡ named (some + more)
  named-join some more behind =
      let counted = length-named some in
      let number : length (named some) - before ≡ (length old - before) + some = omega (arith, counted, behind) in
      ap (λ n. named some ++ map (numbered letter) (range_with_len n more)) number
      ∙ append_assoc old (map (numbered letter) (range_with_len (length old - before) some)) (map (numbered letter) (range_with_len ((length old - before) + some) more))
      ∙ ap (λ names. old ++ names) (sym (map-append (numbered letter) (range_with_len (length old - before) some) (range_with_len ((length old - before) + some) more)) ∙ ap (map (numbered letter)) (sym (range-append (length old - before) some more)))
