-- Lines of names, and what variables mean in words.
use Rattle.std.proofs.Common.{◌≡◌, ◌∙◌, ℕ, suc, ◌+◌, ◌<◌, List, [], ◌∷◌, ◌++◌, map, length, get_or, take, drop, Option, refl, sym, ap, subst, arith, append_assoc}
use Rattle.std.specs.Prelude.{flat_map}
use Rattle.std.proofs.lemmas.List.{append-nil, length-map, length-take-le, map-append, take-append-drop, take_more}
use Rattle.p3_base.specs.Outside.{IsPartlyPut, IsPut}
use Rattle.p3_task.specs.States.{Environment}
use Rattle.p3_numbers.specs.Places.{Variables, environment_of, paired}
use Rattle.p3_numbers.specs.Slots.{Slots, name_at, object_names}
use Rattle.p3_accounts.specs.Meanings.{meaning_line}
use Rattle.p3_accounts.specs.Subjects.{bindings_text, equation_text}
use Rattle.p3_accounts.specs.Vocabularies.{Vocabulary}
use Rattle.p3_accounts.specs.declared.meaning.Meaning.{Meaning}
use Rattle.p3_reports.proofs.PutLemmas.{both_put, partly_first, partly_second}
use Rattle.p3_unmet.specs.Bindings.{paired_with}
use Rattle.p3_meanings.specs.Environments.{environment_text}
use Rattle.p3_meanings.specs.Heard.{heard, numbered_from}
use Rattle.p3_meanings.specs.Said.{Said, said_line, said_lines}
use Rattle.p3_meanings.specs.declared.unnumbered.Unnumbered.{Unnumbered}

-- ---- variables

bindings_behind : (V : Vocabulary) (env : Environment) (scope : Variables) (objects : Slots) → environment_text (paired env scope (object_names V.numbers objects)) ≡ environment_text env ++ bindings_text V (paired_with scope objects)
bindings_behind V env [] objects = sym (append-nil (environment_text env))
bindings_behind V env (variable ∷ scope) [] = sym (append-nil (environment_text env))
bindings_behind V env (variable ∷ scope) (object ∷ objects) =
    let name = name_at V.numbers.objects object in
    bindings_behind V (record { variable = variable; object = name } ∷ env) scope objects
    ∙ append_assoc (environment_text env) (equation_text variable name) (bindings_text V (paired_with scope objects))

-- what variables mean is told as their environment is
pub bindings_are_told : (V : Vocabulary) (scope : Variables) (objects : Slots) → bindings_text V (paired_with scope objects) ≡ environment_text (environment_of V.numbers scope objects)
bindings_are_told V scope objects = sym (bindings_behind V [] scope objects)

-- ---- lines

pub numbered_is_said : (V : Vocabulary) (number : ℕ) (items : List Unnumbered) → flat_map (meaning_line V) (numbered_from number items) ≡ said_lines V number (map (heard V) items)
numbered_is_said V number [] = refl
numbered_is_said V number (item ∷ items) = ap (λ lines. said_line V number (heard V item) ++ lines) (numbered_is_said V (number + 1) items)

-- one list behind another
pub said_behind : (V : Vocabulary) (number : ℕ) (first second : List Said) → said_lines V number (first ++ second) ≡ said_lines V number first ++ said_lines V (number + length first) second
said_behind V number [] second = ap (λ n. said_lines V n second) (omega arith)
said_behind V number (said ∷ first) second =
    ap (λ rest. said_line V number said ++ rest) (said_behind V (number + 1) first second)
    ∙ sym (append_assoc (said_line V number said) (said_lines V (number + 1) first) (said_lines V (number + 1 + length first) second))
    ∙ ap (λ n. (said_line V number said ++ said_lines V (number + 1) first) ++ said_lines V n second) (omega arith)

-- what is said next is no longer left to be said
pub left_more : (front next here rest whole : List Said) → next ≡ front ++ here → front ++ (here ++ rest) ≡ whole → next ++ rest ≡ whole
left_more front next here rest whole is all = ap (λ some. some ++ rest) is ∙ append_assoc front here rest ∙ all

-- ---- numbered in turn

pub numbered_behind : (number : ℕ) (first second : List Unnumbered) → numbered_from number (first ++ second) ≡ numbered_from number first ++ numbered_from (number + length first) second
numbered_behind number [] second = ap (λ n. numbered_from n second) (omega arith)
numbered_behind number (item ∷ first) second =
    ap (λ rest. record { spot = item.spot; number = number; of = item.of } ∷ rest) (numbered_behind (number + 1) first second ∙ ap (λ n. numbered_from (number + 1) first ++ numbered_from n second) (omega arith))

pub numbered_length : (number : ℕ) (items : List Unnumbered) → length (numbered_from number items) ≡ length items
numbered_length number [] = refl
numbered_length number (item ∷ items) = ap suc (numbered_length (number + 1) items)

pub numbered_more : (yielded : List Unnumbered) (item : Unnumbered) (meanings : List Meaning) (number : ℕ) → meanings ≡ numbered_from 0 yielded → number ≡ length meanings
    → meanings ++ record { spot = item.spot; number = number; of = item.of } ∷ [] ≡ numbered_from 0 (yielded ++ item ∷ [])
numbered_more yielded item meanings number are at =
    let place : number ≡ 0 + length yielded = at ∙ ap length are ∙ numbered_length 0 yielded ∙ omega arith in
    (λ i. are i ++ record { spot = item.spot; number = place i; of = item.of } ∷ [])
    ∙ sym (numbered_behind 0 yielded (item ∷ []))

-- ---- the lines of a list, by their places

module _ {A : Type 0} (V : Vocabulary) (says : A → Said) (things : List A) where
  one_line_more : (k : ℕ) (d : A) → k < length things → said_lines V 0 (map says (take (k + 1) things)) ≡ said_lines V 0 (map says (take k things)) ++ said_line V k (says (get_or things k d))
  one_line_more k d within =
      let first : List Said = map says (take k things) in
      let thing = get_or things k d in
      let count : 0 + length first ≡ k = omega (arith, length-map (take k things) says, length-take-le k things (omega (arith, within))) in
      ap (λ some. said_lines V 0 (map says some)) (take_more things k d within)
      ∙ ap (said_lines V 0) (map-append says (take k things) (thing ∷ []))
      ∙ said_behind V 0 first (says thing ∷ [])
      ∙ ap (λ n. said_lines V 0 first ++ (said_line V n (says thing) ++ [])) count
      ∙ ap (λ last. said_lines V 0 first ++ last) (append-nil (said_line V k (says thing)))

  lines_and_rest : (k : ℕ) → k < length things → said_lines V 0 (map says things) ≡ said_lines V 0 (map says (take (k + 1) things)) ++ said_lines V (k + 1) (map says (drop (k + 1) things))
  lines_and_rest k within =
      let first : List Said = map says (take (k + 1) things) in
      let rest : List Said = map says (drop (k + 1) things) in
      let count : 0 + length first ≡ k + 1 = omega (arith, length-map (take (k + 1) things) says, length-take-le (k + 1) things (omega (arith, within))) in
      ap (λ all. said_lines V 0 (map says all)) (sym (take-append-drop (k + 1) things))
      ∙ ap (said_lines V 0) (map-append says (take (k + 1) things) (drop (k + 1) things))
      ∙ said_behind V 0 first rest
      ∙ ap (λ n. said_lines V 0 first ++ said_lines V n rest) count

  -- the line of the next is put behind those before it
  pub line_put : (k : ℕ) (d : A) (old mid new : Option (List ℕ)) → k < length things → IsPut (said_lines V 0 (map says (take k things))) old mid → IsPut (said_line V k (says (get_or things k d))) mid new
      → IsPut (said_lines V 0 (map says (take (k + 1) things))) old new
  line_put k d old mid new within before here =
      subst (λ text. IsPut text old new) (sym (one_line_more k d within)) (both_put (said_lines V 0 (map says (take k things))) (said_line V k (says (get_or things k d))) old mid new before here)

  -- a first part of it is put behind them
  pub line_partly_put : (k : ℕ) (d : A) (old mid new : Option (List ℕ)) → k < length things → IsPut (said_lines V 0 (map says (take k things))) old mid → IsPartlyPut (said_line V k (says (get_or things k d))) mid new
      → IsPartlyPut (said_lines V 0 (map says things)) old new
  line_partly_put k d old mid new within before here =
      let some = said_lines V 0 (map says (take k things)) in
      let line = said_line V k (says (get_or things k d)) in
      let rest = said_lines V (k + 1) (map says (drop (k + 1) things)) in
      subst (λ text. IsPartlyPut text old new) (sym (lines_and_rest k within ∙ ap (λ front. front ++ rest) (one_line_more k d within)))
      (partly_first (some ++ line) rest old new (partly_second some line old mid new before here))
