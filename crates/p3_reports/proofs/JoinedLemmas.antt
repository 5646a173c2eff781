-- Texts of several things, one behind another: the things before a place, at it, and behind it.
use Rattle.std.proofs.Common.{◌≡◌, ◌∙◌, ℕ, zero, suc, ◌+◌, add-one, ◌<◌, List, [], ◌∷◌, ◌++◌, length, get_or, take, drop, sym, ap, append_assoc, arith}
use Rattle.std.specs.List.{flat_map, fold}
use Rattle.std.proofs.Math.Seq.{take-suc}
use Rattle.std.proofs.lemmas.Grind.{flat_map-append}
use Rattle.std.proofs.lemmas.List.{append-nil}
use Rattle.p3_reports.specs.Joined.{joined}

module _ {A : Type 0} (text : A → List ℕ) where
  fold_from : (before : List ℕ) (things : List A) → fold (λ sofar thing. sofar ++ text thing) before things ≡ before ++ flat_map text things
  fold_from before [] = sym (append-nil before)
  fold_from before (thing ∷ things) = fold_from (before ++ text thing) things ∙ append_assoc before (text thing) (flat_map text things)

  pub joined-flat_map : (things : List A) → joined text things ≡ flat_map text things
  joined-flat_map things = fold_from [] things

  -- the texts up to a place
  pub up_to : (things : List A) (k : ℕ) (thing : A) → k < length things → thing ≡ get_or things k thing
      → flat_map text (take (k + 1) things) ≡ flat_map text (take k things) ++ text thing
  up_to things k thing low is =
      ap (λ count. flat_map text (take count things)) (add-one k)
      ∙ ap (flat_map text) (take-suc things k thing low)
      ∙ flat_map-append text (take k things) (get_or things k thing ∷ [])
      ∙ ap (λ more. flat_map text (take k things) ++ more) (append-nil (text (get_or things k thing)))
      ∙ ap (λ one. flat_map text (take k things) ++ text one) (sym is)

  -- the texts before a place, at it, and behind it
  pub around : (things : List A) (k : ℕ) (thing : A) → k < length things → thing ≡ get_or things k thing
      → flat_map text things ≡ (flat_map text (take k things) ++ text thing) ++ flat_map text (drop (suc k) things)
  around [] k thing low is = absurd (omega (arith, low))
  around (first ∷ things) zero thing low is = ap (λ one. text one ++ flat_map text things) (sym is)
  around (first ∷ things) (suc k) thing low is =
      let front = flat_map text (take k things) in
      let back = flat_map text (drop (suc k) things) in
      let less : k < length things = omega (arith, low) in
      ap (λ rest. text first ++ rest) (around things k thing less is)
      ∙ sym (append_assoc (text first) (front ++ text thing) back)
      ∙ ap (λ rest. rest ++ back) (sym (append_assoc (text first) front (text thing)))
