-- What a stage makes of reasons grows by one of them at a time.
use Rattle.std.proofs.Common.{◌≡◌, ◌∙◌, List, [], ◌∷◌, ◌++◌, sym, ap, append_assoc, Option}
use Rattle.std.specs.Prelude.{flat_map, option_to_list}
use Rattle.std.proofs.lemmas.List.{append-nil}
use Rattle.std.proofs.lemmas.List.Concat.{flat_map-append}
use Rattle.p3_base.specs.declared.showing.Reason.{Reason}
use Rattle.p3_expansion.proofs.WalkLemmas.{zip-push}
use Rattle.p3_unmet.specs.Sketches.{Sketch}
use Rattle.p3_unmet.specs.Stages.{AreSketched, IsSketchOf, Stage}

module _ (stage : Stage) (first : List Sketch) where
  -- of no reason there is nothing behind the first ones
  pub none-sketched : (sketches : List Sketch) → sketches ≡ first → AreSketched stage first [] sketches
  none-sketched sketches is = record { found = []; told = tt; whole = is ∙ sym (append-nil first) }

  pub more-sketched : (reasons : List Reason) (old new : List Sketch) (reason : Reason) (found : Option Sketch) → AreSketched stage first reasons old → IsSketchOf stage reason found → new ≡ old ++ option_to_list found
      → AreSketched stage first (reasons ++ reason ∷ []) new
  more-sketched reasons old new reason found so_far told is = record {
    found = so_far.found ++ found ∷ [];
    told = zip-push (IsSketchOf stage) reasons so_far.found reason found so_far.told told;
    whole = is ∙ ap (λ front. front ++ option_to_list found) so_far.whole ∙ append_assoc first (flat_map option_to_list so_far.found) (option_to_list found)
        ∙ ap (λ more. first ++ more) (ap (λ last. flat_map option_to_list so_far.found ++ last) (sym (append-nil (option_to_list found))) ∙ sym (flat_map-append option_to_list so_far.found (found ∷ [])));
  }
