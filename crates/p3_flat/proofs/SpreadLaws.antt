-- Conjunctions that are spread.
use Rattle.std.proofs.Common.{◌≡◌, ◌∙◌, ℕ, Bool, ◌&&◌, List, [], ◌∷◌, ◌++◌, refl, ap}
use Rattle.std.specs.Prelude.{Result, Ok, Err, IfOk, IsTrue}
use Rattle.std.specs.List.{flat_map, list_all}
use Rattle.std.proofs.lemmas.Bool.{and_from}
use Rattle.std.proofs.lemmas.List.Folds.{list_all-append}
use Rattle.p3_base.specs.declared.error.NoMemory.{NoMemory}
use Rattle.p3_formula.specs.Forms.{HasAtomsOf, HasSameTruth, State, has_atoms, truth}
use Rattle.p3_formula.specs.Simplified.{spread}
use Rattle.p3_formula.specs.Tidy.{is_tidy}
use Rattle.p3_formula.specs.declared.form.Form.{Form}
use Rattle.p3_formula.specs.declared.form.Form.TheVariants.{And}
use Rattle.p3_formula.proofs.FormLemmas.{has_atoms-And, truth-And}
use Rattle.p3_formula.proofs.GuardLaws.{spread_atoms, spread_truth}
use Rattle.p3_flat.specs.Splitting.{IsConjunction}

spreads_truth : (state : State) (parts : List Form) → list_all (truth state) (flat_map spread parts) ≡ list_all (truth state) parts
spreads_truth state [] = refl
spreads_truth state (part ∷ parts) = list_all-append (truth state) (spread part) (flat_map spread parts) ∙ (λ i. spread_truth state part i && spreads_truth state parts i)

spreads_atoms : (allowed : ℕ → Bool) (parts : List Form) → list_all (has_atoms allowed) (flat_map spread parts) ≡ list_all (has_atoms allowed) parts
spreads_atoms allowed [] = refl
spreads_atoms allowed (part ∷ parts) = list_all-append (has_atoms allowed) (spread part) (flat_map spread parts) ∙ (λ i. spread_atoms allowed part i && spreads_atoms allowed parts i)

pub conjunction_is : (result : Result Form NoMemory) (pre : Form) (forms parts : List Form) → forms ≡ spread pre ++ flat_map spread parts
    → IfOk result (λ simple. HasSameTruth simple (And forms)) → IfOk result (λ simple. IsTrue (is_tidy simple)) → IfOk result (λ simple. HasAtomsOf simple (And forms)) → IfOk result (IsConjunction pre parts)
conjunction_is (Ok simple) pre forms parts are same tidy reads = record {
  holds = λ state. same state ∙ truth-And state forms ∙ ap (list_all (truth state)) are ∙ spreads_truth state (pre ∷ parts);
  tidy = tidy;
  atoms = λ allowed own more. reads allowed (has_atoms-And allowed forms ∙ ap (list_all (has_atoms allowed)) are ∙ spreads_atoms allowed (pre ∷ parts) ∙ and_from _ _ own more);
}
conjunction_is (Err error) pre forms parts are same tidy reads = tt
