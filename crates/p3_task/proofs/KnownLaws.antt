-- A well-formed task knows every name that it uses.
use Rattle.std.proofs.Common.{◌≡◌, ◌∙◌, sym, ap, List, [], ◌∷◌, zero, suc, arith}
use Rattle.std.specs.Prelude.{flat_map, Contains}
use Rattle.p3_task.specs.Offences.{WellFormed, domain_duplicates, problem_duplicates, domain_unknowns, problem_unknowns, domain_miscounts, problem_miscounts, domain_clashes, problem_clashes}
use Rattle.p3_task.specs.Known.{KnowsUses}
use Rattle.p3_task.proofs.OnceLemmas.{nil_left, nil_right}
use Rattle.p3_task.specs.declared.task.Task.{Task}

-- where all have nothing, so has each
nothing : {A B : Type 0} (f : A → List B) (xs : List A) → flat_map f xs ≡ [] → (x : A) → Contains xs x → f x ≡ []
nothing f [] none x (k, within, same) = absurd (omega (arith, within))
nothing f (y ∷ xs) none x (zero, within, same) = ap f (sym same) ∙ nil_left (f y) (flat_map f xs) none
nothing f (y ∷ xs) none x (suc k, within, same) = nothing f xs (nil_right (f y) (flat_map f xs) none) x (k, omega (arith, within), same)

pub knows_uses : (T : Task) → WellFormed T → KnowsUses T
unfolding domain_duplicates problem_duplicates domain_unknowns problem_unknowns domain_miscounts problem_miscounts domain_clashes problem_clashes
knows_uses T well = record {
  domain = λ use_of among. record {
    once = nothing _ _ (nil_right _ _ (nil_left _ _ well.duplicates)) use_of among;
    declared = nothing _ _ (nil_left _ _ well.unknowns) use_of among;
    counted = nothing _ _ (nil_right _ _ (nil_left _ _ well.miscounts)) use_of among;
    fitting = nothing _ _ (nil_left _ _ well.clashes) use_of among;
  };
  problem = λ use_of among. record {
    once = nothing _ _ (nil_right _ _ (nil_right _ _ well.duplicates)) use_of among;
    declared = nothing _ _ (nil_right _ _ well.unknowns) use_of among;
    counted = nothing _ _ (nil_right _ _ well.miscounts) use_of among;
    fitting = nothing _ _ (nil_right _ _ well.clashes) use_of among;
  };
}
