-- The numbers of names are below the count of the names.
use Rattle.std.proofs.Common.{◌≡◌, ℕ, zero, suc, refl, sym, subst, List, [], ◌∷◌, length, get_or, arith, Option, Some, None}
use Rattle.std.specs.Prelude.{position}
use Rattle.std.specs.List.{All, AllZip}
use Rattle.std.proofs.lemmas.List.Quantifiers.{position-Some}
use Rattle.p3_task.specs.Names.{Name, same_name}
use Rattle.p3_task.specs.Constraints.{instances}
use Rattle.p3_task.specs.Metrics.{step_prefs}
use Rattle.p3_task.specs.PreferenceNames.{ordered_names}
use Rattle.p3_task.specs.declared.state.Fact.{Fact}
use Rattle.p3_task.specs.declared.task.Task.{Task}
use Rattle.p3_formula.specs.Conditions.{HasNamesBelow}
use Rattle.p3_formula.specs.Weighted.{HasNameBelow}
use Rattle.p3_formula.specs.declared.modal.GroundPref.{GroundPref}
use Rattle.p3_formula.specs.declared.modal.GroundSoft.{GroundSoft}
use Rattle.p3_formula.specs.declared.task.GroundTask.{GroundTask}
use Rattle.p3_ground.specs.StandsFor.{StandsBy, PrefStands, SoftStands, number_of_name}

-- what holds of each pair holds of each second part
second_parts : {A B : Type 0} (R : A → B → Type 0) (P : B → Type 0) → ((x : A) (y : B) → R x y → P y) → (xs : List A) (ys : List B) → AllZip R xs ys → All P ys
second_parts R P tells [] [] stands = λ k d lt. absurd (omega (arith, lt))
second_parts R P tells [] (y ∷ ys) stands = absurd stands
second_parts R P tells (x ∷ xs) [] stands = absurd stands
second_parts {A = A} {B = B} R P tells (x ∷ xs) (y ∷ ys) stands = by (second_parts R P tells xs ys stands.1)
  where
    by : All P ys → All P (y ∷ ys)
    by rest zero d lt = tells x y stands.0
    by rest (suc k) d lt = rest k d (omega (arith, lt))

module _ (T : Task) where
  number_below : (name : Option Name) → HasNameBelow (length (ordered_names T)) (number_of_name T name)
  number_below None = tt
  number_below (Some name) = by (position (same_name name) (ordered_names T)) refl
    where
      by : (o : Option ℕ) → position (same_name name) (ordered_names T) ≡ o → HasNameBelow (length (ordered_names T)) o
      by None e = tt
      by (Some k) e = (position-Some (same_name name) (ordered_names T) k [] e).0

  named_below : (count : ℕ) → count ≡ length (ordered_names T) → (made : Option ℕ) (name : Option Name) → made ≡ number_of_name T name → HasNameBelow count made
  named_below count e made name is = subst (λ n. HasNameBelow n made) (sym e) (subst (HasNameBelow (length (ordered_names T))) (sym is) (number_below name))

  pub has_names_below : (atoms : List Fact) (G : GroundTask) → StandsBy T atoms G → HasNamesBelow G.names G
  has_names_below atoms G S = record {
    steps = λ k d lt.
        let kept = S.kept k d lt in
        second_parts (PrefStands T atoms) (λ (pref : GroundPref). HasNameBelow G.names pref.name) (λ pref made is. named_below G.names S.name_count made.name pref.name is.name) (step_prefs T kept.step) (get_or G.steps k d).prefs kept.is.prefs;
    soft = second_parts (SoftStands T atoms) (λ (soft : GroundSoft). HasNameBelow G.names soft.name) (λ instance made is. named_below G.names S.name_count made.name instance.name is.name) (instances T) G.soft S.soft;
  }
