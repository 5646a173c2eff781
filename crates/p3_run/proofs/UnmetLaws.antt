-- Where none is counted that is not satisfied, there is none.
use Rattle.std.proofs.Common.{◌≡◌, ◌∙◌, ℕ, ◌+◌, nat_lt, Bool, true, false, not, cond, List, [], ◌∷◌, length, Some, None, refl, ap, arith}
use Rattle.std.specs.Prelude.{position}
use Rattle.std.specs.List.{prefix_len}
use Rattle.std.proofs.lemmas.Bool.{le-ltb}
use Rattle.std.proofs.lemmas.List.Sums.{sum_by-cons}
use Rattle.p3_run.specs.Groups.{rejects, unmet_in}
use Rattle.p3_run.specs.declared.stages.Stage.{Stage}

all_passed : (stages : List Stage) → unmet_in stages ≡ 0 → prefix_len (λ stage. not (rejects stage)) stages ≡ length stages
all_passed [] none = refl
all_passed (stage ∷ stages) none = by stage.accepts refl (all_passed stages) where
  count : unmet_in (stage ∷ stages) ≡ cond (rejects stage) 1 0 + unmet_in stages
  count = sum_by-cons (λ (one : Stage). cond (rejects one) 1 0) stage stages

  by : (b : Bool) → stage.accepts ≡ b → (unmet_in stages ≡ 0 → prefix_len (λ one. not (rejects one)) stages ≡ length stages) → prefix_len (λ one. not (rejects one)) (stage ∷ stages) ≡ length (stage ∷ stages)
  by true e rest =
      let c = ap (λ b. cond {A = ℕ} (not b) 1 0 + unmet_in stages) e in
      let left : unmet_in stages ≡ 0 = omega (arith, count, c, none) in
      ap (λ b. cond (not (not b)) (1 + prefix_len (λ one. not (rejects one)) stages) 0) e ∙ ap (λ n. 1 + n) (rest left) ∙ omega arith
  by false e rest =
      let c = ap (λ b. cond {A = ℕ} (not b) 1 0 + unmet_in stages) e in
      absurd (omega (arith, count, c, none))

pub none_unmet : (stages : List Stage) → unmet_in stages ≡ 0 → position rejects stages ≡ None
none_unmet stages none =
    ap (λ n. cond (nat_lt n (length stages)) (Some n) None) (all_passed stages none)
    ∙ ap (λ b. cond b (Some (length stages)) None) (le-ltb (length stages) (length stages) (omega arith))
