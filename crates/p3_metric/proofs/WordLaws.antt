-- Where an expression that is too large is refused, by its form.
use Rattle.std.proofs.Common.{◌≡◌, refl, ℕ, List, length}
use Rattle.p3_base.specs.declared.refusal.Code.TheVariants.{CostTooLarge}
use Rattle.p3_base.specs.declared.refusal.Role.{Role}
use Rattle.p3_task.specs.Refusals.Places.{refusal_at}
use Rattle.p3_task.specs.declared.effect.Numeral.{Numeral}
use Rattle.p3_task.specs.declared.metric.Num.{Num}
use Rattle.p3_task.specs.declared.metric.Num.TheVariants as num
use Rattle.p3_task.specs.declared.term.Ref.{Ref}
use Rattle.p3_metric.specs.Evaluation.{refused_at}

pub refused-Number : (role : Role) (numeral : Numeral) → refused_at role (num.Number numeral) ≡ refusal_at CostTooLarge role numeral.at 0
refused-Number role numeral = refl

pub refused-TotalCost : (role : Role) (at : ℕ) → refused_at role (num.TotalCost at) ≡ refusal_at CostTooLarge role at 10
refused-TotalCost role at = refl

pub refused-Violated : (role : Role) (name : Ref) → refused_at role (num.Violated name) ≡ refusal_at CostTooLarge role name.at (length name.name)
refused-Violated role name = refl

pub refused-Neg : (role : Role) (at : ℕ) (part : Num) → refused_at role (num.Neg at part) ≡ refusal_at CostTooLarge role at 1
refused-Neg role at part = refl

pub refused-Sub : (role : Role) (at : ℕ) (first second : Num) → refused_at role (num.Sub at first second) ≡ refusal_at CostTooLarge role at 1
refused-Sub role at first second = refl

pub refused-Sum : (role : Role) (at : ℕ) (parts : List Num) → refused_at role (num.Sum at parts) ≡ refusal_at CostTooLarge role at 1
refused-Sum role at parts = refl

pub refused-Product : (role : Role) (at : ℕ) (parts : List Num) → refused_at role (num.Product at parts) ≡ refusal_at CostTooLarge role at 1
refused-Product role at parts = refl

pub ruleset refused_words = (refused-Number, refused-TotalCost, refused-Violated, refused-Neg, refused-Sub, refused-Sum, refused-Product)
