-- Operators over what their formulas become.
use Rattle.std.proofs.Common.{◌≡◌, ◌∙◌, refl, Bool, true, [], ◌∷◌, map}
use Rattle.std.proofs.lemmas.Bool.{and_parts}
use Rattle.p3_base.specs.Operators.{all, binary, formulas_of, is_at_end, joined, over, Pairs, unary}
use Rattle.p3_base.specs.declared.operator.Binary.{Binary}
use Rattle.p3_base.specs.declared.operator.Binary.TheVariants as two
use Rattle.p3_base.specs.declared.operator.Operator.{Operator}
use Rattle.p3_base.specs.declared.operator.Operator.TheVariants.{AtEnd, Always, Sometime, AtMostOnce, SometimeAfter, SometimeBefore}
use Rattle.p3_base.specs.declared.operator.Unary.{Unary}
use Rattle.p3_base.specs.declared.operator.Unary.TheVariants as one

-- ---- over what the formulas become

module _ {A B : Type 0} (f : A → B) where
  pub formulas_over : (operator : Operator A) → formulas_of (over f operator) ≡ map f (formulas_of operator)
  formulas_over (AtEnd _) = refl
  formulas_over (Always _) = refl
  formulas_over (Sometime _) = refl
  formulas_over (AtMostOnce _) = refl
  formulas_over (SometimeAfter _ _) = refl
  formulas_over (SometimeBefore _ _) = refl

  pub over_over : {C : Type 0} (g : B → C) (operator : Operator A) → over g (over f operator) ≡ over (λ x. g (f x)) operator
  over_over g (AtEnd _) = refl
  over_over g (Always _) = refl
  over_over g (Sometime _) = refl
  over_over g (AtMostOnce _) = refl
  over_over g (SometimeAfter _ _) = refl
  over_over g (SometimeBefore _ _) = refl

  pub joined_over : {X : Type 0} (join : X → X → X) (find : B → X) (operator : Operator A) → joined join find (over f operator) ≡ joined join (λ x. find (f x)) operator
  joined_over join find (AtEnd _) = refl
  joined_over join find (Always _) = refl
  joined_over join find (Sometime _) = refl
  joined_over join find (AtMostOnce _) = refl
  joined_over join find (SometimeAfter _ _) = refl
  joined_over join find (SometimeBefore _ _) = refl

-- ---- by kind

module _ {A B : Type 0} (f : A → B) where
  pub over_unary : (kind : Unary) (x : A) → over f (unary kind x) ≡ unary kind (f x)
  over_unary one.AtEnd x = refl
  over_unary one.Always x = refl
  over_unary one.Sometime x = refl
  over_unary one.AtMostOnce x = refl

  pub over_binary : (kind : Binary) (x y : A) → over f (binary kind x y) ≡ binary kind (f x) (f y)
  over_binary two.SometimeAfter x y = refl
  over_binary two.SometimeBefore x y = refl

module _ {A X : Type 0} (join : X → X → X) (find : A → X) where
  pub joined_unary : (kind : Unary) (x : A) → joined join find (unary kind x) ≡ find x
  joined_unary one.AtEnd x = refl
  joined_unary one.Always x = refl
  joined_unary one.Sometime x = refl
  joined_unary one.AtMostOnce x = refl

  pub joined_binary : (kind : Binary) (x y : A) → joined join find (binary kind x y) ≡ join (find x) (find y)
  joined_binary two.SometimeAfter x y = refl
  joined_binary two.SometimeBefore x y = refl

pub formulas_unary : {A : Type 0} (kind : Unary) (x : A) → formulas_of (unary kind x) ≡ x ∷ []
formulas_unary one.AtEnd x = refl
formulas_unary one.Always x = refl
formulas_unary one.Sometime x = refl
formulas_unary one.AtMostOnce x = refl

pub formulas_binary : {A : Type 0} (kind : Binary) (x y : A) → formulas_of (binary kind x y) ≡ x ∷ y ∷ []
formulas_binary two.SometimeAfter x y = refl
formulas_binary two.SometimeBefore x y = refl

module _ {A B : Type 0} (related : A → B → Type 0) where
  pub pairs_unary : (kind : Unary) (x : A) (y : B) → related x y → Pairs related (unary kind x) (unary kind y)
  pairs_unary one.AtEnd x y both = both
  pairs_unary one.Always x y both = both
  pairs_unary one.Sometime x y both = both
  pairs_unary one.AtMostOnce x y both = both

  pub pairs_binary : (kind : Binary) (x x2 : A) (y y2 : B) → related x y → related x2 y2 → Pairs related (binary kind x x2) (binary kind y y2)
  pairs_binary two.SometimeAfter x x2 y y2 first second = (first, second)
  pairs_binary two.SometimeBefore x x2 y y2 first second = (first, second)

pub pairs_weaker : {A B : Type 0} (related weaker : A → B → Type 0) → ((x : A) (y : B) → related x y → weaker x y) → (operator : Operator A) (other : Operator B) → Pairs related operator other → Pairs weaker operator other
pairs_weaker related weaker by (AtEnd x) (AtEnd y) pair = by x y pair
pairs_weaker related weaker by (Always x) (Always y) pair = by x y pair
pairs_weaker related weaker by (Sometime x) (Sometime y) pair = by x y pair
pairs_weaker related weaker by (AtMostOnce x) (AtMostOnce y) pair = by x y pair
pairs_weaker related weaker by (SometimeAfter x x2) (SometimeAfter y y2) pair = (by x y pair.0, by x2 y2 pair.1)
pairs_weaker related weaker by (SometimeBefore x x2) (SometimeBefore y y2) pair = (by x y pair.0, by x2 y2 pair.1)
pairs_weaker related weaker by _ _ pair = absurd pair

pub pairs_at_end : {A B : Type 0} (related : A → B → Type 0) (operator : Operator A) (other : Operator B) → Pairs related operator other → is_at_end operator ≡ is_at_end other
pairs_at_end related (AtEnd _) (AtEnd _) pair = refl
pairs_at_end related (Always _) (Always _) pair = refl
pairs_at_end related (Sometime _) (Sometime _) pair = refl
pairs_at_end related (AtMostOnce _) (AtMostOnce _) pair = refl
pairs_at_end related (SometimeAfter _ _) (SometimeAfter _ _) pair = refl
pairs_at_end related (SometimeBefore _ _) (SometimeBefore _ _) pair = refl
pairs_at_end related _ _ pair = absurd pair

-- ---- where two functions give the same of each formula

-- of each that passes a test, where all do
pub over_where : {A B : Type 0} (test : A → Bool) (p q : A → B) → ((x : A) → test x ≡ true → p x ≡ q x) → (operator : Operator A) → all test operator ≡ true → over p operator ≡ over q operator
over_where test p q same (AtEnd x) passes = λ i. AtEnd (same x passes i)
over_where test p q same (Always x) passes = λ i. Always (same x passes i)
over_where test p q same (Sometime x) passes = λ i. Sometime (same x passes i)
over_where test p q same (AtMostOnce x) passes = λ i. AtMostOnce (same x passes i)
over_where test p q same (SometimeAfter x y) passes = let both = and_parts (test x) (test y) passes in λ i. SometimeAfter (same x both.0 i) (same y both.1 i)
over_where test p q same (SometimeBefore x y) passes = let both = and_parts (test x) (test y) passes in λ i. SometimeBefore (same x both.0 i) (same y both.1 i)

pub over_same : {A B : Type 0} (p q : A → B) → ((x : A) → p x ≡ q x) → (operator : Operator A) → over p operator ≡ over q operator
over_same p q same (AtEnd x) = λ i. AtEnd (same x i)
over_same p q same (Always x) = λ i. Always (same x i)
over_same p q same (Sometime x) = λ i. Sometime (same x i)
over_same p q same (AtMostOnce x) = λ i. AtMostOnce (same x i)
over_same p q same (SometimeAfter x y) = λ i. SometimeAfter (same x i) (same y i)
over_same p q same (SometimeBefore x y) = λ i. SometimeBefore (same x i) (same y i)

-- where what one finds is an image of what the other finds, what is joined is so too
pub joined_image : {A X Y : Type 0} (image : X → Y) (join : X → X → X) (join_images : Y → Y → Y) → ((x y : X) → join_images (image x) (image y) ≡ image (join x y)) → (p : A → Y) (q : A → X) → ((x : A) → p x ≡ image (q x)) → (operator : Operator A) → joined join_images p operator ≡ image (joined join q operator)
joined_image image join join_images both p q same (AtEnd x) = same x
joined_image image join join_images both p q same (Always x) = same x
joined_image image join join_images both p q same (Sometime x) = same x
joined_image image join join_images both p q same (AtMostOnce x) = same x
joined_image image join join_images both p q same (SometimeAfter x y) = (λ i. join_images (same x i) (same y i)) ∙ both (q x) (q y)
joined_image image join join_images both p q same (SometimeBefore x y) = (λ i. join_images (same x i) (same y i)) ∙ both (q x) (q y)

pub joined_same : {A X : Type 0} (join : X → X → X) (p q : A → X) → ((x : A) → p x ≡ q x) → (operator : Operator A) → joined join p operator ≡ joined join q operator
joined_same join p q same operator = joined_image (λ x. x) join join (λ x y. refl) p q same operator
