-- What is found in sums and products, and in one expression more.
use Rattle.std.proofs.Common.{◌≡◌, ◌∙◌, refl, sym, ap, ℕ, nat_lt, ◌+◌, append_assoc, append-nil, Bool, true, false, ◌||◌, ◌&&◌, List, [], ◌∷◌, ◌++◌, map, cond, arith, Some, None}
use Rattle.std.specs.Prelude.{count_by, flat_map, slice_get, if◌then◌else◌}
use Rattle.std.specs.List.{list_any}
use Rattle.std.specs.Option.{option_or}
use Rattle.std.proofs.lemmas.List.Sums.{sum_by-cons}
use Rattle.p3_task.proofs.FoldLemmas.{fold_num-Product}
use Rattle.p3_task.specs.Folds.{fold_num}
use Rattle.p3_task.specs.Refusals.Metric.{Factors, factors_layer, nonlinear}
use denote.Hole.Carrier.{hidden}
use Rattle.p3_task.specs.declared.effect.Numeral.{Numeral}
use Rattle.p3_task.specs.declared.term.Ref.{Ref}
use Rattle.p3_task.specs.declared.metric.Num.{Num}
use Rattle.p3_task.specs.declared.metric.Num.TheBlock.{hidden-the_row-Num-0}
use Rattle.p3_task.specs.declared.metric.Num.TheVariants as num
use Rattle.p3_metric.specs.Factors.{has_mention, have_two_mentions, first_product, first_product_in}
use Rattle.p3_metric.proofs.NumLemmas.{fold_num-Sum}

abbrev factors : Num → Factors
factors tree = fold_num factors_layer tree

any_map : {A B : Type 0} (p : B → Bool) (f : A → B) (xs : List A) → list_any p (map f xs) ≡ list_any (λ x. p (f x)) xs
any_map p f [] = refl
any_map p f (x ∷ xs) = ap (λ t. p (f x) || t) (any_map p f xs)

pub flat_map-map : {A B C : Type 0} (g : B → List C) (f : A → B) (xs : List A) → flat_map g (map f xs) ≡ flat_map (λ x. g (f x)) xs
flat_map-map g f [] = refl
flat_map-map g f (x ∷ xs) = ap (λ t. g (f x) ++ t) (flat_map-map g f xs)

count_map : {A B : Type 0} (p : B → Bool) (f : A → B) (xs : List A) → count_by p (map f xs) ≡ count_by (λ x. p (f x)) xs
count_map p f [] = refl
count_map p f (x ∷ xs) = sum_by-cons (λ y. cond (p y) 1 0) (f x) (map f xs) ∙ ap (λ n. cond (p (f x)) 1 0 + n) (count_map p f xs) ∙ sym (sum_by-cons (λ y. cond (p (f y)) 1 0) x xs)

first_of_append : {A : Type 0} (xs ys : List A) → slice_get (xs ++ ys) 0 ≡ option_or (slice_get xs 0) (slice_get ys 0)
first_of_append [] ys = refl
first_of_append (x ∷ xs) ys = refl

-- ---- at the forms

pub mention-Number : (numeral : Numeral) → has_mention (num.Number numeral) ≡ false
unfolding has_mention
mention-Number numeral = refl

pub mention-TotalCost : (at : ℕ) → has_mention (num.TotalCost at) ≡ true
unfolding has_mention
mention-TotalCost at = refl

pub mention-Violated : (name : Ref) → has_mention (num.Violated name) ≡ true
unfolding has_mention
mention-Violated name = refl

pub mention-Neg : (at : ℕ) (part : Num) → has_mention (num.Neg at part) ≡ has_mention part
unfolding has_mention hidden-the_row-Num-0 hidden
mention-Neg at part = refl

pub mention-Sub : (at : ℕ) (first second : Num) → has_mention (num.Sub at first second) ≡ (has_mention first || has_mention second)
unfolding has_mention hidden-the_row-Num-0 hidden
mention-Sub at first second = any_two (has_mention first) (has_mention second)
  where
    any_two : (a b : Bool) → (a || (b || false)) ≡ (a || b)
    any_two true b = refl
    any_two false true = refl
    any_two false false = refl

pub product-Number : (numeral : Numeral) → first_product (num.Number numeral) ≡ None
unfolding nonlinear
product-Number numeral = refl

pub product-TotalCost : (at : ℕ) → first_product (num.TotalCost at) ≡ None
unfolding nonlinear
product-TotalCost at = refl

pub product-Violated : (name : Ref) → first_product (num.Violated name) ≡ None
unfolding nonlinear
product-Violated name = refl

pub product-Neg : (at : ℕ) (part : Num) → first_product (num.Neg at part) ≡ first_product part
unfolding nonlinear hidden-the_row-Num-0 hidden
product-Neg at part = refl

pub nonlinear-Sub : (at : ℕ) (first second : Num) → nonlinear (num.Sub at first second) ≡ nonlinear first ++ nonlinear second
unfolding nonlinear hidden-the_row-Num-0 hidden
nonlinear-Sub at first second = ap (λ list. nonlinear first ++ list) (append-nil (nonlinear second))

pub product-Sub : (at : ℕ) (first second : Num) → first_product (num.Sub at first second) ≡ option_or (first_product first) (first_product second)
product-Sub at first second = ap (λ list. slice_get list 0) (nonlinear-Sub at first second) ∙ first_of_append (nonlinear first) (nonlinear second)

pub mention-Sum : (at : ℕ) (parts : List Num) → has_mention (num.Sum at parts) ≡ list_any has_mention parts
unfolding has_mention
mention-Sum at parts = ap (λ (f : Factors). f.mention) (fold_num-Sum factors_layer at parts) ∙ any_map (λ (f : Factors). f.mention) factors parts

pub mention-Product : (at : ℕ) (parts : List Num) → has_mention (num.Product at parts) ≡ list_any has_mention parts
unfolding has_mention
mention-Product at parts = ap (λ (f : Factors). f.mention) (fold_num-Product factors_layer at parts) ∙ any_map (λ (f : Factors). f.mention) factors parts

pub nonlinear-Sum : (at : ℕ) (parts : List Num) → nonlinear (num.Sum at parts) ≡ flat_map nonlinear parts
unfolding nonlinear
nonlinear-Sum at parts = ap (λ (f : Factors). f.products) (fold_num-Sum factors_layer at parts) ∙ flat_map-map (λ (f : Factors). f.products) factors parts

pub nonlinear-Product : (at : ℕ) (parts : List Num) → nonlinear (num.Product at parts) ≡ (if have_two_mentions parts then at ∷ [] else []) ++ flat_map nonlinear parts
unfolding nonlinear has_mention
nonlinear-Product at parts =
    ap (λ (f : Factors). f.products) (fold_num-Product factors_layer at parts)
    ∙ (λ i. (if nat_lt 1 (count_map (λ (f : Factors). f.mention) factors parts i) then at ∷ [] else []) ++ flat_map-map (λ (f : Factors). f.products) factors parts i)

pub product-Sum : (at : ℕ) (parts : List Num) → first_product (num.Sum at parts) ≡ first_product_in parts
product-Sum at parts = ap (λ list. slice_get list 0) (nonlinear-Sum at parts)

pub product-Product : (at : ℕ) (parts : List Num) → first_product (num.Product at parts) ≡ (if have_two_mentions parts then Some at else first_product_in parts)
product-Product at parts = ap (λ list. slice_get list 0) (nonlinear-Product at parts) ∙ by (have_two_mentions parts) (flat_map nonlinear parts)
  where
    by : (t : Bool) (list : List ℕ) → slice_get ((if t then at ∷ [] else []) ++ list) 0 ≡ (if t then Some at else slice_get list 0)
    by true list = refl
    by false list = refl

-- ---- one expression more

pub any_more : {A : Type 0} (p : A → Bool) (xs : List A) (x : A) → list_any p (xs ++ x ∷ []) ≡ (list_any p xs || p x)
any_more p [] x = by (p x)
  where
    by : (t : Bool) → (t || false) ≡ (false || t)
    by true = refl
    by false = refl
any_more p (y ∷ xs) x = by (p y) (any_more p xs x)
  where
    by : (t : Bool) → list_any p (xs ++ x ∷ []) ≡ (list_any p xs || p x) → (t || list_any p (xs ++ x ∷ [])) ≡ ((t || list_any p xs) || p x)
    by true e = refl
    by false e = e

count_more : {A : Type 0} (p : A → Bool) (xs : List A) (x : A) → count_by p (xs ++ x ∷ []) ≡ count_by p xs + cond (p x) 1 0
count_more p [] x = omega (arith, sum_by-cons (λ y. cond (p y) 1 0) x [])
count_more p (y ∷ xs) x = let more = count_more p xs x in let one = sum_by-cons (λ z. cond (p z) 1 0) y (xs ++ x ∷ []) in let two = sum_by-cons (λ z. cond (p z) 1 0) y xs in omega (arith, more, one, two)

any_counted : {A : Type 0} (p : A → Bool) (xs : List A) → list_any p xs ≡ nat_lt 0 (count_by p xs)
any_counted p [] = refl
any_counted p (y ∷ xs) = by (p y) refl (any_counted p xs) ∙ ap (nat_lt 0) (sym (sum_by-cons (λ z. cond (p z) 1 0) y xs))
  where
    by : (t : Bool) → p y ≡ t → list_any p xs ≡ nat_lt 0 (count_by p xs) → (t || list_any p xs) ≡ nat_lt 0 (cond t 1 0 + count_by p xs)
    by true e rest = grind arith
    by false e rest = rest ∙ ap (nat_lt 0) (omega arith)

pub two_more : (parts : List Num) (part : Num) → have_two_mentions (parts ++ part ∷ []) ≡ (have_two_mentions parts || (list_any has_mention parts && has_mention part))
two_more parts part = ap (nat_lt 1) (count_more has_mention parts part) ∙ by (has_mention part) (count_by has_mention parts) ∙ ap (λ t. have_two_mentions parts || (t && has_mention part)) (sym (any_counted has_mention parts))
  where
    by : (t : Bool) (n : ℕ) → nat_lt 1 (n + cond t 1 0) ≡ (nat_lt 1 n || (nat_lt 0 n && t))
    by true n = grind arith
    by false n = grind arith

flat_more : (parts : List Num) (part : Num) → flat_map nonlinear (parts ++ part ∷ []) ≡ flat_map nonlinear parts ++ nonlinear part
flat_more [] part = append-nil (nonlinear part)
flat_more (p ∷ parts) part = ap (λ list. nonlinear p ++ list) (flat_more parts part) ∙ sym (append_assoc (nonlinear p) (flat_map nonlinear parts) (nonlinear part))

pub first_more : (parts : List Num) (part : Num) → first_product_in (parts ++ part ∷ []) ≡ option_or (first_product_in parts) (first_product part)
first_more parts part = ap (λ list. slice_get list 0) (flat_more parts part) ∙ first_of_append (flat_map nonlinear parts) (nonlinear part)

pub ruleset factor_laws = (mention-Number, mention-TotalCost, mention-Violated, mention-Neg, mention-Sub, mention-Sum, mention-Product, product-Number, product-TotalCost, product-Violated, product-Neg, product-Sub, product-Sum, product-Product)

pub ruleset more_laws = (any_more, two_more, first_more)
