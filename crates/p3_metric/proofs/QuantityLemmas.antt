-- Sums and products of quantities with one part more.
use Rattle.std.proofs.Common.{◌≡◌, ◌∙◌, ℕ, ◌+◌, ◌-◌, ◌≤◌, refl, sym, ap, List, [], ◌∷◌, ◌++◌, map, arith, pos, ◌+ℤ◌, ◌*ℤ◌}
use Rattle.std.specs.Prelude.{ℤ, ◌^◌, fold, max, sum}
use Rattle.std.proofs.lemmas.List.{map-append}
use Rattle.std.proofs.lemmas.List.Sums.{fold-append}
use Rattle.std.proofs.lemmas.Nat.{pow-add}
use Rattle.std.proofs.Math.Nat.{le-max_left, le-max_right}
use Rattle.p3_task.specs.Metrics.{Quantity, in_units, places_of_sum, sum_of, product_of}
use Rattle.p3_metric.specs.Forms.{plus, times}
use Rattle.p3_metric.proofs.IntegerLemmas.{sum_times, times_twice}

abbrev places : Quantity → ℕ
places part = part.places

-- the sum of the parts, counted in units of so many places
abbrev total : ℕ → ℤ → List Quantity → ℤ
total p start parts = fold (λ sum part. sum +ℤ in_units p part) start parts

abbrev AreBelow : ℕ → List Quantity → Type 0
AreBelow p [] = Unit {0}
AreBelow p (part ∷ parts) = (part.places ≤ p) × AreBelow p parts

least_most : (n : ℕ) (parts : List Quantity) → n ≤ fold max n (map places parts)
least_most n [] = omega arith
least_most n (part ∷ parts) = let one = le-max_left n part.places in let rest = least_most (max n part.places) parts in omega (arith, one, rest)

most_bounds : (n : ℕ) (parts : List Quantity) → AreBelow (fold max n (map places parts)) parts
most_bounds n [] = tt
most_bounds n (part ∷ parts) = (let one = le-max_right n part.places in let rest = least_most (max n part.places) parts in omega (arith, one, rest), most_bounds (max n part.places) parts)

-- smaller units
finer : (p q : ℕ) (part : Quantity) → part.places ≤ p → p ≤ q → in_units q part ≡ in_units p part *ℤ pos (10 ^ (q - p))
finer p q part low high =
    ap (λ n. part.units *ℤ pos (10 ^ n)) (omega arith) ∙ ap (λ n. part.units *ℤ pos n) (pow-add 10 (p - part.places) (q - p)) ∙ sym (times_twice part.units (10 ^ (p - part.places)) (10 ^ (q - p)))

finer_total : (p q : ℕ) → p ≤ q → (start : ℤ) (parts : List Quantity) → AreBelow p parts → total q (start *ℤ pos (10 ^ (q - p))) parts ≡ total p start parts *ℤ pos (10 ^ (q - p))
finer_total p q high start [] below = refl
finer_total p q high start (part ∷ parts) below =
    ap (λ s. total q s parts) ((λ i. start *ℤ pos (10 ^ (q - p)) +ℤ finer p q part below.0 high i) ∙ sym (sum_times start (in_units p part) (pos (10 ^ (q - p)))))
    ∙ finer_total p q high (start +ℤ in_units p part) parts below.1

pub sum_more : (parts : List Quantity) (part : Quantity) → sum_of (parts ++ part ∷ []) ≡ plus (sum_of parts) part
sum_more parts part =
    let p = places_of_sum parts in
    let q = max p part.places in
    let whole : places_of_sum (parts ++ part ∷ []) ≡ q = ap (fold max 0) (map-append places parts (part ∷ [])) ∙ fold-append max 0 (map places parts) (part.places ∷ []) in
    λ i. record {
      places = whole i;
      units = (ap (λ n. total n (pos 0) (parts ++ part ∷ [])) whole ∙ fold-append (λ sum part. sum +ℤ in_units q part) (pos 0) parts (part ∷ [])
          ∙ ap (λ s. s +ℤ in_units q part) (ap (λ s. total q s parts) (nothing (10 ^ (q - p))) ∙ finer_total p q (le-max_left p part.places) (pos 0) parts (most_bounds 0 parts))) i;
    }
  where
    nothing : (n : ℕ) → pos 0 ≡ pos 0 *ℤ pos n
    nothing n = ap pos (omega arith)

pub product_more : (parts : List Quantity) (part : Quantity) → product_of (parts ++ part ∷ []) ≡ times (product_of parts) part
product_more parts part = λ i. record {
  places = (ap sum (map-append places parts (part ∷ [])) ∙ fold-append (λ n m. n + m) 0 (map places parts) (part.places ∷ [])) i;
  units = fold-append (λ product part. product *ℤ part.units) (pos 1) parts (part ∷ []) i;
}
