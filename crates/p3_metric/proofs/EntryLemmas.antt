-- How the numbers by name change with the entries, and that their sums fit.
use Rattle.std.proofs.lemmas.Bool.{true≢false}
use Rattle.std.proofs.Common.{rules, IsSome, ◌↔◌, length, ◌⊎◌, inl, inr, ◌&&◌, ◌≡◌, ◌∙◌, refl, sym, ap, subst, ℕ, ◌+◌, ◌^◌, ◌<◌, ◌≤◌, Bool, true, false, cond, List, [], ◌∷◌, ◌++◌, arith, Option, Some, None, pos, ◌+ℤ◌, ◌*ℤ◌}
use Rattle.std.specs.Prelude.{ℤ, negsuc, nat_lt, bytes_eq, unwrap_or}
use Rattle.std.specs.Int.RustNames.{unsigned_abs}
use Rattle.std.proofs.lemmas.Int.{ints, to_z-of_z, fits_signed_from_abs}
use Rattle.std.specs.Map.{lookup}
use mir.Syntax.{w128}
use mir.Val.{SFits, of_z, to_z}
use denote.Ref.{Bor}
use Rattle.indexmap.specs.IndexMap.{IndexMap, get, Updates}
use Rattle.p3_task.specs.Names.{Name, same_name}
use Rattle.p3_task.specs.Refusals.Metric.{is_within}
use Rattle.p3_task.specs.Sides.{weight_bound}
use Rattle.std.proofs.lemmas.Slice.Eq.{bytes_eq-Decides}
use Rattle.std.proofs.Math.IntN.{one, *ℤ-zero, *ℤ-one, *ℤ_comm, +ℤ_comm}
use Rattle.p3_metric.specs.declared.entries.Judged.{Judged}
use Rattle.p3_metric.specs.Entries.{IsJudged, AreBelow, AreWithin, key, number_at, changed, poured, products}

module _ {S : Type 0} (old new : IndexMap (Bor Name) ℤ S) where
  chosen : (b : Bool) (v : ℤ) (o : Option ℤ) → unwrap_or (cond b (Some v) o) (pos 0) ≡ cond b v (unwrap_or o (pos 0))
  chosen true v o = refl
  chosen false v o = refl

  emptied : (b : Bool) (o : Option ℤ) → unwrap_or (cond b None o) (pos 0) ≡ cond b (pos 0) (unwrap_or o (pos 0))
  emptied true o = refl
  emptied false o = refl

  pub number_at_updated : (name : Bor Name) (v : ℤ) → Updates (λ x y. bytes_eq x.now y.now) old new name (Some v) → (other : Name) → number_at new other ≡ changed (number_at old) name.now v other
  unfolding number_at
  number_at_updated name v u other = ap (λ o. unwrap_or o (pos 0)) (u.0 (key other)) ∙ chosen (bytes_eq name.now other) v (get (λ x y. bytes_eq x.now y.now) old (key other))

  pub number_at_removed : (name : Bor Name) → Updates (λ x y. bytes_eq x.now y.now) old new name None → (other : Name) → number_at new other ≡ changed (number_at old) name.now (pos 0) other
  unfolding number_at
  number_at_removed name u other = ap (λ o. unwrap_or o (pos 0)) (u.0 (key other)) ∙ emptied (bytes_eq name.now other) (get (λ x y. bytes_eq x.now y.now) old (key other))

pub within_is : (bound : ℕ) (z : ℤ) → is_within bound z ≡ nat_lt (unsigned_abs z) bound
within_is bound (pos n) = grind (arith, ints)
within_is bound (negsuc n) = grind (arith, ints)

pub abs_sum : (a b : ℤ) → unsigned_abs (a +ℤ b) < unsigned_abs a + unsigned_abs b + 1
abs_sum a b = grind (arith, ints)

-- the sum that the code puts is the sum, where it fits
pub sum_fits : (found number sum : ℤ) → found ≡ sum → SFits w128 found → SFits w128 number → unsigned_abs (sum +ℤ number) < 2 ^ 127
    → to_z w128 (of_z w128 (to_z w128 (of_z w128 found) +ℤ to_z w128 (of_z w128 number))) ≡ sum +ℤ number
sum_fits found number sum e f g fits =
    (λ i. to_z w128 (of_z w128 (to_z-of_z w128 found f i +ℤ to_z-of_z w128 number g i))) ∙ (λ i. to_z w128 (of_z w128 (e i +ℤ number))) ∙ to_z-of_z w128 (sum +ℤ number) (fits_signed_from_abs w128 (sum +ℤ number) fits)

pub poured_below : (e x : ℤ) → unsigned_abs e < 2 ^ 125 → unsigned_abs x < 2 ^ 126 → unsigned_abs (e +ℤ x) < 2 ^ 127
poured_below e x a b = let s = abs_sum e x in omega (arith, s, a, b)

-- ---- one entry of a part is poured

module _ (E P : Name → ℤ) (f v : ℤ) (k : Name) (own : v ≡ P k) where
  abbrev next : Name → ℤ
  next = changed E k (E k +ℤ f *ℤ v)

  abbrev rest : Name → ℤ
  rest = changed P k (pos 0)

  plus_nothing : (x : ℤ) → x +ℤ f *ℤ pos 0 ≡ x
  plus_nothing x = let z = *ℤ-zero f in omega (arith, ints, z)

  pub pour_step : (n : Name) → poured next f rest n ≡ poured E f P n
  pour_step n = by (same_name k n) refl
    where
      by : (t : Bool) → same_name k n ≡ t → cond t (E k +ℤ f *ℤ v) (E n) +ℤ f *ℤ cond t (pos 0) (P n) ≡ E n +ℤ f *ℤ P n
      by true e = let is = (bytes_eq-Decides k n).0 e in plus_nothing (E k +ℤ f *ℤ v) ∙ (λ i. E (is i) +ℤ f *ℤ own i) ∙ ap (λ m. E n +ℤ f *ℤ P m) is
      by false e = refl

  pub rest_below : (bound : ℕ) → 0 < bound → AreBelow bound (products f P) → AreBelow bound (products f rest)
  rest_below bound some all n = by (same_name k n)
    where
      by : (t : Bool) → unsigned_abs (f *ℤ cond t (pos 0) (P n)) < bound
      by true = let P : ℤ → Type 0 = λ z. unsigned_abs z < bound in subst P (sym (*ℤ-zero f)) some
      by false = all n

  pub next_within : is_within weight_bound (E k +ℤ f *ℤ v) ≡ true → AreWithin E → AreWithin next
  next_within one all n = by (same_name k n)
    where
      by : (t : Bool) → is_within weight_bound (cond t (E k +ℤ f *ℤ v) (E n)) ≡ true
      by true = one
      by false = all n

-- the product that the code makes is the product
pub product_fits : (f n : ℤ) → SFits w128 f → SFits w128 n → unsigned_abs (f *ℤ n) < 2 ^ 127
    → to_z w128 (of_z w128 (to_z w128 (of_z w128 f) *ℤ to_z w128 (of_z w128 n))) ≡ f *ℤ n
product_fits f n ff fn fits = (λ i. to_z w128 (of_z w128 (to_z-of_z w128 f ff i *ℤ to_z-of_z w128 n fn i))) ∙ to_z-of_z w128 (f *ℤ n) (fits_signed_from_abs w128 (f *ℤ n) fits)

-- ---- the last entry

module _ {K V : Type 0} (t : K → Bool) (k : K) (v : V) (is : t k ≡ true) where
  lookup_last : (es : List (K × V)) → lookup t es ≡ None → lookup t (es ++ (k, v) ∷ []) ≡ Some v
  lookup_last [] e = ap (λ b. cond b (Some v) None) is
  lookup_last (x ∷ es) e = by (t x.0) e (lookup_last es)
    where
      by : (b : Bool) → cond b (Some x.1) (lookup t es) ≡ None → (lookup t es ≡ None → lookup t (es ++ (k, v) ∷ []) ≡ Some v) → cond b (Some x.1) (lookup t (es ++ (k, v) ∷ [])) ≡ Some v
      by true e rest = absurd (cc)
      by false e rest = rest e

pub number_at_last : {S : Type 0} (old new : IndexMap (Bor Name) ℤ S) (name : Bor Name) (v : ℤ) → old.entries ≡ new.entries ++ (name, v) ∷ []
    → Updates (λ x y. bytes_eq x.now y.now) old new name None → v ≡ number_at old name.now
unfolding number_at
number_at_last old new name v e u =
    let test = λ (x : Bor Name). bytes_eq name.now x.now in
    let own : bytes_eq name.now name.now ≡ true = (bytes_eq-Decides name.now name.now).1 refl in
    let gone : lookup test new.entries ≡ None = u.0 (key name.now) ∙ ap (λ b. cond b None (lookup test old.entries)) own in
    sym (ap (λ es. unwrap_or (lookup test es) (pos 0)) e ∙ ap (λ o. unwrap_or o (pos 0)) (lookup_last test name v own new.entries gone))

pub number_at_none : {S : Type 0} (m : IndexMap (Bor Name) ℤ S) → m.entries ≡ [] → (name : Name) → number_at m name ≡ pos 0
unfolding number_at
number_at_none m e name = ap (λ es. unwrap_or (lookup (λ (x : Bor Name). bytes_eq name x.now) es) (pos 0)) e

-- where nothing is left of a part
pub poured_whole : (e f p : ℤ) → p ≡ pos 0 → e ≡ e +ℤ f *ℤ p
poured_whole e f p none = let z = ap (λ x. f *ℤ x) none ∙ *ℤ-zero f in omega (arith, ints, z)

pub both_true : (a b : Bool) → (a && b) ≡ true → (a ≡ true) × (b ≡ true)
both_true true b e = (refl, e)
both_true false b e = absurd (true≢false (sym e))

pub one_false : (a b : Bool) → (a && b) ≡ false → (a ≡ false) ⊎ (b ≡ false)
one_false true b e = inr e
one_false false b e = inl refl

pub nothing_in : (B : Type 0) {A : Type 0} (xs : List A) → (let o : Option B = None in IsSome o ↔ (0 < length xs)) → xs ≡ []
nothing_in B [] found = refl
nothing_in B (x ∷ xs) found = let some = found.1 (omega arith) in search (rules, some)

-- ---- numbers that are scaled and mixed

pub nothing_plus : (e x : ℤ) → e ≡ pos 0 → e +ℤ x ≡ x
nothing_plus e x none = omega (arith, ints, none)

pub mixed_once : (e f s o given : ℤ) → f ≡ pos 1 → given ≡ o → e +ℤ given *ℤ s ≡ e *ℤ f +ℤ s *ℤ o
unfolding one
mixed_once e f s o given one same = λ i. (sym (*ℤ-one e) ∙ ap (λ x. e *ℤ x) (sym one)) i +ℤ (ap (λ x. x *ℤ s) same ∙ *ℤ_comm o s) i

pub one_times : (x : ℤ) → pos 1 *ℤ x ≡ x
unfolding one
one_times x = *ℤ_comm (pos 1) x ∙ *ℤ-one x

pub mixed_twice : (e f s o a x F O : ℤ) → F ≡ f → O ≡ o → a ≡ F *ℤ e → x ≡ a +ℤ O *ℤ s → pos 1 *ℤ x ≡ e *ℤ f +ℤ s *ℤ o
mixed_twice e f s o a x F O same alike scaled sum =
    one_times x ∙ sum ∙ (λ i. (scaled ∙ ap (λ y. y *ℤ e) same ∙ *ℤ_comm f e) i +ℤ (ap (λ y. y *ℤ s) alike ∙ *ℤ_comm o s) i)

pub mixed_below : (e f s o a x F O : ℤ) → F ≡ f → O ≡ o → a ≡ F *ℤ e → x ≡ a +ℤ O *ℤ s → unsigned_abs (f *ℤ e) < 2 ^ 124 → unsigned_abs (o *ℤ s) < 2 ^ 124 → unsigned_abs (pos 1 *ℤ x) < 2 ^ 126
mixed_below e f s o a x F O same alike scaled sum first second =
    let both = abs_sum (f *ℤ e) (o *ℤ s) in
    let is : pos 1 *ℤ x ≡ f *ℤ e +ℤ o *ℤ s = one_times x ∙ sum ∙ (λ i. (scaled ∙ ap (λ y. y *ℤ e) same) i +ℤ alike i *ℤ s) in
    let P : ℤ → Type 0 = λ z. unsigned_abs z < 2 ^ 126 in
    subst P (sym is) (omega (arith, both, first, second))

pub times_below : (z f F : ℤ) (bound more : ℕ) → F ≡ f → bound ≤ more → unsigned_abs (f *ℤ z) < bound → unsigned_abs (F *ℤ z) < more
times_below z f F bound more same le h = let P : ℤ → Type 0 = λ y. unsigned_abs (y *ℤ z) < more in subst P (sym same) (omega (arith, le, h))

pub judged_where : (F G : Name → ℤ) (judged : Judged) → ((name : Name) → F name ≡ G name) → IsJudged F judged → IsJudged G judged
judged_where F G judged same is = record { numbers = λ name. is.numbers name ∙ same name; within = is.within; large = is.large }

pub mixed_swapped : (e f s o F O : ℤ) → F ≡ f → O ≡ o → s *ℤ O +ℤ e *ℤ F ≡ e *ℤ f +ℤ s *ℤ o
mixed_swapped e f s o F O same alike = (λ i. s *ℤ alike i +ℤ e *ℤ same i) ∙ +ℤ_comm (s *ℤ o) (e *ℤ f)
