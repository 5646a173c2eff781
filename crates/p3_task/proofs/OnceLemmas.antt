-- Lists without an item at two places, and where an item of a made list comes from.
use Rattle.std.proofs.Common.{◌≡◌, ◌∙◌, ◌⊎◌, inl, inr, ⊎_elim, ℕ, zero, suc, refl, sym, ap, Bool, true, false, not, List, [], ◌∷◌, ◌++◌, arith, Option, Some, None, cond, map}
use Rattle.std.specs.Prelude.{slice_get, find, filter, flat_map}
use Rattle.std.proofs.lemmas.Bool.{true≢false}
use Rattle.std.proofs.lemmas.Slice.Eq.{bytes_eq-Decides}
use Rattle.p3_task.specs.Names.{Name, same_name}
use Rattle.p3_task.specs.Types.{once_each}

pub nil_left : {A : Type 0} (xs ys : List A) → xs ++ ys ≡ [] → xs ≡ []
nil_left [] ys e = refl
nil_left (x ∷ xs) ys e = absurd (cc)

pub nil_right : {A : Type 0} (xs ys : List A) → xs ++ ys ≡ [] → ys ≡ []
nil_right [] ys e = e
nil_right (x ∷ xs) ys e = absurd (cc)

pub Some-injective : {A : Type 0} (x y : A) → Some x ≡ Some y → x ≡ y
Some-injective x y e = ap (get x) e
  where
    get : {A : Type 0} → A → Option A → A
    get d None = d
    get d (Some z) = z

pub find_found : {A : Type 0} (p : A → Bool) (xs : List A) (x : A) → find p xs ≡ Some x → (k : ℕ) × (slice_get xs k ≡ Some x) × (p x ≡ true)
find_found p [] x e = absurd (cc)
find_found p (y ∷ xs) x e = by (p y) refl e (find_found p xs x)
  where
    by : (t : Bool) → p y ≡ t → cond t (Some y) (find p xs) ≡ Some x → (find p xs ≡ Some x → (k : ℕ) × (slice_get xs k ≡ Some x) × (p x ≡ true)) → (k : ℕ) × (slice_get (y ∷ xs) k ≡ Some x) × (p x ≡ true)
    by true holds e rest = (0, e, ap p (sym (Some-injective y x e)) ∙ holds)
    by false fails e rest = let (k, at, holds) = rest e in (suc k, at, holds)

-- no two places have one item
abbrev pub AreOnce : {A : Type 0} → List A → Type 0
AreOnce {A} xs = (i j : ℕ) (x : A) → slice_get xs i ≡ Some x → slice_get xs j ≡ Some x → i ≡ j

pub filter_found : {A : Type 0} (p : A → Bool) (xs : List A) (i : ℕ) (x : A) → slice_get (filter p xs) i ≡ Some x → (j : ℕ) × (slice_get xs j ≡ Some x) × (p x ≡ true)
filter_found p [] i x e = absurd (cc)
filter_found {A = A} p (y ∷ xs) i x e = by (p y) refl i e (filter_found p xs)
  where
    by : (t : Bool) → p y ≡ t → (i : ℕ) → slice_get (cond t (y ∷ filter p xs) (filter p xs)) i ≡ Some x → ((i : ℕ) (x : A) → slice_get (filter p xs) i ≡ Some x → (j : ℕ) × (slice_get xs j ≡ Some x) × (p x ≡ true))
        → (j : ℕ) × (slice_get (y ∷ xs) j ≡ Some x) × (p x ≡ true)
    by true holds zero e rest = (0, e, ap p (sym (Some-injective y x e)) ∙ holds)
    by true holds (suc i) e rest = let (j, at, passes) = rest i x e in (suc j, at, passes)
    by false fails i e rest = let (j, at, passes) = rest i x e in (suc j, at, passes)

pub once_behind : {A : Type 0} (y : A) (xs : List A) → AreOnce xs → ((i : ℕ) (x : A) → slice_get xs i ≡ Some x → (y ≡ x) → ⊥) → AreOnce (y ∷ xs)
once_behind y xs once apart zero zero x e f = refl
once_behind y xs once apart zero (suc j) x e f = absurd (apart j x f (Some-injective y x e))
once_behind y xs once apart (suc i) zero x e f = absurd (apart i x e (Some-injective y x f))
once_behind y xs once apart (suc i) (suc j) x e f = ap suc (once i j x e f)

pub once_ahead : {A : Type 0} (y : A) (xs : List A) → AreOnce (y ∷ xs) → AreOnce xs
once_ahead y xs once i j x e f = let same = once (suc i) (suc j) x e f in omega (arith, same)

pub filter_once : {A : Type 0} (p : A → Bool) (xs : List A) → AreOnce xs → AreOnce (filter p xs)
filter_once p [] once = once
filter_once p (y ∷ xs) once = by (p y) (filter_once p xs (once_ahead y xs once))
  where
    by : (t : Bool) → AreOnce (filter p xs) → AreOnce (cond t (y ∷ filter p xs) (filter p xs))
    by true rest = once_behind y (filter p xs) rest (λ i x e same.
        let (j, at, passes) = filter_found p xs i x e in
        let wrong = once 0 (suc j) x (ap Some same) at in omega (arith, wrong))
    by false rest = rest

pub each_once : (names : List Name) → AreOnce (once_each names)
each_once [] = λ i j x e f. absurd (cc)
each_once (name ∷ names) = once_behind name _ (filter_once (λ other. not (same_name other name)) (once_each names) (each_once names)) (λ i x e same.
    let (j, at, passes) = filter_found (λ other. not (same_name other name)) (once_each names) i x e in
    true≢false (sym passes ∙ ap not ((bytes_eq-Decides x name).1 (sym same))))

-- ---- where an item comes from

abbrev pub Has : {A : Type 0} → List A → A → Type 0
Has xs x = (k : ℕ) × (slice_get xs k ≡ Some x)

pub in_append : {A : Type 0} (xs ys : List A) (i : ℕ) (y : A) → slice_get (xs ++ ys) i ≡ Some y → Has xs y ⊎ Has ys y
in_append [] ys i y e = inr (i, e)
in_append (x ∷ xs) ys zero y e = inl (0, e)
in_append (x ∷ xs) ys (suc i) y e = ⊎_elim (λ found. inl (suc found.0, found.1)) (λ found. inr found) (in_append xs ys i y e)

pub in_left : {A : Type 0} (xs ys : List A) (i : ℕ) (y : A) → slice_get xs i ≡ Some y → Has (xs ++ ys) y
in_left [] ys i y e = absurd (cc)
in_left (x ∷ xs) ys zero y e = (0, e)
in_left (x ∷ xs) ys (suc i) y e = let found = in_left xs ys i y e in (suc found.0, found.1)

pub in_right : {A : Type 0} (xs ys : List A) (y : A) → Has ys y → Has (xs ++ ys) y
in_right [] ys y found = found
in_right (x ∷ xs) ys y found = let further = in_right xs ys y found in (suc further.0, further.1)

pub in_map : {A B : Type 0} (f : A → B) (xs : List A) (i : ℕ) (y : B) → slice_get (map f xs) i ≡ Some y → (x : A) × (slice_get xs i ≡ Some x) × (f x ≡ y)
in_map f [] i y e = absurd (cc)
in_map f (x ∷ xs) zero y e = (x, refl, Some-injective (f x) y e)
in_map f (x ∷ xs) (suc i) y e = in_map f xs i y e

pub map_at : {A B : Type 0} (f : A → B) (xs : List A) (i : ℕ) (x : A) → slice_get xs i ≡ Some x → slice_get (map f xs) i ≡ Some (f x)
map_at f [] i x e = absurd (cc)
map_at f (y ∷ xs) zero x e = ap (λ z. Some (f z)) (Some-injective y x e)
map_at f (y ∷ xs) (suc i) x e = map_at f xs i x e

pub in_flat : {A B : Type 0} (f : A → List B) (xs : List A) (i : ℕ) (y : B) → slice_get (flat_map f xs) i ≡ Some y → (k : ℕ) × (x : A) × (slice_get xs k ≡ Some x) × Has (f x) y
in_flat f [] i y e = absurd (cc)
in_flat {A = A} {B = B} f (x ∷ xs) i y e = by (in_append (f x) (flat_map f xs) i y e) (in_flat f xs)
  where
    by : Has (f x) y ⊎ Has (flat_map f xs) y → ((i : ℕ) (z : B) → slice_get (flat_map f xs) i ≡ Some z → (k : ℕ) × (v : A) × (slice_get xs k ≡ Some v) × Has (f v) z)
        → (k : ℕ) × (v : A) × (slice_get (x ∷ xs) k ≡ Some v) × Has (f v) y
    by (inl found) rest = (0, x, refl, found)
    by (inr found) rest = let (k, v, at, own) = rest found.0 y found.1 in (suc k, v, at, own)

pub flat_has : {A B : Type 0} (f : A → List B) (xs : List A) (k : ℕ) (x : A) (y : B) → slice_get xs k ≡ Some x → Has (f x) y → Has (flat_map f xs) y
flat_has f [] k x y e found = absurd (cc)
flat_has f (z ∷ xs) zero x y e found = in_left (f z) (flat_map f xs) found.0 y (ap (λ v. slice_get (f v) found.0) (Some-injective z x e) ∙ found.1)
flat_has f (z ∷ xs) (suc k) x y e found = in_right (f z) (flat_map f xs) y (flat_has f xs k x y e found)

pub once_append : {A : Type 0} (xs ys : List A) → AreOnce xs → AreOnce ys → ((x : A) → Has xs x → Has ys x → ⊥) → AreOnce (xs ++ ys)
once_append [] ys first second apart = second
once_append (x ∷ xs) ys first second apart =
    once_behind x (xs ++ ys) (once_append xs ys (once_ahead x xs first) second (λ y a b. apart y (suc a.0, a.1) b))
    (λ i y e same. ⊎_elim (λ found. let wrong = first 0 (suc found.0) y (ap Some same) found.1 in omega (arith, wrong)) (λ found. apart y (0, ap Some same) found) (in_append xs ys i y e))

pub once_map : {A B : Type 0} (f : A → B) → ((x y : A) → f x ≡ f y → x ≡ y) → (xs : List A) → AreOnce xs → AreOnce (map f xs)
once_map f one xs once i j y e g =
    let (a, at, is) = in_map f xs i y e in
    let (b, there, same) = in_map f xs j y g in
    once i j a at (there ∙ ap Some (one b a (same ∙ sym is)))

abbrev pub AreApart : {A B : Type 0} → (A → List B) → List A → Type 0
AreApart {A} {B} f xs = (i j : ℕ) (a b : A) (y : B) → slice_get xs i ≡ Some a → slice_get xs j ≡ Some b → Has (f a) y → Has (f b) y → i ≡ j

pub once_flat : {A B : Type 0} (f : A → List B) (xs : List A) → AreApart f xs → ((x : A) → AreOnce (f x)) → AreOnce (flat_map f xs)
once_flat f [] apart each = λ i j x e g. absurd (cc)
once_flat f (x ∷ xs) apart each =
    once_append (f x) (flat_map f xs) (each x) (once_flat f xs (λ i j a b y e g c d. let same = apart (suc i) (suc j) a b y e g c d in omega (arith, same)) each)
    (λ y a b. let (k, v, at, own) = in_flat f xs b.0 y b.1 in let wrong = apart 0 (suc k) x v y refl at a own in omega (arith, wrong))

pub find_first : {A : Type 0} (p : A → Bool) (xs : List A) (k : ℕ) (x : A) → slice_get xs k ≡ Some x → p x ≡ true → ((j : ℕ) (y : A) → slice_get xs j ≡ Some y → p y ≡ true → j ≡ k) → find p xs ≡ Some x
find_first p [] k x e holds one = absurd (cc)
find_first p (y ∷ xs) zero x e holds one = ap (λ t. cond t (Some y) (find p xs)) (ap p (Some-injective y x e) ∙ holds) ∙ e
find_first p (y ∷ xs) (suc k) x e holds one = by (p y) refl (find_first p xs k x e holds (λ j z at passes. let same = one (suc j) z at passes in omega (arith, same)))
  where
    by : (t : Bool) → p y ≡ t → find p xs ≡ Some x → cond t (Some y) (find p xs) ≡ Some x
    by true passes rest = let wrong = one 0 y refl passes in absurd (omega (arith, wrong))
    by false fails rest = rest
