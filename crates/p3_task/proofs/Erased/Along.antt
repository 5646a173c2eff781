-- Functions over a list of images, where each image gives what its item gives.
use Rattle.std.proofs.Common.{◌≡◌, ◌∙◌, ◌+◌, refl, sym, ap, Bool, true, false, ◌&&◌, ◌||◌, List, [], ◌∷◌, ◌++◌, map, Option, Some, None, cond}
use Rattle.std.specs.Prelude.{flat_map, filter_map, find, fold, option_map}
use Rattle.std.specs.List.{list_any, list_all, prefix_len, cons_option}
use Rattle.std.proofs.lemmas.List.{map-append}

module _ {A B : Type 0} (f : A → B) where
  pub any_along : (p : B → Bool) (q : A → Bool) → ((x : A) → p (f x) ≡ q x) → (xs : List A) → list_any p (map f xs) ≡ list_any q xs
  any_along p q same [] = refl
  any_along p q same (x ∷ xs) = λ i. same x i || any_along p q same xs i

  pub all_along : (p : B → Bool) (q : A → Bool) → ((x : A) → p (f x) ≡ q x) → (xs : List A) → list_all p (map f xs) ≡ list_all q xs
  all_along p q same [] = refl
  all_along p q same (x ∷ xs) = λ i. same x i && all_along p q same xs i

  pub prefix_along : (p : B → Bool) (q : A → Bool) → ((x : A) → p (f x) ≡ q x) → (xs : List A) → prefix_len p (map f xs) ≡ prefix_len q xs
  prefix_along p q same [] = refl
  prefix_along p q same (x ∷ xs) = λ i. cond (same x i) (1 + prefix_along p q same xs i) 0

  pub find_along : (p : B → Bool) (q : A → Bool) → ((x : A) → p (f x) ≡ q x) → (xs : List A) → find p (map f xs) ≡ option_map f (find q xs)
  find_along p q same [] = refl
  find_along p q same (x ∷ xs) = (λ i. cond (same x i) (Some (f x)) (find_along p q same xs i)) ∙ here (q x) (find q xs)
    where
      here : (test : Bool) (rest : Option A) → cond test (Some (f x)) (option_map f rest) ≡ option_map f (cond test (Some x) rest)
      here true rest = refl
      here false rest = refl

  module _ {C : Type 0} where
    pub map_along : (p : B → C) (q : A → C) → ((x : A) → p (f x) ≡ q x) → (xs : List A) → map p (map f xs) ≡ map q xs
    map_along p q same [] = refl
    map_along p q same (x ∷ xs) = λ i. same x i ∷ map_along p q same xs i

    pub flat_map_along : (p : B → List C) (q : A → List C) → ((x : A) → p (f x) ≡ q x) → (xs : List A) → flat_map p (map f xs) ≡ flat_map q xs
    flat_map_along p q same [] = refl
    flat_map_along p q same (x ∷ xs) = λ i. same x i ++ flat_map_along p q same xs i

    pub filter_map_along : (p : B → Option C) (q : A → Option C) → ((x : A) → p (f x) ≡ q x) → (xs : List A) → filter_map p (map f xs) ≡ filter_map q xs
    filter_map_along p q same [] = refl
    filter_map_along p q same (x ∷ xs) = λ i. cons_option (same x i) (filter_map_along p q same xs i)

    pub fold_along : (p : C → B → C) (q : C → A → C) → ((c : C) (x : A) → p c (f x) ≡ q c x) → (c : C) (xs : List A) → fold p c (map f xs) ≡ fold q c xs
    fold_along p q same c [] = refl
    fold_along p q same c (x ∷ xs) = ap (λ d. fold p d (map f xs)) (same c x) ∙ fold_along p q same (q c x) xs

    -- where each image gives images of what its item gives
    module _ {D : Type 0} (g : C → D) where
      pub flat_map_into : (p : B → List D) (q : A → List C) → ((x : A) → p (f x) ≡ map g (q x)) → (xs : List A) → flat_map p (map f xs) ≡ map g (flat_map q xs)
      flat_map_into p q same [] = refl
      flat_map_into p q same (x ∷ xs) = (λ i. same x i ++ flat_map_into p q same xs i) ∙ sym (map-append g (q x) (flat_map q xs))

      pub filter_map_into : (p : B → Option D) (q : A → Option C) → ((x : A) → p (f x) ≡ option_map g (q x)) → (xs : List A) → filter_map p (map f xs) ≡ map g (filter_map q xs)
      filter_map_into p q same [] = refl
      filter_map_into p q same (x ∷ xs) = (λ i. cons_option (same x i) (filter_map_into p q same xs i)) ∙ one (q x) (filter_map q xs)
        where
          one : (found : Option C) (rest : List C) → cons_option (option_map g found) (map g rest) ≡ map g (cons_option found rest)
          one None rest = refl
          one (Some item) rest = refl

-- of one list
pub flat_map_images : {A C D : Type 0} (g : C → D) (p : A → List D) (q : A → List C) → ((x : A) → p x ≡ map g (q x)) → (xs : List A) → flat_map p xs ≡ map g (flat_map q xs)
flat_map_images g p q same [] = refl
flat_map_images g p q same (x ∷ xs) = (λ i. same x i ++ flat_map_images g p q same xs i) ∙ sym (map-append g (q x) (flat_map q xs))
