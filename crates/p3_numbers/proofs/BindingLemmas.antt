-- The slots of the variables of one more list are the bindings of these variables.
use Rattle.std.proofs.Common.{◌≡◌, ◌∙◌, ℕ, ◌<◌, true, List, [], ◌∷◌, ◌++◌, map, length, refl, sym, ap, arith, suc, length-append}
use Rattle.std.specs.Prelude.{flat_map}
use Rattle.std.specs.List.{All}
use Rattle.std.proofs.lemmas.List.{map-append, length-map}
use Rattle.std.proofs.lemmas.List.Elements.{All-nil, All-cons, All-append, All-head, All-tail}
use Rattle.std.proofs.lemmas.Bool.{and_parts}
use Rattle.p3_task.specs.Names.{Name}
use Rattle.p3_task.specs.States.{Environment}
use Rattle.p3_task.specs.Bindings.{tuples, extended, bind}
use Rattle.p3_task.specs.declared.term.Typed.{Typed}
use Rattle.p3_task.specs.declared.task.Task.{Task}
use Rattle.p3_numbers.specs.Slots.{Slots, name_at, object_names, range_at, tuples_of, bound}
use Rattle.p3_numbers.specs.Places.{Variables, range_of, ranges_of, words_of, are_known_types, AreObjects, IsNumbering, Fills, paired, environment_of}
use Rattle.p3_numbers.specs.declared.numbers.Numbers.{Numbers}

paired-append : (env : Environment) (first second : Variables) (slots more : List Name) → length first ≡ length slots → paired env (first ++ second) (slots ++ more) ≡ paired (paired env first slots) second more
paired-append env [] second [] more e = refl
paired-append env [] second (object ∷ slots) more e = absurd (cc)
paired-append env (variable ∷ first) second [] more e = absurd (cc)
paired-append env (variable ∷ first) second (object ∷ slots) more e = paired-append (record { variable = variable; object = object } ∷ env) first second slots more (cc)

pub extended-paired : (env : Environment) (variables : List Typed) (tuple : List Name) → extended env variables tuple ≡ paired env (words_of variables) tuple
extended-paired env [] tuple = refl
extended-paired env (variable ∷ variables) [] = refl
extended-paired env (variable ∷ variables) (object ∷ tuple) = extended-paired (record { variable = variable.name.name; object = object } ∷ env) variables tuple

abbrev Every : {A : Type 0} → (A → Type 0) → List A → Type 0
Every P [] = Unit {0}
Every P (x ∷ xs) = P x × Every P xs

every-append : {A : Type 0} (P : A → Type 0) (xs ys : List A) → Every P xs → Every P ys → Every P (xs ++ ys)
every-append P [] ys first second = second
every-append P (x ∷ xs) ys first second = (first.0, every-append P xs ys first.1 second)

map-agree : {A B : Type 0} (f g : A → B) (P : A → Type 0) → ((x : A) → P x → f x ≡ g x) → (xs : List A) → Every P xs → map f xs ≡ map g xs
map-agree f g P agree [] every = refl
map-agree f g P agree (x ∷ xs) every = λ i. agree x every.0 i ∷ map-agree f g P agree xs every.1 i

map_map : {A B C : Type 0} (g : B → C) (f : A → B) (xs : List A) → map g (map f xs) ≡ map (λ x. g (f x)) xs
map_map g f [] = refl
map_map g f (x ∷ xs) = ap (λ rest. g (f x) ∷ rest) (map_map g f xs)

block : {A B : Type 0} (f : A → B) (x : A) (tuples : List (List A)) → map (map f) (map (λ rest. x ∷ rest) tuples) ≡ map (λ rest. f x ∷ rest) (map (map f) tuples)
block f x [] = refl
block f x (tuple ∷ tuples) = ap (λ rest. (f x ∷ map f tuple) ∷ rest) (block f x tuples)

blocks : {A B : Type 0} (f : A → B) (xs : List A) (tuples : List (List A)) → map (map f) (flat_map (λ x. map (λ rest. x ∷ rest) tuples) xs) ≡ flat_map (λ y. map (λ rest. y ∷ rest) (map (map f) tuples)) (map f xs)
blocks f [] tuples = refl
blocks f (x ∷ xs) tuples = map-append (map f) (map (λ rest. x ∷ rest) tuples) (flat_map (λ x. map (λ rest. x ∷ rest) tuples) xs) ∙ (λ i. block f x tuples i ++ blocks f xs tuples i)

module _ (T : Task) (N : Numbers) (ties : IsNumbering T N) where
  pub tuples_mean : (variables : List Typed) → are_known_types N variables ≡ true → map (object_names N) (tuples_of N (ranges_of N variables)) ≡ tuples T variables
  unfolding tuples tuples_of
  tuples_mean [] known = refl
  tuples_mean (variable ∷ variables) known =
      let parts = and_parts _ (are_known_types N variables) known in
      blocks (name_at N.objects) (range_at N (range_of N variable.types)) (tuples_of N (ranges_of N variables))
      ∙ (λ i. flat_map (λ object. map (λ rest. object ∷ rest) (tuples_mean variables parts.1 i)) (ties.named variable.types parts.0 i))

  -- a choice has one object for each range
  abbrev Fits : ℕ → List ℕ → Type 0
  Fits count tuple = (length tuple ≡ count) × AreObjects N tuple

  block_fits : (object count : ℕ) → object < length N.objects → (tuples : List (List ℕ)) → Every (Fits count) tuples → Every (Fits (suc count)) (map (λ rest. object ∷ rest) tuples)
  block_fits object count within [] every = tt
  block_fits object count within (tuple ∷ tuples) every = ((ap suc every.0.0, All-cons (λ number. number < length N.objects) object tuple within every.0.1), block_fits object count within tuples every.1)

  blocks_fit : (range : List ℕ) (count : ℕ) → AreObjects N range → (tuples : List (List ℕ)) → Every (Fits count) tuples → Every (Fits (suc count)) (flat_map (λ object. map (λ rest. object ∷ rest) tuples) range)
  blocks_fit [] count within tuples every = tt
  blocks_fit (object ∷ range) count within tuples every =
      every-append (Fits (suc count)) (map (λ rest. object ∷ rest) tuples) (flat_map (λ object. map (λ rest. object ∷ rest) tuples) range)
      (block_fits object count (All-head (λ number. number < length N.objects) object range within) tuples every)
      (blocks_fit range count (All-tail (λ number. number < length N.objects) object range within) tuples every)

  tuples_fit : (ranges : List ℕ) → Every (Fits (length ranges)) (tuples_of N ranges)
  unfolding tuples_of
  tuples_fit [] = ((refl, All-nil (λ number. number < length N.objects)), tt)
  tuples_fit (range ∷ ranges) = blocks_fit (range_at N range) (length ranges) (ties.within range) (tuples_of N ranges) (tuples_fit ranges)

  every_all : (count : ℕ) (words : Variables) → length words ≡ count → (choices : List (List ℕ)) → Every (Fits count) choices → All (Fills N words) choices
  every_all count words lengths [] every = All-nil (Fills N words)
  every_all count words lengths (tuple ∷ choices) every =
      All-cons (Fills N words) tuple choices (record { lengths = lengths ∙ sym every.0.0; objects = every.0.1 }) (every_all count words lengths choices every.1)

  -- a choice of objects for the parameters fills their slots
  pub tuples_fill : (parameters : List Typed) → All (Fills N (words_of parameters)) (tuples_of N (ranges_of N parameters))
  tuples_fill parameters =
      every_all (length (ranges_of N parameters)) (words_of parameters) (length-map parameters (λ (variable : Typed). variable.name.name) ∙ sym (length-map parameters (λ (variable : Typed). range_of N variable.types)))
      (tuples_of N (ranges_of N parameters)) (tuples_fit (ranges_of N parameters))

  environment_more : (scope : Variables) (slots : Slots) (variables : List Typed) (tuple : List ℕ) → length scope ≡ length slots
      → environment_of N (scope ++ words_of variables) (slots ++ tuple) ≡ extended (environment_of N scope slots) variables (object_names N tuple)
  environment_more scope slots variables tuple lengths =
      ap (paired [] (scope ++ words_of variables)) (map-append (name_at N.objects) slots tuple)
      ∙ paired-append [] scope (words_of variables) (object_names N slots) (object_names N tuple) (lengths ∙ sym (length-map slots (name_at N.objects)))
      ∙ sym (extended-paired (environment_of N scope slots) variables (object_names N tuple))

  fills_more : (scope : Variables) (slots : Slots) (variables : List Typed) (tuple : List ℕ) → Fills N scope slots → Fits (length (ranges_of N variables)) tuple → Fills N (scope ++ words_of variables) (slots ++ tuple)
  fills_more scope slots variables tuple fills fits = record {
    lengths = omega (arith, length-append scope (words_of variables), length-append slots tuple, length-map variables (λ (variable : Typed). variable.name.name), length-map variables (λ (variable : Typed). range_of N variable.types), fills.lengths, fits.0);
    objects = All-append (λ number. number < length N.objects) slots tuple fills.objects fits.1;
  }

  -- what is the same at all slots and their environments is so at all choices of the variables
  pub each_binding : {A : Type 0} (of_slots : Slots → A) (of_names : Environment → A) (scope : Variables) (slots : Slots) (variables : List Typed) → Fills N scope slots → are_known_types N variables ≡ true
      → ((inner : Slots) → Fills N (scope ++ words_of variables) inner → of_slots inner ≡ of_names (environment_of N (scope ++ words_of variables) inner))
      → map of_slots (bound N slots (ranges_of N variables)) ≡ map of_names (bind T (environment_of N scope slots) variables)
  unfolding bind
  each_binding of_slots of_names scope slots variables fills known agree =
      let env = environment_of N scope slots in
      let choices = tuples_of N (ranges_of N variables) in
      map_map of_slots (λ tuple. slots ++ tuple) choices
      ∙ map-agree (λ tuple. of_slots (slots ++ tuple)) (λ tuple. of_names (extended env variables (object_names N tuple))) (Fits (length (ranges_of N variables)))
      (λ tuple fits. agree (slots ++ tuple) (fills_more scope slots variables tuple fills fits) ∙ ap of_names (environment_more scope slots variables tuple fills.lengths)) choices (tuples_fit (ranges_of N variables))
      ∙ sym (map_map (λ tuple. of_names (extended env variables tuple)) (object_names N) choices)
      ∙ ap (map (λ tuple. of_names (extended env variables tuple))) (tuples_mean variables known)
      ∙ sym (map_map of_names (extended env variables) (tuples T variables))
