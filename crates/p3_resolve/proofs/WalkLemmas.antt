-- The word of least offset by a walk.
use Rattle.std.proofs.Common.{◌≡◌, ◌∙◌, ℕ, ◌+◌, ◌<◌, length, take, get_or, nat_lt, Bool, true, false, if◌then◌else◌, List, [], ◌∷◌, ◌++◌, Option, Some, None, refl, sym, ap}
use Rattle.std.specs.Prelude.{fold, flat_map, option_map}
use Rattle.std.proofs.lemmas.List.{take_more, append-nil}
use Rattle.std.proofs.lemmas.List.Concat.{flat_map-append}
use Rattle.p3_task.specs.FirstOffence.{least_word}
use Rattle.p3_task.specs.Uses.{Use}
use Rattle.p3_task.specs.Offences.{repeated_after, repeated, unless}
use Rattle.p3_task.specs.declared.term.Ref.{Ref}
use Rattle.p3_task.specs.declared.task.Task.{Task}
use Rattle.p3_task.specs.Names.{Name, same_name, has_name}
use Rattle.std.specs.Prelude.{not, map, ◌||◌}
use Rattle.std.proofs.lemmas.List.{map-append}
use Rattle.p3_numbers.proofs.ScopeLemmas.{append-assoc}
use Rattle.p3_resolve.specs.declared.spot.Spot.{Spot}
use Rattle.p3_numbers.specs.Names.{Adds}
use Rattle.p3_resolve.specs.declared.spot.FirstOffences.{FirstOffences}
use Rattle.p3_resolve.specs.Spots.{spot_of, step, use_step}

pub fold-append : {A B : Type 0} (f : B → A → B) (b : B) (xs ys : List A) → fold f b (xs ++ ys) ≡ fold f (fold f b xs) ys
fold-append f b [] ys = refl
fold-append f b (x ∷ xs) ys = fold-append f (f b x) xs ys

abbrev keep : Ref → Ref → Ref
keep least other = if nat_lt other.at least.at then other else least

least-from : (least : Ref) (words : List Ref) → fold step (Some (spot_of least)) words ≡ Some (spot_of (fold keep least words))
least-from least [] = refl
least-from least (word ∷ words) = by (nat_lt word.at least.at) (least-from word words) (least-from least words)
  where
    by : (before : Bool) → fold step (Some (spot_of word)) words ≡ Some (spot_of (fold keep word words)) → fold step (Some (spot_of least)) words ≡ Some (spot_of (fold keep least words))
        → fold step (Some (if before then spot_of word else spot_of least)) words ≡ Some (spot_of (fold keep (if before then word else least) words))
    by true new old = new
    by false new old = old

-- the walk ends with the word of least offset
pub least-walk : (words : List Ref) → fold step None words ≡ option_map spot_of (least_word words)
least-walk [] = refl
least-walk (word ∷ words) = least-from word words

-- and so over uses, for each kind of offence
abbrev pub Notes : Task → (FirstOffences → Option Spot) → (Use → List Ref) → Type 0
Notes T kept words = (found : FirstOffences) (item : Use) → kept (use_step T found item) ≡ fold step (kept found) (words item)

pub noted-uses : (T : Task) (kept : FirstOffences → Option Spot) (words : Use → List Ref) → Notes T kept words
    → (found : FirstOffences) (uses : List Use) → kept (fold (use_step T) found uses) ≡ fold step (kept found) (flat_map words uses)
noted-uses T kept words notes found [] = refl
noted-uses T kept words notes found (item ∷ items) =
    noted-uses T kept words notes (use_step T found item) items ∙ (λ i. fold step (notes found item i) (flat_map words items))
    ∙ sym (fold-append step (kept found) (words item) (flat_map words items))

module _ {A B C : Type 0} (f : C → B → C) (g : A → List B) where
  -- one item more
  pub walk-more : (c now next : C) (xs : List A) (i : ℕ) (x : A) → i < length xs → x ≡ get_or xs i x → now ≡ fold f c (flat_map g (take i xs)) → next ≡ fold f now (g x) → next ≡ fold f c (flat_map g (take (i + 1) xs))
  walk-more c now next xs i x within read so_far is =
      let longer : take (i + 1) xs ≡ take i xs ++ x ∷ [] = take_more xs i x within ∙ ap (λ item. take i xs ++ item ∷ []) (sym read) in
      is ∙ ap (λ from. fold f from (g x)) so_far ∙ sym (fold-append f c (flat_map g (take i xs)) (g x))
      ∙ ap (fold f c) (ap (λ rest. flat_map g (take i xs) ++ rest) (sym (append-nil (g x))) ∙ sym (flat_map-append g (take i xs) (x ∷ [])) ∙ ap (flat_map g) (sym longer))

-- ---- words that stand twice

or-turn : (a b c : Bool) → ((a || b) || c) ≡ (b || (a || c))
or-turn true true c = refl
or-turn true false c = refl
or-turn false true c = refl
or-turn false false c = refl

or-false : (a : Bool) → (a || false) ≡ a
or-false true = refl
or-false false = refl

repeated-push : (seen : List Name) (words : List Ref) (last : Ref)
    → repeated_after seen (words ++ last ∷ []) ≡ repeated_after seen words ++ unless (not (has_name seen last.name || has_name (map (λ (word : Ref). word.name) words) last.name)) last
repeated-push seen [] last = append-nil (unless (not (has_name seen last.name)) last) ∙ (λ i. unless (not (sym (or-false (has_name seen last.name)) i)) last)
repeated-push seen (word ∷ words) last =
    (λ i. unless (not (has_name seen word.name)) word ++ (repeated-push (word.name ∷ seen) words last
    ∙ (λ j. repeated_after (word.name ∷ seen) words ++ unless (not (or-turn (same_name word.name last.name) (has_name seen last.name) (has_name (map (λ (other : Ref). other.name) words) last.name) j)) last)) i)
    ∙ sym (append-assoc (unless (not (has_name seen word.name)) word) (repeated_after (word.name ∷ seen) words)
    (unless (not (has_name seen last.name || (same_name word.name last.name || has_name (map (λ (other : Ref). other.name) words) last.name))) last))

module _ {A : Type 0} (word : A → Ref) where
  names-of-words : (items : List A) (name : Name) → has_name (flat_map (λ item. (word item).name ∷ []) items) name ≡ has_name (map (λ (other : Ref). other.name) (map word items)) name
  names-of-words [] name = refl
  names-of-words (item ∷ items) name = ap (λ rest. same_name (word item).name name || rest) (names-of-words items name)

  -- a word more
  pub repeated-more : (found now next : Option Spot) (xs : List A) (i : ℕ) (x : A) (names : List Name) (seen : Bool)
      → i < length xs → x ≡ get_or xs i x → seen ≡ has_name names (word x).name → Adds [] (flat_map (λ item. (word item).name ∷ []) (take i xs)) names
      → now ≡ fold step found (repeated (map word (take i xs))) → next ≡ fold step now (unless (not seen) (word x))
      → next ≡ fold step found (repeated (map word (take (i + 1) xs)))
  repeated-more found now next xs i x names seen within read told adds so_far is =
      is ∙ (λ j. fold step (so_far j) (unless (not ((told ∙ adds (word x).name ∙ names-of-words (take i xs) (word x).name) j)) (word x)))
      ∙ sym (fold-append step found (repeated (map word (take i xs))) (unless (not (has_name (map (λ (other : Ref). other.name) (map word (take i xs))) (word x).name)) (word x)))
      ∙ ap (fold step found) (sym (repeated-push [] (map word (take i xs)) (word x))
      ∙ ap repeated (sym (map-append word (take i xs) (x ∷ []))) ∙ (λ j. repeated (map word (sym longer j))))
    where
      longer : take (i + 1) xs ≡ take i xs ++ x ∷ []
      longer = take_more xs i x within ∙ ap (λ item. take i xs ++ item ∷ []) (sym read)

-- ---- what is made of each item

pub map-more : {A B : Type 0} (f : A → B) (now next : List B) (xs : List A) (i : ℕ) (x : A) (y : B) → i < length xs → x ≡ get_or xs i x → now ≡ map f (take i xs) → y ≡ f x → next ≡ now ++ y ∷ []
    → next ≡ map f (take (i + 1) xs)
map-more f now next xs i x y within read so_far made is =
    is ∙ (λ j. so_far j ++ made j ∷ []) ∙ sym (map-append f (take i xs) (x ∷ [])) ∙ ap (map f) (sym (take_more xs i x within ∙ ap (λ item. take i xs ++ item ∷ []) (sym read)))

pub ruleset walk_laws = (fold-append, walk-more)
