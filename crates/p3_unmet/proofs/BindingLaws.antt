-- Variables with objects, pair by pair, make the environment that they make apart.
use Rattle.std.proofs.Common.{◌≡◌, ℕ, zero, suc, ◌+◌, ◌<◌, ◌≤◌, List, [], ◌∷◌, ◌++◌, length, map, take, get_or, refl, sym, ap, arith, add-one}
use Rattle.std.specs.Prelude.{min}
use Rattle.std.specs.Borrow.{Bor}
use Rattle.p3_task.specs.Names.{Name}
use Rattle.p3_task.specs.States.{Environment}
use Rattle.p3_numbers.specs.Places.{Variables, paired}
use Rattle.p3_numbers.specs.Slots.{Slots, name_at, object_names}
use Rattle.p3_numbers.specs.declared.numbers.Numbers.{Numbers}
use Rattle.p3_scenes.specs.Lent.{lent_words}
use Rattle.p3_accounts.specs.declared.subject.Binding.{Binding}
use Rattle.p3_unmet.specs.Bindings.{PairsBind, paired_with}

module _ (N : Numbers) where
  pairs-from : (env : Environment) (scope : Variables) (objects : Slots)
      → paired env (map (λ (binding : Binding). binding.variable) (paired_with scope objects)) (object_names N (map (λ (binding : Binding). binding.object) (paired_with scope objects))) ≡ paired env scope (object_names N objects)
  pairs-from env [] objects = refl
  pairs-from env (variable ∷ scope) [] = refl
  pairs-from env (variable ∷ scope) (object ∷ objects) = pairs-from (record { variable = variable; object = name_at N.objects object } ∷ env) scope objects

pub pairs-bind : PairsBind
pairs-bind N scope objects = pairs-from N [] scope objects

-- ---- pair by pair

-- one pair more
pairs-next : (words : List (Bor Name)) (objects : Slots) (k : ℕ) (word : Bor Name) → k < length words → k < length objects → word ≡ get_or words k word
    → paired_with (lent_words (take (suc k) words)) (take (suc k) objects) ≡ paired_with (lent_words (take k words)) (take k objects) ++ record { variable = word.now; object = get_or objects k 0 } ∷ []
pairs-next [] objects k word within inside is = absurd (omega arith)
pairs-next (first ∷ words) [] k word within inside is = absurd (omega arith)
pairs-next (first ∷ words) (object ∷ objects) zero word within inside is = λ i. record { variable = (sym is i).now; object = object } ∷ []
pairs-next (first ∷ words) (object ∷ objects) (suc k) word within inside is =
    ap (λ (rest : List Binding). record { variable = first.now; object = object } ∷ rest) (pairs-next words objects k word (omega arith) (omega arith) is)

pub pairs-more : (words : List (Bor Name)) (objects : Slots) (k : ℕ) (word : Bor Name) → k < length words → k < length objects → word ≡ get_or words k word
    → paired_with (lent_words (take (k + 1) words)) (take (k + 1) objects) ≡ paired_with (lent_words (take k words)) (take k objects) ++ record { variable = word.now; object = get_or objects k 0 } ∷ []
pairs-more words objects k word within inside is = rw add-one (pairs-next words objects k word within inside is)

-- as many as there are of both
pub pairs-all : (words : List (Bor Name)) (objects : Slots) (k : ℕ) → min (length words) (length objects) ≤ k → paired_with (lent_words (take k words)) (take k objects) ≡ paired_with (lent_words words) objects
pairs-all [] objects zero long = refl
pairs-all [] objects (suc k) long = refl
pairs-all (first ∷ words) [] zero long = refl
pairs-all (first ∷ words) [] (suc k) long = refl
pairs-all (first ∷ words) (object ∷ objects) zero long = absurd (omega arith)
pairs-all (first ∷ words) (object ∷ objects) (suc k) long = ap (λ (rest : List Binding). record { variable = first.now; object = object } ∷ rest) (pairs-all words objects k (omega arith))
