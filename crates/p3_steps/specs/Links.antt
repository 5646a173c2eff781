-- The objects that facts have at one place, filed by the object at another place.
use Rattle.std.specs.Prelude.{◌≡◌, ℕ, ◌+◌, ◌==◌, nat_lt, Bool, true, false, not, ◌&&◌, ◌||◌, List, [], ◌∷◌, ◌++◌, length, slice_index_or}
use Rattle.std.specs.List.{list_any, list_all}
use Rattle.p3_numbers.specs.Slots.{Slots}
use Rattle.p3_numbers.specs.declared.condition.NumberedArgument.{NumberedArgument}
use Rattle.p3_numbers.specs.declared.condition.NumberedArgument.TheVariants.{Slot, Object}
use Rattle.p3_numbers.specs.declared.condition.NumberedCondition.{NumberedCondition}
use Rattle.p3_numbers.specs.declared.goal.NumberedGoal.{NumberedGoal}
use Rattle.p3_numbers.specs.declared.numbers.Numbers.{Numbers}
use Rattle.p3_expansion.specs.Atoms.{GroundAtom, atom_at}
use Rattle.p3_expansion.specs.Statics.{is_decided}
use Rattle.p3_expansion.specs.declared.statics.Statics.{Statics}
use Rattle.p3_steps.specs.Possible.{atom_may, may_yet_be, may_yet_begin}
use Rattle.p3_steps.specs.declared.links.Links.{Links}

-- ---- arguments, where so many variables have their objects and one more is to get its

-- it is the newest variable
abbrev pub is_newest : ℕ → NumberedArgument → Bool
is_newest count (Slot place) = place == count
is_newest count (Object number) = false

-- it is an older variable
abbrev pub is_older : ℕ → NumberedArgument → Bool
is_older count (Slot place) = nat_lt place count
is_older count (Object number) = false

-- it is no later variable
abbrev pub is_ready : ℕ → NumberedArgument → Bool
is_ready count (Slot place) = nat_lt place (count + 1)
is_ready count (Object number) = true

-- ---- words of atoms: the predicate and then the objects

abbrev pub word_at : GroundAtom → ℕ → ℕ
word_at atom place = slice_index_or atom place 0

-- the newest variable's object is the word at the place
abbrev pub IsNewestPlace : ℕ → List NumberedArgument → ℕ → Type 0
IsNewestPlace count args place = (predicate object : ℕ) (slots : Slots) → length slots ≡ count → word_at (atom_at (slots ++ object ∷ []) predicate args) place ≡ object

-- the newest variable's object is not the word at the place
abbrev pub IsKeyPlace : ℕ → List NumberedArgument → ℕ → Type 0
IsKeyPlace count args place = (predicate object : ℕ) (slots : Slots) → length slots ≡ count → word_at (atom_at (slots ++ object ∷ []) predicate args) place ≡ word_at (atom_at slots predicate args) place

-- ---- files

-- the objects that are filed by this number
abbrev pub file_at : List (List ℕ) → ℕ → List ℕ
file_at files number = slice_index_or files number []

-- the word of the fact at the place is filed by its word at the key's place, if the fact is of the predicate and there is such a file
abbrev pub is_filed : ℕ → ℕ → ℕ → List (List ℕ) → GroundAtom → Bool
is_filed predicate key place files fact =
    not (word_at fact 0 == predicate) || (not (nat_lt (word_at fact key) (length files)) || list_any (λ one. one == word_at fact place) (file_at files (word_at fact key)))

abbrev pub AreFiled : ℕ → ℕ → ℕ → List GroundAtom → List (List ℕ) → Type 0
AreFiled predicate key place facts files = list_all (is_filed predicate key place files) facts ≡ true

-- the fact is filed too
pub record Files (predicate key place : ℕ) (fact : GroundAtom) (old new : List (List ℕ)) : Type 0 where
  pub filed : is_filed predicate key place new fact ≡ true
  pub kept : (other : GroundAtom) → is_filed predicate key place old other ≡ true → is_filed predicate key place new other ≡ true

-- ---- what the files tell

abbrev pub words_at : Links → Slots → GroundAtom
words_at links slots = atom_at slots links.predicate links.args.now

-- the objects that may come behind those in the slots, as far as the files tell
abbrev pub row_at : Links → Slots → List ℕ
row_at links slots = file_at links.files.items (word_at (words_at links slots) links.key)

-- no step changes the atom, and the object has a name and is not among those that may come
abbrev pub is_missing : Numbers → Statics → Links → Slots → ℕ → Bool
is_missing N S links slots object =
    is_decided N S (words_at links slots) && (nat_lt (word_at (words_at links slots) links.key) (length links.files.items)
    && (nat_lt object (length N.objects) && not (list_any (λ one. one == object) (row_at links slots))))

-- the condition cannot hold with an object that is missing
abbrev pub TellsOf : Numbers → Statics → ℕ → NumberedCondition → Links → Type 0
TellsOf N S count condition links = (slots : Slots) (object : ℕ) → length slots ≡ count → is_missing N S links slots object ≡ true → may_yet_be N S (slots ++ object ∷ []) condition true ≡ false

abbrev pub TellsOfAtom : Numbers → Statics → ℕ → ℕ → List NumberedArgument → Links → Type 0
TellsOfAtom N S count predicate args links = (slots : Slots) (object : ℕ) → length slots ≡ count → is_missing N S links slots object ≡ true → atom_may N S (slots ++ object ∷ []) predicate args true ≡ false

-- nor can the goal begin
abbrev pub Tells : Numbers → Statics → NumberedGoal → ℕ → Links → Type 0
Tells N S goal count links = (slots : Slots) (object : ℕ) → length slots ≡ count → is_missing N S links slots object ≡ true → may_yet_begin N S (slots ++ object ∷ []) goal ≡ false
