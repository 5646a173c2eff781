-- The keys by which tables of names are hashed, each made of the words that may go into the table.
use Rattle.std.specs.Prelude.{ℕ, List, [], ◌∷◌, fold, flat_map}
use Rattle.std.specs.Hash as fed
use Rattle.std.specs.Hash.DefaultHasher as sip
use Rattle.std.specs.Hash.FoldHasher as folding
use Rattle.std.specs.declared.hash.FoldHasher.{FoldHasher}
use Rattle.std.specs.declared.hash.DefaultHasher.{DefaultHasher}
use Rattle.p3_task.specs.Names.{Name}
use Rattle.p3_task.specs.States.{meanings}
use Rattle.p3_task.specs.Types.{names_of}
use Rattle.p3_task.specs.declared.task.Init.{Init}
use Rattle.p3_task.specs.declared.task.Init.TheVariants as init
use Rattle.p3_task.specs.declared.term.Typed.{Typed}

-- a word more, and a blank, which no word has
abbrev pub told_more : DefaultHasher → Name → DefaultHasher
told_more told word = sip.write (sip.write told word) (32 ∷ [])

abbrev pub told_all : DefaultHasher → List Name → DefaultHasher
told_all told words = fold told_more told words

-- a number more
abbrev pub told_number : DefaultHasher → ℕ → DefaultHasher
told_number told number = fold sip.write told (fed.u32 number)

abbrev pub told_numbers : DefaultHasher → List ℕ → DefaultHasher
told_numbers told numbers = fold told_number told numbers

-- the hasher with which a key begins: it has read what was made of all words
abbrev pub start_after : DefaultHasher → FoldHasher
start_after told = fold folding.write folding.initial (fed.u64 (sip.finish told))

-- the hasher with which the key of a list of words begins
abbrev pub start_of : List Name → FoldHasher
start_of words = start_after (told_all sip.initial words)

-- the names in the lists of types of parameters
abbrev pub parameter_types : List Typed → List Name
parameter_types parameters = flat_map (λ parameter. names_of parameter.types) parameters

-- a function that is given a value, and its objects
abbrev pub value_words : Init → List Name
value_words (init.True predicate args) = []
value_words (init.False predicate args) = []
value_words (init.Value function args number) = function.name ∷ meanings [] args
