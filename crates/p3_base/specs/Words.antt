-- Names and the other words of the grammar. The bytes of a name are lowered, so that names are compared without letter case.
use Rattle.std.specs.Prelude.{ℕ, ◌==◌, nat_le, Bool, true, false, not, ◌&&◌, ◌||◌, List, [], ◌∷◌, map, codes, bytes_eq}
use Rattle.std.specs.List.{list_any, list_all}

abbrev pub Name : Type 0
Name = List ℕ

abbrev pub same_name : Name → Name → Bool
same_name = bytes_eq

abbrev pub has_name : List Name → Name → Bool
has_name names name = list_any (λ other. same_name other name) names

-- no two of the names are the same
abbrev pub are_different : List Name → Bool
are_different [] = true
are_different (name ∷ names) = not (has_name names name) && are_different names

-- the function that counts the cost of a plan
abbrev pub total_cost : Name
total_cost = codes "total-cost"

-- ---- bytes

abbrev pub is_printable : ℕ → Bool
is_printable byte = nat_le 33 byte && nat_le byte 126

-- what may stand in a word: printable, and no parenthesis and no `;`
abbrev pub is_of_word : ℕ → Bool
is_of_word byte = is_printable byte && not (byte == 40 || byte == 41 || byte == 59)

-- so may it in a word whose letters are lowered
abbrev pub is_lowered : ℕ → Bool
is_lowered byte = is_of_word byte && not (nat_le 65 byte && nat_le byte 90)

abbrev pub is_letter : ℕ → Bool
is_letter byte = nat_le 97 byte && nat_le byte 122

abbrev pub is_digit : ℕ → Bool
is_digit byte = nat_le 48 byte && nat_le byte 57

-- ---- which words are names, variables and numbers

-- a name begins with a letter
abbrev pub is_name : Name → Bool
is_name [] = false
is_name (byte ∷ bytes) = is_letter byte

-- a variable is `?` and at least one further byte
abbrev pub is_variable : Name → Bool
is_variable (byte ∷ next ∷ bytes) = byte == 63
is_variable _ = false

-- digits alone, and one at least
abbrev pub are_digits : Name → Bool
are_digits [] = false
are_digits (byte ∷ bytes) = list_all is_digit (byte ∷ bytes)

-- no predicate or function has these names
abbrev pub reserved_words : List Name
reserved_words = map codes ("and" ∷ "or" ∷ "not" ∷ "imply" ∷ "exists" ∷ "forall" ∷ "when" ∷ "preference" ∷ "increase" ∷ "either" ∷ "define" ∷ "is-violated" ∷ "total-time"
    ∷ "always" ∷ "sometime" ∷ "at-most-once" ∷ "sometime-after" ∷ "sometime-before" ∷ "within" ∷ "always-within" ∷ "hold-during" ∷ "hold-after"
    ∷ "assign" ∷ "decrease" ∷ "scale-up" ∷ "scale-down" ∷ [])

abbrev pub is_function_name : Name → Bool
is_function_name name = is_name name && not (has_name reserved_words name)

-- `total-cost` is the name of a function and of no predicate
abbrev pub is_predicate_name : Name → Bool
is_predicate_name name = is_name name && not (has_name reserved_words name) && not (same_name name total_cost)
