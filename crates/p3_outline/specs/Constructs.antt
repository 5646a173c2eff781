-- The first construct that is left out by name, looked for from the outside in.
use Rattle.std.specs.Prelude.{◌≡◌, ℕ, ◌==◌, nat_lt, Bool, true, false, not, ◌&&◌, ◌||◌, List, [], ◌∷◌, ◌++◌, map, flat_map, length, codes, if◌then◌else◌, Option, Some, None}
use Rattle.std.specs.List.{list_any}
use Rattle.std.specs.Option.{option_map_or}
use Rattle.std.specs.Str.{str_to_ascii_lowercase}
use Rattle.p3_base.specs.Words.{is_name}
use Rattle.p3_task.specs.Names.{Name, same_name, has_name, total_cost}
use Rattle.p3_task.specs.Grammar.Words.{word_place}
use Rattle.p3_task.specs.Refusals.Constructs.{left_out, has_some, word_when, is_word_called, is_number_or_list, second_is_number, other_increase, not_a_number, shown_by, constructs}
use Rattle.p3_task.specs.declared.expression.Expression.{Expression}
use Rattle.p3_task.specs.declared.term.Ref.{Ref}
use Rattle.p3_outline.specs.declared.constructs.Around.{Around}
use Rattle.p3_outline.specs.declared.constructs.ConstructFound.{ConstructFound}
use Rattle.p3_outline.specs.declared.constructs.TextWord.{TextWord}
use Rattle.p3_outline.specs.declared.view.Node.{Node}
use Rattle.p3_outline.specs.declared.view.Node.TheVariants as node
use Rattle.p3_outline.specs.Nodes.{slice_of}

abbrev pub the_word : TextWord → Ref
the_word word = record { name = str_to_ascii_lowercase word.text.now; at = word.at }

-- ---- what is found first

abbrev pub the_found : Ref → ConstructFound
the_found word = record { at = word.at; len = length word.name }

abbrev pub sooner : Option ConstructFound → ConstructFound → ConstructFound
sooner None found = found
sooner (Some least) found = if nat_lt found.at least.at then found else least

-- the first of what was found and of these words
abbrev pub least_with : Option ConstructFound → List Ref → Option ConstructFound
least_with least [] = least
least_with least (word ∷ words) = least_with (Some (sooner least (the_found word))) words

-- ---- heads that show nothing

-- how each word begins that shows something as a head outside the metric, or changes what the lists around are
abbrev pub is_telling_byte : ℕ → Bool
is_telling_byte byte = byte == 97 || byte == 100 || byte == 101 || byte == 102 || byte == 104 || byte == 105 || byte == 115 || byte == 116 || byte == 119 || byte == 47 || byte == 60 || byte == 61 || byte == 62

-- how many bytes may follow there
abbrev pub is_telling_length : ℕ → Bool
is_telling_length behind = behind == 0 || behind == 1 || behind == 3 || behind == 5 || behind == 7 || behind == 9 || behind == 10 || behind == 12

-- or it begins with a colon
abbrev pub may_tell : Name → Bool
may_tell [] = false
may_tell (byte ∷ bytes) = byte == 58 || (is_telling_byte byte && is_telling_length (length bytes))

abbrev pub is_plain : Around → Ref → Bool
is_plain around head = not around.metric && not (may_tell head.name)

-- ---- words that show nothing

-- how many bytes may follow the first one of a word that shows something outside the metric, or of `:metric`
abbrev pub is_showing_length : ℕ → Bool
is_showing_length behind = behind == 0 || behind == 1 || behind == 5 || behind == 6 || behind == 7 || behind == 9 || behind == 10 || behind == 12 || behind == 15

-- how it may begin where so many follow
abbrev pub is_showing : ℕ → ℕ → Bool
is_showing byte behind =
    byte == 58
    || (behind == 0 && (byte == 47 || byte == 60 || byte == 61 || byte == 62))
    || (behind == 1 && (byte == 97 || byte == 60 || byte == 62))
    || (behind == 5 && (byte == 97 || byte == 101 || byte == 119))
    || (behind == 7 && (byte == 100 || byte == 105 || byte == 115))
    || (behind == 9 && (byte == 104 || byte == 115 || byte == 116))
    || (behind == 10 && byte == 104)
    || (behind == 12 && byte == 97)

abbrev pub may_show : Name → Bool
may_show [] = false
may_show (byte ∷ bytes) = is_showing_length (length bytes) && is_showing byte (length bytes)

abbrev pub is_dull : Name → Bool
is_dull word = not (may_show word) || same_name total_cost word

-- a word of so many bytes is dull
abbrev pub is_dull_length : ℕ → Bool
is_dull_length len = len == 3 || len == 4 || len == 5

abbrev pub is_dull_node : List ℕ → Node → Bool
is_dull_node text (node.Word at len) = is_dull (str_to_ascii_lowercase (slice_of text at len))
is_dull_node text (node.List at below) = true

-- ---- the lists around

abbrev pub declaring : List Name
declaring = map codes (":types" ∷ ":constants" ∷ ":objects" ∷ [])

abbrev pub conditions : List Name
conditions = map codes ("when" ∷ "forall" ∷ [])

-- whether a list with this word at its head is left out
unfoldable pub is_left_out : Name → Bool
is_left_out word = has_name left_out word

-- how each such word begins
abbrev pub begins_as_left_out : Name → Bool
begins_as_left_out [] = false
begins_as_left_out (byte ∷ bytes) = byte == 58 || byte == 119 || byte == 97 || byte == 104 || byte == 100 || byte == 115 || byte == 47 || byte == 60 || byte == 62

-- what the heads of the lists around are, and that of the innermost one
abbrev pub the_around : List Name → Option Name → Around
the_around around innermost = record {
  declares = has_some around declaring;
  conditional = has_some around conditions;
  initial = has_name around (codes ":init");
  metric = has_name around (codes ":metric");
  is_right_in_init = option_map_or (same_name (codes ":init")) innermost false;
}

-- behind a head
abbrev pub with_head : Name → Around → Around
with_head word around = record {
  declares = has_name declaring word || around.declares;
  conditional = has_name conditions word || around.conditional;
  initial = same_name (codes ":init") word || around.initial;
  metric = same_name (codes ":metric") word || around.metric;
  is_right_in_init = same_name (codes ":init") word;
}

-- in a list that begins with a list
abbrev pub with_no_head : Around → Around
with_no_head around = record around { is_right_in_init = false }

-- what is found of these words, wherever it is that the lists around are so
abbrev pub Finds : Around → Option ConstructFound → (List Name → Option Name → List Ref) → Option ConstructFound → Type 0
Finds around least words found = (names : List Name) (innermost : Option Name) → around ≡ the_around names innermost → found ≡ least_with least (words names innermost)

-- ---- what a list shows

abbrev pub either_shown : Around → Ref → List Ref
either_shown around head = word_when (is_word_called head (codes "either") && around.declares) head

abbrev pub increase_shown : Around → Ref → List Ref
increase_shown around head = word_when (is_word_called head (codes "increase") && around.conditional) head

-- by its head alone
abbrev pub head_shown : Around → Ref → List Ref
head_shown around head =
    word_when (is_left_out head.name) head
    ++ either_shown around head ++ increase_shown around head

abbrev pub other_shown : Ref → List Expression → List Ref
other_shown head behind = if is_word_called head (codes "increase") then other_increase behind else []

abbrev pub number_shown : Ref → List Expression → List Ref
number_shown head behind = if is_word_called head (codes ":functions") then not_a_number false behind else []

-- behind its head
abbrev pub behind_shown : Ref → List Expression → List Ref
behind_shown head behind = other_shown head behind ++ number_shown head behind

abbrev pub timed_shown : Around → Ref → List Expression → List Ref
timed_shown around head behind = word_when (is_word_called head (codes "at") && around.is_right_in_init && second_is_number behind) head

abbrev pub compared_shown : Around → Ref → List Expression → List Ref
compared_shown around head behind = word_when (is_word_called head (codes "=") && not around.initial && list_any is_number_or_list behind) head

abbrev pub metric_shown : Around → Ref → List Ref
metric_shown around head = word_when (around.metric && is_name head.name && not (is_word_called head (codes "is-violated")) && not (is_word_called head total_cost)) head

-- by its head, for what stands behind it or around
abbrev pub place_shown : Around → Ref → List Expression → List Ref
place_shown around head behind = timed_shown around head behind ++ compared_shown around head behind ++ metric_shown around head

-- ---- what is in expressions, one after another

abbrev pub constructs_in : List Name → Option Name → List Expression → List Ref
constructs_in names innermost parts = flat_map (constructs names innermost) parts

abbrev pub total_time : Ref → List Ref
total_time word = word_when (is_word_called word (codes "total-time")) word

abbrev pub behind_head : List Name → Option Name → Expression → List Expression → Option Ref → List Ref
behind_head names innermost first behind None = constructs_in names None (first ∷ behind)
behind_head names innermost first behind (Some head) =
    shown_by names innermost head behind ++ total_time head ++ constructs_in (head.name ∷ names) (Some head.name) behind

-- in a list of these elements
abbrev pub constructs_below : List Name → Option Name → List Expression → List Ref
constructs_below names innermost [] = []
constructs_below names innermost (first ∷ behind) = behind_head names innermost first behind (word_place first)

-- ---- what is found in them, wherever it is that the lists around are so

abbrev pub FindsShown : Around → Option ConstructFound → Ref → List Expression → Option ConstructFound → Type 0
FindsShown around least head behind found = Finds around least (λ names innermost. shown_by names innermost head behind) found

abbrev pub FindsBelow : Around → Option ConstructFound → List Expression → Option ConstructFound → Type 0
FindsBelow around least parts found = Finds around least (λ names innermost. constructs_below names innermost parts) found

-- nothing is shown in a list of these elements
abbrev pub IsQuiet : Around → List Expression → Type 0
IsQuiet around parts = (least : Option ConstructFound) → FindsBelow around least parts least

abbrev pub FindsIn : Around → Option ConstructFound → List Expression → Option ConstructFound → Type 0
FindsIn around least parts found = Finds around least (λ names innermost. constructs_in names innermost parts) found
