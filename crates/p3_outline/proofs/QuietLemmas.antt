-- Lists whose words show nothing.
use Rattle.std.proofs.Common.{◌≡◌, ◌∙◌, refl, sym, ap, ℕ, zero, suc, ◌+◌, ◌≤◌, Bool, true, false, ◌||◌, ◌&&◌, not, List, [], ◌∷◌, ◌++◌, take, drop, length, Option, Some, None, arith}
use Rattle.std.specs.Prelude.{codes}
use Rattle.std.specs.List.{list_all}
use Rattle.std.specs.Str.{str_to_ascii_lowercase}
use Rattle.std.proofs.lemmas.Bool.{and_parts}
use Rattle.std.proofs.lemmas.List.{length-drop, length-take-le}
use Rattle.p3_task.specs.Names.{Name, same_name, has_name, total_cost}
use Rattle.p3_task.specs.Refusals.Constructs.{word_when, shown_by}
use Rattle.p3_task.specs.declared.expression.Expression.{Expression}
use Rattle.p3_task.specs.declared.expression.Expression.TheVariants as expression
use Rattle.p3_task.specs.declared.term.Ref.{Ref}
use Rattle.p3_outline.specs.declared.constructs.Around.{Around}
use Rattle.p3_outline.specs.declared.view.Node.{Node}
use Rattle.p3_outline.specs.declared.view.Node.TheVariants as node
use Rattle.p3_outline.specs.Nodes.{slice_of, decoded, expressions_in, expression_in, elements}
use Rattle.p3_outline.specs.Constructs.{is_showing_length, is_showing, is_dull, is_dull_length, is_dull_node, the_around, least_with, constructs_in, constructs_below, total_time, IsQuiet}
use Rattle.p3_outline.proofs.BuildLemmas.{lowered_length}
use Rattle.p3_outline.proofs.NodeLemmas.{elements_of_list}
use Rattle.p3_outline.proofs.ConstructLemmas.{not_called, none_shown, shown_as, word_shows, list_shows}

abbrev shows : Name → Bool
shows word = not (is_dull word)

-- ---- words that show nothing by their length

no_length : (behind : ℕ) → is_dull_length (suc behind) ≡ true → is_showing_length behind ≡ false
no_length zero is = absurd cc
no_length (suc zero) is = absurd cc
no_length (suc (suc zero)) is = refl
no_length (suc (suc (suc zero))) is = refl
no_length (suc (suc (suc (suc zero)))) is = refl
no_length (suc (suc (suc (suc (suc n))))) is = absurd (grind arith)

dull_by : (word : Name) (len : ℕ) → length word ≡ len → is_dull_length len ≡ true → is_dull word ≡ true
dull_by [] len has is = absurd (let none = ap is_dull_length has ∙ is in cc)
dull_by (byte ∷ bytes) len has is =
    ap (λ b. not (b && is_showing byte (length bytes)) || same_name total_cost (byte ∷ bytes)) (no_length (length bytes) (ap is_dull_length has ∙ is))

pub inside_dull : (text : List ℕ) (at len : ℕ) → is_dull_length len ≡ true → at + len ≤ length text → is_dull (str_to_ascii_lowercase (slice_of text at len)) ≡ true
inside_dull text at len is inside =
    dull_by (str_to_ascii_lowercase (slice_of text at len)) len
    (lowered_length (slice_of text at len) ∙ length-take-le len (drop at text) (omega (arith, inside, length-drop at text))) is

-- ---- a word

shown_none : (names : List Name) (innermost : Option Name) (head : Ref) (behind : List Expression) → has_name names (codes ":metric") ≡ false → shows head.name ≡ false
    → shown_by names innermost head behind ≡ []
shown_none names innermost head behind outside dull =
    shown_as names innermost head behind ∙ none_shown shows (the_around names innermost) head outside dull refl refl refl refl refl refl behind

time_none : (word : Ref) → shows word.name ≡ false → total_time word ≡ []
time_none word dull = ap (λ b. word_when b word) (not_called shows word.name dull (codes "total-time") refl)

still_none : (names : List Name) (word : Name) → has_name names (codes ":metric") ≡ false → shows word ≡ false → has_name (word ∷ names) (codes ":metric") ≡ false
still_none names word outside dull = ap (λ b. b || has_name names (codes ":metric")) (not_called shows word dull (codes ":metric") refl) ∙ outside

-- ---- expressions

-- nothing is shown in expressions, one after another and as a list
abbrev AreQuiet : List Name → List Expression → Type 0
AreQuiet names es = (innermost : Option Name) → (constructs_in names innermost es ≡ []) × (constructs_below names innermost es ≡ [])

of_word : (names : List Name) (at : ℕ) (text : Name) (es : List Expression) → has_name names (codes ":metric") ≡ false → shows text ≡ false
    → ((names : List Name) → has_name names (codes ":metric") ≡ false → AreQuiet names es) → AreQuiet names (expression.Word at text ∷ es)
of_word names at text es outside dull rest innermost =
    let head : Ref = record { name = text; at = at } in (
      ap (λ ws. ws ++ constructs_in names innermost es) (word_shows names innermost (expression.Word at text) head refl ∙ time_none head dull) ∙ (rest names outside innermost).0,
      ap (λ ws. ws ++ total_time head ++ constructs_in (text ∷ names) (Some text) es) (shown_none names innermost head es outside dull)
          ∙ ap (λ ws. ws ++ constructs_in (text ∷ names) (Some text) es) (time_none head dull) ∙ (rest (text ∷ names) (still_none names text outside dull) (Some text)).0,
    )

in_list : (names : List Name) (at : ℕ) (parts es : List Expression) → AreQuiet names parts → AreQuiet names es → (innermost : Option Name) → constructs_in names innermost (expression.Group at parts ∷ es) ≡ []
in_list names at parts es within rest innermost =
    ap (λ ws. ws ++ constructs_in names innermost es)
    (list_shows names innermost (expression.Group at parts) refl ∙ ap (constructs_below names innermost) (elements_of_list at parts) ∙ (within innermost).1)
    ∙ (rest innermost).0

of_list : (names : List Name) (at : ℕ) (parts es : List Expression) → AreQuiet names parts → AreQuiet names es → AreQuiet names (expression.Group at parts ∷ es)
of_list names at parts es within rest innermost = (in_list names at parts es within rest innermost, in_list names at parts es within rest None)

-- ---- nodes

all_taken : (test : Node → Bool) (n : ℕ) (nodes : List Node) → list_all test nodes ≡ true → list_all test (take n nodes) ≡ true
all_taken test zero nodes all = refl
all_taken test (suc n) [] all = refl
all_taken test (suc n) (first ∷ nodes) all =
    let both = and_parts (test first) (list_all test nodes) all in
    ap (λ b. b && list_all test (take n nodes)) both.0 ∙ all_taken test n nodes both.1

all_dropped : (test : Node → Bool) (n : ℕ) (nodes : List Node) → list_all test nodes ≡ true → list_all test (drop n nodes) ≡ true
all_dropped test zero nodes all = all
all_dropped test (suc n) [] all = refl
all_dropped test (suc n) (first ∷ nodes) all = all_dropped test n nodes (and_parts (test first) (list_all test nodes) all).1

nodes_quiet : (fuel : ℕ) (text : List ℕ) (nodes : List Node) → list_all (is_dull_node text) nodes ≡ true
    → (names : List Name) → has_name names (codes ":metric") ≡ false → AreQuiet names (decoded fuel text nodes)
unfolding decoded
nodes_quiet zero text nodes all names outside innermost = (refl, refl)
nodes_quiet (suc fuel) text [] all names outside innermost = (refl, refl)
nodes_quiet (suc fuel) text (node.Word at len ∷ nodes) all names outside innermost =
    let word = str_to_ascii_lowercase (slice_of text at len) in
    let both = and_parts (is_dull word) (list_all (is_dull_node text) nodes) all in
    of_word names at word (decoded fuel text nodes) outside (ap not both.0) (nodes_quiet fuel text nodes both.1) innermost
nodes_quiet (suc fuel) text (node.List at below ∷ nodes) all names outside innermost =
    of_list names at (decoded fuel text (take below nodes)) (decoded fuel text (drop below nodes))
    (nodes_quiet fuel text (take below nodes) (all_taken (is_dull_node text) below nodes all) names outside)
    (nodes_quiet fuel text (drop below nodes) (all_dropped (is_dull_node text) below nodes all) names outside) innermost

-- a list of dull words, outside the metric
pub dull_quiet : (around : Around) (text : List ℕ) (n : Node) (below : List Node) → around.metric ≡ false → list_all (is_dull_node text) below ≡ true → IsQuiet around (elements (expression_in text n below))
dull_quiet around text (node.Word at len) below outside all least names innermost place = refl
dull_quiet around text (node.List at count) below outside all least names innermost place =
    sym (ap (least_with least) (
    ap (constructs_below names innermost) (elements_of_list at (expressions_in text below))
    ∙ (nodes_quiet (length below) text below all names (sym (ap (λ (x : Around). x.metric) place) ∙ outside) innermost).1
    ))
