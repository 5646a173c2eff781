-- Building nodes token by token is reading an expression token by token.
use Rattle.std.proofs.Common.{◌≡◌, ◌∙◌, refl, sym, ap, subst, ◌≢◌, ℕ, suc, ◌+◌, ◌-◌, ◌≤◌, ◌==◌, Bool, true, false, not, ◌&&◌, nat_lt, if◌then◌else◌, List, [], ◌∷◌, ◌++◌, fold, length, reverse, set, take, drop, codes, Option, Some, None, append_assoc, arith}
use Rattle.std.specs.Prelude.{is_none}
use Rattle.std.specs.Option.{option_map}
use Rattle.std.specs.Str.{bytes_eq, str_to_ascii_lowercase}
use Rattle.p3_lexer.specs.Lexing.{token_of}
use Rattle.std.specs.Char.{to_ascii_lowercase}
use Rattle.std.proofs.lemmas.List.{length-map, length-append, length-reverse, length-set, append-nil, set_at}
use Rattle.std.proofs.Math.Seq.{take-append_seam, drop-append_seam}
use Rattle.p3_task.specs.Names.{is_empty}
use Rattle.p3_task.specs.Tokens.{Token, Tokens, Open, Close, Word, before, tokens_of}
use Rattle.p3_task.specs.Expressions.{Group, Reading, Within, Whole, Stopped, with_part, closed, read_token, whole_of, expression_of, expression_of_text}
use Rattle.p3_task.specs.declared.expression.Expression.{Expression}
use Rattle.p3_task.specs.declared.expression.Expression.TheVariants as expression
use Rattle.p3_outline.specs.Builds.{Built, is_done, opened, closed_by, with_word, added, with_token}
use Rattle.p3_outline.specs.Nodes.{expressions_in, slice_of}
use Rattle.p3_outline.specs.declared.view.Node.{Node}
use Rattle.p3_outline.specs.declared.view.Node.TheVariants as node
use Rattle.p3_outline.specs.declared.build.OpenList.{OpenList}
use Rattle.p3_outline.proofs.NodeLemmas.{no_node, next_word, next_list}

pub reversed_length : (lists : List OpenList) → length (reverse lists) ≡ length lists
reversed_length lists = length-reverse lists

is_none_open : (lists : List OpenList) → is_empty lists ≡ (length lists == 0)
is_none_open [] = refl
is_none_open (list ∷ lists) = by (length lists)
  where
    by : (n : ℕ) → false ≡ (suc n == 0)
    by n = grind arith

pub none_open : (lists : List OpenList) → is_empty (reverse lists) ≡ (length lists == 0)
none_open lists = is_none_open (reverse lists) ∙ ap (λ n. n == 0) (length-reverse lists)

pub no_node_yet : (nodes : List Node) → is_empty nodes ≡ (length nodes == 0)
no_node_yet [] = refl
no_node_yet (first ∷ nodes) = by (length nodes)
  where
    by : (n : ℕ) → false ≡ (suc n == 0)
    by n = grind arith

pub lowered_length : (text : List ℕ) → length (str_to_ascii_lowercase text) ≡ length text
lowered_length text = length-map text to_ascii_lowercase

-- ---- nodes that stand for some expressions, whatever follows

abbrev pub IsRow : List ℕ → List Node → List Expression → Type 0
IsRow source nodes es = (later : List Node) → expressions_in source (nodes ++ later) ≡ es ++ expressions_in source later

row_more : (source : List ℕ) (front back : List Node) (es more : List Expression) → IsRow source front es → IsRow source back more → IsRow source (front ++ back) (es ++ more)
row_more source front back es more first second later =
    ap (expressions_in source) (append_assoc front back later) ∙ first (back ++ later) ∙ ap (λ l. es ++ l) (second later) ∙ sym (append_assoc es more (expressions_in source later))

list_row : (source : List ℕ) (at : ℕ) (below : List Node) (es : List Expression) → IsRow source below es → IsRow source (node.List at (length below) ∷ below) (expression.Group at es ∷ [])
list_row source at below es row later =
    next_list source at (length below) (below ++ later)
    ∙ ap (λ l. expression.Group at (expressions_in source l) ∷ expressions_in source (drop (length below) (below ++ later))) (take-append_seam below later ∙ sym (append-nil below))
    ∙ ap (λ l. expression.Group at (expressions_in source (below ++ [])) ∷ expressions_in source l) (drop-append_seam below later)
    ∙ ap (λ l. expression.Group at l ∷ expressions_in source later) (row [] ∙ ap (λ l. es ++ l) (no_node source) ∙ append-nil es)

-- the word stands in the text
abbrev pub StandsAt : List ℕ → Token → Type 0
StandsAt source (Word at text) = str_to_ascii_lowercase (slice_of source at (length text)) ≡ text
StandsAt source token = Unit {0}

word_row : (source : List ℕ) (at : ℕ) (text : List ℕ) → StandsAt source (Word at text) → IsRow source (node.Word at (length text) ∷ []) (expression.Word at text ∷ [])
word_row source at text stands later = next_word source at (length text) later ∙ ap (λ w. expression.Word at w ∷ expressions_in source later) stands

-- ---- the lists that are open

-- the node of an open list, and the nodes behind it
pub record Opens (source : List ℕ) (group : Group) (list : OpenList) (front nodes : List Node) : Type 0 where
  pub count : ℕ
  pub below : List Node
  pub whole : nodes ≡ front ++ node.List group.at count ∷ below
  pub index : list.index ≡ length front
  pub at : list.at ≡ group.at
  pub row : IsRow source below group.parts

abbrev pub Nested : List ℕ → List Group → List OpenList → List Node → Type 0
Nested source [] [] nodes = nodes ≡ []
Nested source (group ∷ groups) (list ∷ lists) nodes = (front : List Node) × Opens source group list front nodes × Nested source groups lists front
Nested source _ _ nodes = ⊥

-- the nodes follow the reading
abbrev pub Follows : List ℕ → Reading → Built → Type 0
Follows source (Within groups) built = Nested source groups built.open_lists built.nodes
Follows source (Whole e) built = IsRow source built.nodes (e ∷ []) × (built.open_lists ≡ []) × (is_empty built.nodes ≡ false)
Follows source Stopped built = ⊥

abbrev Matches : List ℕ → Reading → Option Built → Type 0
Matches source read None = read ≡ Stopped
Matches source read (Some built) = Follows source read built

-- a part more of the innermost list
add_part : (source : List ℕ) (e : Expression) (groups : List Group) (lists : List OpenList) (front piece : List Node) → Nested source groups lists front → IsRow source piece (e ∷ []) → is_empty piece ≡ false
    → Follows source (with_part e groups) (record { nodes = front ++ piece; open_lists = lists })
add_part source e [] [] front piece nested row some =
    subst (λ f. Follows source (Whole e) (record { nodes = f ++ piece; open_lists = [] })) (sym nested) (row, refl, some)
add_part source e [] (list ∷ lists) front piece nested row some = elim nested [ ]
add_part source e (group ∷ groups) [] front piece nested row some = elim nested [ ]
add_part source e (group ∷ groups) (list ∷ lists) front piece nested row some =
    let o = nested.1 in (
      nested.0,
      record {
        count = o.count;
        below = o.below ++ piece;
        whole = ap (λ l. l ++ piece) o.whole ∙ append_assoc nested.0 (node.List group.at o.count ∷ o.below) piece;
        index = o.index;
        at = o.at;
        row = row_more source o.below piece group.parts (e ∷ []) o.row row;
      },
      nested.2,
    )

-- as many lists are open as groups
as_many : (source : List ℕ) (groups : List Group) (lists : List OpenList) (nodes : List Node) → Nested source groups lists nodes → length lists ≡ length groups
as_many source [] [] nodes nested = refl
as_many source [] (list ∷ lists) nodes nested = elim nested [ ]
as_many source (group ∷ groups) [] nodes nested = elim nested [ ]
as_many source (group ∷ groups) (list ∷ lists) nodes nested = ap suc (as_many source groups lists nested.0 nested.2)

-- ---- one token more

opened_by : (source : List ℕ) (limit at : ℕ) (groups : List Group) (lists : List OpenList) (nodes : List Node) (fits : Bool) → Nested source groups lists nodes
    → Matches source (if fits then Within (record { at = at; parts = [] } ∷ groups) else Stopped)
    (if fits then Some (record { nodes = nodes ++ node.List at 0 ∷ []; open_lists = record { index = length nodes; at = at } ∷ lists }) else None)
opened_by source limit at groups lists nodes true nested = (nodes, record { count = 0; below = []; whole = refl; index = refl; at = refl; row = λ later. refl }, nested)
opened_by source limit at groups lists nodes false nested = refl

-- the node of the list gets its count
counted : (source : List ℕ) (group : Group) (list : OpenList) (front nodes : List Node) (o : Opens source group list front nodes)
    → set nodes list.index (node.List list.at (length nodes - list.index - 1)) ≡ front ++ node.List group.at (length o.below) ∷ o.below
counted source group list front nodes o =
    let many : length nodes ≡ length front + suc (length o.below) = ap length o.whole ∙ length-append front (node.List group.at o.count ∷ o.below) in
    let count : length nodes - list.index - 1 ≡ length o.below = omega (arith, many, o.index) in
    ap (λ n. set nodes list.index (node.List list.at n)) count ∙ ap (λ a. set nodes list.index (node.List a (length o.below))) o.at
    ∙ ap (λ l. set l list.index (node.List group.at (length o.below))) o.whole
    ∙ set_at front (node.List group.at o.count) o.below (node.List group.at (length o.below)) list.index (sym o.index)

closed_matches : (source : List ℕ) (groups : List Group) (lists : List OpenList) (nodes : List Node) → Nested source groups lists nodes → Matches source (closed groups) (closed_by nodes lists)
closed_matches source [] [] nodes nested = refl
closed_matches source [] (list ∷ lists) nodes nested = elim nested [ ]
closed_matches source (group ∷ groups) [] nodes nested = elim nested [ ]
closed_matches source (group ∷ groups) (list ∷ lists) nodes nested =
    let o = nested.1 in
    subst (λ l. Follows source (with_part (expression.Group group.at group.parts) groups) (record { nodes = l; open_lists = lists })) (sym (counted source group list nested.0 nodes o))
    (add_part source (expression.Group group.at group.parts) groups lists nested.0 (node.List group.at (length o.below) ∷ o.below) nested.2 (list_row source group.at o.below group.parts o.row) refl)

added_matches : (source : List ℕ) (limit : ℕ) (groups : List Group) (built : Built) (token : Token) → Nested source groups built.open_lists built.nodes → StandsAt source token
    → Matches source (read_token limit (Within groups) token) (added limit built token)
added_matches source limit groups built (Open at) nested stands =
    subst (λ n. Matches source (read_token limit (Within groups) (Open at)) (if nat_lt n limit then Some (record { nodes = built.nodes ++ node.List at 0 ∷ []; open_lists = record { index = length built.nodes; at = at } ∷ built.open_lists }) else None))
    (sym (as_many source groups built.open_lists built.nodes nested))
    (opened_by source limit at groups built.open_lists built.nodes (nat_lt (length groups) limit) nested)
added_matches source limit groups built (Close at) nested stands = closed_matches source groups built.open_lists built.nodes nested
added_matches source limit groups built (Word at text) nested stands =
    add_part source (expression.Word at text) groups built.open_lists built.nodes (node.Word at (length text) ∷ []) nested (word_row source at text stands) refl

not_done_by : (source : List ℕ) (groups : List Group) (lists : List OpenList) (nodes : List Node) → Nested source groups lists nodes → (is_empty lists && not (is_empty nodes)) ≡ false
not_done_by source [] [] nodes nested = ap (λ (l : List Node). not (is_empty l)) nested
not_done_by source [] (list ∷ lists) nodes nested = elim nested [ ]
not_done_by source (group ∷ groups) [] nodes nested = elim nested [ ]
not_done_by source (group ∷ groups) (list ∷ lists) nodes nested = refl

done_by : (source : List ℕ) (e : Expression) (built : Built) → Follows source (Whole e) built → is_done built ≡ true
done_by source e built follows =
    ap (λ (l : List OpenList). is_empty l && not (is_empty built.nodes)) follows.1 ∙ ap not follows.2

-- A TOKEN more is read as it is built.
token_matches : (source : List ℕ) (limit : ℕ) (read : Reading) (built : Built) (token : Token) → Follows source read built → StandsAt source token
    → Matches source (read_token limit read token) (with_token limit built token)
token_matches source limit Stopped built token follows stands = elim follows [ ]
token_matches source limit (Whole e) built token follows stands =
    subst (λ b. Matches source Stopped (if b then None else added limit built token)) (sym (done_by source e built follows)) refl
token_matches source limit (Within groups) built token follows stands =
    subst (λ b. Matches source (read_token limit (Within groups) token) (if b then None else added limit built token)) (sym (not_done_by source groups built.open_lists built.nodes follows))
    (added_matches source limit groups built token follows stands)

-- ---- the tokens that are left

abbrev pub read_from : ℕ → Reading → Tokens → Option Expression
read_from limit read left = if is_none left.foreign then whole_of (fold (read_token limit) read left.tokens) else None

-- what was built follows what was read, and what is left leads to the text's expression
pub record Goes (limit : ℕ) (source : List ℕ) (left : Tokens) (built : Built) : Type 0 where
  pub read : Reading
  pub follows : Follows source read built
  pub leads : read_from limit read left ≡ expression_of_text limit source

pub at_start : (limit : ℕ) (source : List ℕ) → Goes limit source (tokens_of source) (record { nodes = []; open_lists = [] })
unfolding expression_of
at_start limit source = record { read = Within []; follows = refl; leads = refl }

pub one_more : (limit : ℕ) (source : List ℕ) (token : Token) (later : Tokens) (built next : Built) → StandsAt source token → Goes limit source (before token later) built
    → with_token limit built token ≡ Some next → Goes limit source later next
one_more limit source token later built next stands goes is = record {
  read = read_token limit goes.read token;
  follows = subst (Matches source (read_token limit goes.read token)) is (token_matches source limit goes.read built token goes.follows stands);
  leads = goes.leads;
}

pub stopped : (limit : ℕ) (tokens : List Token) → whole_of (fold (read_token limit) Stopped tokens) ≡ None
stopped limit [] = refl
stopped limit (token ∷ tokens) = stopped limit tokens

if_none : (b : Bool) (o : Option Expression) → o ≡ None → (if b then o else None) ≡ None
if_none true o is = is
if_none false o is = refl

pub none_more : (limit : ℕ) (source : List ℕ) (token : Token) (later : Tokens) (built : Built) → StandsAt source token → Goes limit source (before token later) built
    → with_token limit built token ≡ None → expression_of_text limit source ≡ None
none_more limit source token later built stands goes is =
    let stops : read_token limit goes.read token ≡ Stopped = subst (Matches source (read_token limit goes.read token)) is (token_matches source limit goes.read built token goes.follows stands) in
    sym goes.leads ∙ if_none (is_none later.foreign) (whole_of (fold (read_token limit) (read_token limit goes.read token) later.tokens))
    (ap (λ r. whole_of (fold (read_token limit) r later.tokens)) stops ∙ stopped limit later.tokens)

done_read : (source : List ℕ) (read : Reading) (built : Built) (done : Bool) → is_done built ≡ done → Follows source read built
    → (if done then Some (expressions_in source built.nodes) else None) ≡ option_map (λ e. e ∷ []) (whole_of read)
done_read source Stopped built done is follows = elim follows [ ]
done_read source (Whole e) built true is follows = ap Some (ap (expressions_in source) (sym (append-nil built.nodes)) ∙ follows.0 [] ∙ ap (λ l. e ∷ l) (no_node source))
done_read source (Whole e) built false is follows = absurd (true_false (sym (done_by source e built follows) ∙ is))
  where
    true_false : true ≡ false → ⊥
    true_false is = absurd cc
done_read source (Within groups) built true is follows = absurd (false_true (sym (not_done_by source groups built.open_lists built.nodes follows) ∙ is))
  where
    false_true : false ≡ true → ⊥
    false_true is = absurd cc
done_read source (Within groups) built false is follows = refl

pub at_end : (limit : ℕ) (source : List ℕ) (built : Built) (done : Bool) → is_done built ≡ done → Goes limit source (record { tokens = []; foreign = None }) built
    → (if done then Some (expressions_in source built.nodes) else None) ≡ option_map (λ e. e ∷ []) (expression_of_text limit source)
at_end limit source built done is goes = done_read source goes.read built done is goes.follows ∙ ap (option_map (λ e. e ∷ [])) goes.leads

-- ---- one token of a text

stands_by : (source : List ℕ) (offset : ℕ) (word : List ℕ) (opens closes : Bool) → word ≡ take (length word) (drop offset source)
    → StandsAt source (if opens then Open offset else (if closes then Close offset else Word offset (str_to_ascii_lowercase word)))
stands_by source offset word true closes slice = tt
stands_by source offset word false true slice = tt
stands_by source offset word false false slice = ap str_to_ascii_lowercase (ap (λ n. take n (drop offset source)) (lowered_length word) ∙ sym slice)

pub token_stands : (source : List ℕ) (offset : ℕ) (word : List ℕ) → word ≡ take (length word) (drop offset source) → StandsAt source (token_of offset word)
token_stands source offset word slice = stands_by source offset word (bytes_eq word (codes "(")) (bytes_eq word (codes ")")) slice

if_opened : (fits : Bool) (built opened next : Built) → length opened.nodes ≤ length built.nodes + 1 → (if fits then Some opened else None) ≡ Some next → length next.nodes ≤ length built.nodes + 1
if_opened true built opened next less is = subst (λ (b : Built). length b.nodes ≤ length built.nodes + 1) (same_some opened next is) less
  where
    same_some : (a b : Built) → Some a ≡ Some b → a ≡ b
    same_some a b is = cc
if_opened false built opened next less is = absurd cc

closed_few : (nodes : List Node) (lists : List OpenList) (next : Built) → closed_by nodes lists ≡ Some next → length next.nodes ≤ length nodes + 1
closed_few nodes [] next is = absurd cc
closed_few nodes (list ∷ lists) next is =
    let same : set nodes list.index (node.List list.at (length nodes - list.index - 1)) ≡ next.nodes = cc in
    let many = ap length (sym same) ∙ length-set nodes list.index (node.List list.at (length nodes - list.index - 1)) in
    omega (arith, many)

added_few : (limit : ℕ) (built next : Built) (token : Token) → added limit built token ≡ Some next → length next.nodes ≤ length built.nodes + 1
added_few limit built next (Open at) is =
    let many = length-append built.nodes (node.List at 0 ∷ []) in
    if_opened (nat_lt (length built.open_lists) limit) built (record { nodes = built.nodes ++ node.List at 0 ∷ []; open_lists = record { index = length built.nodes; at = at } ∷ built.open_lists }) next (omega (arith, many)) is
added_few limit built next (Close at) is = closed_few built.nodes built.open_lists next is
added_few limit built next (Word at text) is =
    let many = length-append built.nodes (node.Word at (length text) ∷ []) in
    if_opened true built (with_word at (length text) built) next (omega (arith, many)) is

few_by : (limit : ℕ) (built next : Built) (token : Token) (done : Bool) → (if done then None else added limit built token) ≡ Some next → length next.nodes ≤ length built.nodes + 1
few_by limit built next token true is = absurd cc
few_by limit built next token false is = added_few limit built next token is

pub one_node : (limit : ℕ) (built next : Built) (token : Token) → with_token limit built token ≡ Some next → length next.nodes ≤ length built.nodes + 1
one_node limit built next token is = few_by limit built next token (is_done built) is
