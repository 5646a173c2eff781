-- Documents: what is written, as blanks, words and lists. Their bytes have the tokens that their expressions spell.
use Rattle.std.proofs.Common.{◌≡◌, ◌∙◌, ℕ, ◌+◌, true, false, List, [], ◌∷◌, ◌++◌, map, append_assoc, append-nil, refl, sym, ap}
use Rattle.std.specs.List.{flat_map}
use Rattle.p3_task.specs.Names.{Name}
use Rattle.p3_task.specs.Tokens.{Token, Open, Close, Word, Tokens, tokens_from}
use Rattle.p3_task.specs.Expressions.{kept, spelling, spellings}
use Rattle.p3_task.specs.Grammar.Texts.{IsBalanced}
use Rattle.p3_task.proofs.Computes.{trees_compute}
use Rattle.p3_task.specs.declared.expression.Expression.{Expression}
use Rattle.p3_task.specs.declared.expression.Expression.TheBlock.{hidden-the_row-Expression-0, shape-the_row-Expression-0}
use Rattle.p3_task.specs.declared.expression.Expression.TheVariants as expression
use Rattle.p3_lexer.proofs.WordLemmas.{IsWord, is_apart, past, word_read}

-- A word stands behind a space or at the head of a list, so that no two words touch.
pub data Document : Type 0 where
  end : Document
  space : (rest : Document) → Document
  line : (rest : Document) → Document
  -- `()`
  none : (rest : Document) → Document
  -- a space and the word
  word : (text : Name) (fits : IsWord text) (rest : Document) → Document
  -- `(`, the word, what is inside and `)`
  list : (text : Name) (fits : IsWord text) (inside rest : Document) → Document

-- the bytes, before others
abbrev pub bytes : Document → List ℕ → List ℕ
bytes end others = others
bytes (space rest) others = 32 ∷ bytes rest others
bytes (line rest) others = 10 ∷ bytes rest others
bytes (none rest) others = 40 ∷ 41 ∷ bytes rest others
bytes (word text fits rest) others = 32 ∷ (text ++ bytes rest others)
bytes (list text fits inside rest) others = 40 ∷ (text ++ bytes inside (41 ∷ bytes rest others))

-- the offset behind a document
abbrev pub beyond : ℕ → Document → ℕ
beyond at end = at
beyond at (space rest) = beyond (at + 1) rest
beyond at (line rest) = beyond (at + 1) rest
beyond at (none rest) = beyond (at + 1 + 1) rest
beyond at (word text fits rest) = beyond (past (at + 1) text) rest
beyond at (list text fits inside rest) = beyond (beyond (past (at + 1) text) inside + 1) rest

-- the expressions, from an offset on
abbrev pub placed : ℕ → Document → List Expression
placed at end = []
placed at (space rest) = placed (at + 1) rest
placed at (line rest) = placed (at + 1) rest
placed at (none rest) = expression.Group at [] ∷ placed (at + 1 + 1) rest
placed at (word text fits rest) = expression.Word (at + 1) text ∷ placed (past (at + 1) text) rest
placed at (list text fits inside rest) =
    expression.Group at (expression.Word (at + 1) text ∷ placed (past (at + 1) text) inside) ∷ placed (beyond (past (at + 1) text) inside + 1) rest

abbrev kept_all : Tokens → Tokens
kept_all found = record { tokens = map kept found.tokens; foreign = found.foreign }

abbrev onto : List Token → Tokens → Tokens
onto front later = record { tokens = front ++ later.tokens; foreign = later.foreign }

onto_both : (front back : List Token) (later : Tokens) → onto front (onto back later) ≡ onto (front ++ back) later
onto_both front back later = λ i. record { tokens = sym (append_assoc front back later.tokens) i; foreign = later.foreign }

row_spelling : (parts : List Expression) → spellings (hidden-the_row-Expression-0 parts) ≡ flat_map spelling parts
unfolding trees_compute spelling hidden-the_row-Expression-0 shape-the_row-Expression-0
row_spelling [] = refl
row_spelling (part ∷ parts) = ap (λ others. spelling part ++ others) (row_spelling parts)

group_spelling : (at : ℕ) (parts : List Expression)
    → spelling (expression.Group at parts) ≡ Open at ∷ (flat_map spelling parts ++ Close 0 ∷ [])
unfolding trees_compute spelling hidden-the_row-Expression-0 shape-the_row-Expression-0
group_spelling at parts = ap (λ inside. Open at ∷ (inside ++ Close 0 ∷ [])) (row_spelling parts)

-- where others follow that begin with no word, so does the document
apart : (document : Document) (others : List ℕ) → is_apart others ≡ true → is_apart (bytes document others) ≡ true
apart end others e = e
apart (space rest) others e = refl
apart (line rest) others e = refl
apart (none rest) others e = refl
apart (word text fits rest) others e = refl
apart (list text fits inside rest) others e = refl

document_read : (document : Document) (at : ℕ) (others : List ℕ) → is_apart others ≡ true
    → kept_all (tokens_from false at (bytes document others))
    ≡ onto (flat_map spelling (placed at document)) (kept_all (tokens_from false (beyond at document) others))
unfolding tokens_from spelling trees_compute hidden-the_row-Expression-0 shape-the_row-Expression-0
document_read end at others e = refl
document_read (space rest) at others e = document_read rest (at + 1) others e
document_read (line rest) at others e = document_read rest (at + 1) others e
document_read (none rest) at others e = ap (onto (Open at ∷ Close 0 ∷ [])) (document_read rest (at + 1 + 1) others e)
document_read (word text fits rest) at others e =
    ap kept_all (word_read text fits (at + 1) (bytes rest others) (apart rest others e))
    ∙ ap (onto (Word (at + 1) text ∷ [])) (document_read rest (past (at + 1) text) others e)
document_read (list text fits inside rest) at others e =
    let start : ℕ = past (at + 1) text in
    let stop : ℕ = beyond start inside in
    let front : List Token = Open at ∷ Word (at + 1) text ∷ [] in
    let parts : List Token = flat_map spelling (placed start inside) in
    let behind : List Token = flat_map spelling (placed (stop + 1) rest) in
    let later : Tokens = kept_all (tokens_from false (beyond (stop + 1) rest) others) in
    let closing : List ℕ = 41 ∷ bytes rest others in
    ap (λ found. onto (Open at ∷ []) (kept_all found)) (word_read text fits (at + 1) (bytes inside closing) (apart inside closing refl))
    ∙ ap (onto front) (document_read inside start closing refl)
    ∙ ap (λ found. onto front (onto parts (onto (Close 0 ∷ []) found))) (document_read rest (stop + 1) others e)
    ∙ ap (λ found. onto front (onto parts found)) (onto_both (Close 0 ∷ []) behind later)
    ∙ ap (onto front) (onto_both parts (Close 0 ∷ behind) later)
    ∙ ap (λ tokens. onto (front ++ tokens) later) (sym (append_assoc parts (Close 0 ∷ []) behind))
    ∙ ap (λ tokens. onto (tokens ++ behind) later) (sym (group_spelling at (expression.Word (at + 1) text ∷ placed start inside)))

-- a document of one expression is a text of it
pub document_balanced : (whole : Document) (e : Expression) → placed 0 whole ≡ e ∷ [] → IsBalanced (bytes whole []) e
unfolding tokens_from
document_balanced whole e one =
    let nothing : Tokens = kept_all (tokens_from false (beyond 0 whole) []) in
    let read = document_read whole 0 [] refl ∙ ap (λ parts. onto (flat_map spelling parts) nothing) one in
    record {
      known = ap (λ found. found.foreign) read;
      spelled = ap (λ found. found.tokens) read ∙ append-nil _ ∙ append-nil _;
    }
